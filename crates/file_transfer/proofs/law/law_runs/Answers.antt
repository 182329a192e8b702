use Rattle.std.proofs.Common.{ap, refl}
use Rattle.file_copy.specs.declared.text.Charset.TheVariants.{LispMachine}
use Rattle.file_transfer.specs.Copied.{bytes_in}
use Rattle.file_transfer.specs.Sessions.{IsGet, IsPut, get_of, put_of}
use Rattle.file_transfer.proofs.Sessions.{all_done, each_done}
use Rattle.file_transfer.proofs.Tried.{copied_well}
use Rattle.file_transfer.proofs.law.law_runs.Goals as goal

pub returns-clause-got : goal.returns-clause-got
returns-clause-got g c old new name before after paths severity goes runs done outside =
    all_done g.T.Talk.talked g.T.Talk.connects IsGet _ (λ x. x.session.is_in) (λ x. x.session.login.now) (λ x. x.session.user.talk)
    (λ b d path outcome tries well. let did = copied_well outcome _ _ tries.0 well in (
      get_of path.now did.1.0.0,
      (did.1.0.0, refl),
      did.1.0.1,
      did.1.1,
      ap (λ l. l.now) tries.2.0,
    ))
    old outside name before after paths severity goes new runs done

pub returns-clause-put : goal.returns-clause-put
returns-clause-put g c old new name before after files severity goes runs done outside =
    all_done g.T.Talk.talked g.T.Talk.connects IsPut _ (λ x. x.session.is_in) (λ x. x.session.login.now) (λ x. x.session.user.talk)
    (λ b d file outcome tries well. let did = copied_well outcome _ _ tries.0 well in
    let bytes = bytes_in LispMachine b.is_text did.1.2.0 in (
      put_of did.1.0 bytes,
      (did.1.0, bytes, did.1.1, refl),
      did.1.2.2,
      did.1.3,
      ap (λ l. l.now) tries.2.0,
    ))
    old outside name before after files severity goes new runs done

pub returns-clause-each_got : goal.returns-clause-each_got
returns-clause-each_got g c old between new before path contents before_it came outside =
    let ran =
    each_done g.T.Talk.talked g.T.Talk.connects _ (λ x. x.session.is_in) (λ x. x.session.login.now) (λ x. x.session.user.talk)
    (λ b d one outcome tries. (tries.1, ap (λ l. l.now) tries.2.0)) old outside before between new.session.user.talk
    (get_of path.now came.0.0.0) before_it came.0.0.1 in
    (ran.0, came.0.0.0, ran.1)

pub returns-clause-each_put : goal.returns-clause-each_put
returns-clause-each_put g c old between new before file contents before_it came outside =
    let bytes = bytes_in LispMachine between.is_text came.0.2.0 in
    let ran =
    each_done g.T.Talk.talked g.T.Talk.connects _ (λ x. x.session.is_in) (λ x. x.session.login.now) (λ x. x.session.user.talk)
    (λ b d one outcome tries. (tries.1, ap (λ l. l.now) tries.2.0)) old outside before between new.session.user.talk
    (put_of came.0.0 bytes) before_it came.0.2.2 in
    (ran.0, came.0.0, bytes, came.0.1, ran.1)
