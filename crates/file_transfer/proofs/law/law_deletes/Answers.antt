use Rattle.std.proofs.Common.{ap, refl}
use Rattle.file_transfer.specs.Sessions.{IsDelete, delete_of}
use Rattle.file_transfer.proofs.Sessions.{all_done}
use Rattle.file_transfer.proofs.Tried.{changed_well}
use Rattle.file_transfer.proofs.law.law_deletes.Goals as goal

pub returns : goal.returns
returns g c old new name before after paths severity goes runs done outside =
    all_done g.T.Talk.talked g.T.Talk.connects IsDelete _ (λ x. x.session.is_in) (λ x. x.session.login.now)
    (λ x. x.session.user.talk)
    (λ b d path outcome tries well. let did = changed_well outcome _ tries.0 well in (
      delete_of path.now,
      refl,
      did.0,
      did.1,
      ap (λ l. l.now) tries.1,
    ))
    old outside name before after paths severity goes new runs done
