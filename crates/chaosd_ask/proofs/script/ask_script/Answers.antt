use Rattle.std.specs.Prelude.{Err}
use Rattle.std.proofs.lemmas.Result.{err_from_is_err_and}
use Rattle.file_client.specs.Talk.{Anything, talker}
use Rattle.file_client.proofs.Asked.{hangs_up_by}
use Rattle.chaosd_io.specs.Fault.{run_fault}
use Rattle.chaosd_ask.proofs.Asking.{broke_off, if_asked, not_parted, parts_or_failed}
use Rattle.chaosd_ask.proofs.Noting.{broken_noted}
use Rattle.chaosd_ask.proofs.script.ask_script.Goals as goal

pub returns-clause-talk : goal.returns-clause-talk
returns-clause-talk g c = (
  talker c.ask_all-end.new.client.host.now.caller (g.D.Driver.queue c.ask_all-end.new.client.driver),
  (rw c.in_ok-end.was at c.ask_all-end.ensures.talk),
  (
    c.hang_up-parted.new.self.host.now.caller,
    hangs_up_by _ Anything (λ asks asked. tt) _ _ _ _ _
        (rw c.ask_all-end.ensures.same_driver.1 at c.in_ok-parted.ensures.well),
  ),
)

pub returns-in_err-end-clause-talk : goal.returns-in_err-end-clause-talk
returns-in_err-end-clause-talk g c =
    let p = err_from_is_err_and c.from_residual.result c.from_residual.ensures.1 in
    let parted = talker c.ask_all-end.new.client.host.now.caller (g.D.Driver.queue c.ask_all-end.new.client.driver) in
    rw (p.1, p.2)
    (if_asked (Err c.in_err-end.field-0.0) _
    (broke_off _ _ _ parted _ _ _ _ _ c.in_err-end.field-0.0
    (rw c.in_err-end.was at c.ask_all-end.ensures.talk)
    (parts_or_failed _ _ _ _ parted _ c.hang_up-parted.new.self.host.now.caller c.hang_up-parted.result
    (rw c.ask_all-end.ensures.same_driver.1 at c.hang_up-parted.ensures.well)
    (rw c.ask_all-end.ensures.same_driver.1 at c.hang_up-parted.ensures.faults))))

pub returns-in_err-parted-clause-talk : goal.returns-in_err-parted-clause-talk
returns-in_err-parted-clause-talk g c =
    let p = err_from_is_err_and c.from_residual-in_err-parted.result c.from_residual-in_err-parted.ensures.1 in
    let parted = talker c.ask_all-end.new.client.host.now.caller (g.D.Driver.queue c.ask_all-end.new.client.driver) in
    rw (p.1, p.2)
    (if_asked (Err (run_fault c.in_err-parted.field-0.0)) _
    (not_parted _ _ _ _ _ parted _ _ _ _ _ c.in_err-parted.field-0.0
    (rw c.ask_all-end.ensures.same_driver.1 at c.in_err-parted.ensures.faults)))

pub returns-in_err-parted-clause-noted : goal.returns-in_err-parted-clause-noted
returns-in_err-parted-clause-noted g c =
    let p = err_from_is_err_and c.from_residual-in_err-parted.result c.from_residual-in_err-parted.ensures.1 in
    rw (p.1, p.2) (broken_noted _ _ _ _ _ c.in_err-parted.field-0.0)
