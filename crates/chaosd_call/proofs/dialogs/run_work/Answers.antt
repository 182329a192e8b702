use Rattle.std.proofs.Common.{ap, subst, sym, ◌∙◌}
use Rattle.chaosd_line.specs.declared.line.Calling.{Calling}
use Rattle.chaosd_call.specs.Called.{LeadsTo}
use Rattle.chaosd_call.proofs.Done.{over_chudp, over_own}
use Rattle.chaosd_call.proofs.dialogs.run_work.Goals as goal

pub returns-in-Own : goal.returns-in-Own
returns-in-Own g c done =
    over_own _ c.in-Own.field-0 _ _ (sym (ap (λ (k : Calling). k.framing) c.calling-calling.ensures) ∙ c.in-Own.is) (
      c.in-Ok.opened.ends,
      subst (λ (k : Calling). LeadsTo k.target c.in-Ok.opened.ends) c.calling-calling.ensures c.in-Ok.ensures.leads,
      c.work_over.ensures done,
    )

pub returns : goal.returns
returns g c done =
    over_chudp _ c.in-Chudp.bridge _ _ (sym (ap (λ (k : Calling). k.framing) c.calling-calling.ensures) ∙ c.in-Chudp.is) (
      c.in-Ok.opened.ends,
      subst (λ (k : Calling). LeadsTo k.target c.in-Ok.opened.ends) c.calling-calling.ensures c.in-Ok.ensures.leads,
      c.work_over-in-Chudp.ensures done,
    )
