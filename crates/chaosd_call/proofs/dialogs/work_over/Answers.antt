use Rattle.std.proofs.Common.{ap, subst, ◌∙◌}
use Rattle.chaosd_line.specs.declared.line.Calling.{Calling}
use Rattle.chaosd_call.specs.Patience.{patience_by}
use Rattle.chaosd_call.specs.Routes.{IsRouteOf}
use Rattle.chaosd_call.proofs.dialogs.work_over.Goals as goal

pub returns-in-Ok-new : goal.returns-in-Ok-new
returns-in-Ok-new g c done =
    let did = c.run_over.ensures done in
    record {
      route = c.route_of-route.result;
      is_route =
          subst (λ (k : Calling). IsRouteOf k c.args.ends.now c.route_of-route.result) c.calling-calling.ensures
          c.route_of-route.ensures;
      passed = c.passed.result;
      timing = c.in-Ok.timing;
      patience = c.in-Ok.ensures ∙ ap (λ (k : Calling). patience_by k.timeout) c.calling-calling.ensures;
      done = (did.0, did.1, did.2 ∙ c.in-Ok-new.ensures.made, did.3, did.4, did.5);
    }
