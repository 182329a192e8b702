use Rattle.std.proofs.Common.{refl, ap, sym, subst, ◌∙◌}
use Rattle.std.specs.Prelude.{IfErr}
use Rattle.chaos_link.specs.Link.{Asks}
use Rattle.file_copy.specs.Talk.{counted}
use Rattle.file_client.specs.Caller.{TurnsOrStops}
use Rattle.file_client.specs.Fault.{IsTurnFault}
use Rattle.file_client.specs.Patience.{millis_waited}
use Rattle.file_client.proofs.Asked.{well_by}
use Rattle.file_client.proofs.Telling.{says_sent_at, says_received_at, says_turn_at}
use Rattle.file_client.proofs.client.ClientTalk.TheImpl.Goals as goal

pub send-tells : goal.send-tells
send-tells g c = record {
  sent = record {
    goes = λ first talk h. (
      ap g.D.Driver.time c.ensures.same.0 ∙ h.0,
      says_sent_at _ _ _ _
          (λ asks was. subst (λ d. g.D.Driver.asked d first.driver asks) (sym c.ensures.same.0) was) _ _ talk _ _ _ _ _
          c.ensures.sent (ap g.D.Driver.queue c.ensures.same.0) c.ensures.same.1 h.1,
    );
  };
  kept = refl;
  still = ap counted c.ensures.still;
  unfailed = ap g.D.Driver.failures c.ensures.same.0;
  patient = ap (λ d. millis_waited (g.D.Driver.pace (g.D.Driver.time d)).patience) c.ensures.same.0;
}

pub receive-tells : goal.receive-tells
receive-tells g c = record {
  received = record {
    goes = λ first talk h. (
      ap g.D.Driver.time c.ensures.same.0 ∙ h.0,
      says_received_at _ _ _ _
          (λ asks was. subst (λ d. g.D.Driver.asked d first.driver asks) (sym c.ensures.same.0) was) _ _ talk _ _ _ _
          c.ensures.received (ap g.D.Driver.queue c.ensures.same.0) c.ensures.same.1 h.1,
    );
  };
  next = refl;
  still = ap counted c.ensures.still;
  unfailed = ap g.D.Driver.failures c.ensures.same.0;
  patient = ap (λ d. millis_waited (g.D.Driver.pace (g.D.Driver.time d)).patience) c.ensures.same.0;
}

pub turn-tells : goal.turn-tells
turn-tells g c = record {
  silent = record {
    goes = λ first talk h. (
      c.ensures.same_driver.1 ∙ h.0,
      says_turn_at _ _ _ _ _ (λ asks more was then. then.goes first.driver asks was) _ _ _ _ talk _ _ _
          (subst
          (λ time. TurnsOrStops (g.D.Driver.pace time)
          (Asks (g.D.Driver.asked c.args.self.now.driver) (g.D.Driver.asked c.new.self.now.driver))
          c.args.self.now.host.now.now c.new.self.now.host.now.now (g.D.Driver.queue c.args.self.now.driver)
          (g.D.Driver.queue c.new.self.now.driver) c.args.self.now.host.now.caller c.new.self.now.host.now.caller)
          h.0 c.ensures.went) h.1,
    );
  };
  kept = refl;
  unfailed = c.ensures.unfailed;
  counted = c.ensures.counted;
  patient = ap (λ time. millis_waited (g.D.Driver.pace time).patience) c.ensures.same_driver.1;
  faults = subst (λ time. IfErr c.result (IsTurnFault (g.D.Driver.stops time) (g.D.Driver.failures c.new.self.now.driver)))
      (sym c.ensures.same_driver.1) c.ensures.faults;
}

pub connect-tells : goal.connect-tells
connect-tells g c = record {
  connects = well_by c.result _ _ (λ well. (c.ensures.same_driver.1, well)) c.ensures.well;
  unfailed = c.ensures.unfailed;
  patient = ap (λ time. millis_waited (g.D.Driver.pace time).patience) c.ensures.same_driver.1;
  faults = subst (λ time. IfErr c.result (IsTurnFault (g.D.Driver.stops time) (g.D.Driver.failures c.new.self.now.driver)))
      (sym c.ensures.same_driver.1) c.ensures.faults;
}

pub end-tells : goal.end-tells
end-tells g c = ap (λ time. millis_waited (g.D.Driver.pace time).patience) c.ensures.same_driver.1
