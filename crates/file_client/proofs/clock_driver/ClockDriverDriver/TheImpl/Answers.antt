use Rattle.std.proofs.Common.{◌≡◌, ◌∷◌, [], ℕ, Bool, true, false, ◌&&◌, List, Option, refl, ap, sym, ◌∙◌}
use Rattle.chaos_packet.specs.Outbox.{OutboxView}
use Rattle.chaos_link.specs.Link.{Ask, QueueView}
use Rattle.chaos_link.specs.declared.carriage.Carriage.{Carriage}
use Rattle.chaos_host.specs.View.{HostView}
use Rattle.chaos_node.specs.declared.timer.RetransmitTimer.{RetransmitTimer}
use Rattle.file_client.specs.Turn.{TakesTimedTurn}
use Rattle.file_client.proofs.Asked.{takes_through}
use Rattle.file_client.proofs.clock_driver.ClockDriverDriver.TheImpl.Goals as goal

both_allow : (a b w : Bool) → w ≡ (a && b) → w ≡ true → a ≡ true
both_allow true b w is waits = refl
both_allow false b w is waits = sym is ∙ waits

-- a turn that waits only where something else is so, too, waits only where it may
waits_less : (timers : List RetransmitTimer) (asked : List Ask → Type 0) (a b : Bool) (carriage : Carriage) (now : ℕ)
    (host left : HostView) (before after : Option QueueView) (waiting out : OutboxView)
    → TakesTimedTurn timers asked (λ waits. waits ≡ (a && b)) carriage now host left before after waiting out
    → TakesTimedTurn timers asked (λ waits. waits ≡ true → a ≡ true) carriage now host left before after waiting out
waits_less timers asked a b carriage now host left before after waiting out (may_wait, waits, end, told, runs) =
    (may_wait, both_allow a b may_wait waits, end, told, runs)

pub turn-tells : goal.turn-tells
turn-tells g x c = record {
  turned =
      takes_through c.args.self.now (λ t. t.link.now) (g.L.Link.asked c.args.self.now.link.now)
      (g.L.Link.asked c.new.self.now.link.now) c.new.self.now.timers.now (λ waits. waits ≡ true → c.args.may_wait ≡ true) c.args.carriage
      c.args.now c.args.host.now c.new.host.now (g.L.Link.queue c.args.self.now.link.now)
      (g.L.Link.queue c.new.self.now.link.now) c.args.out.now c.new.out.now
      (waits_less _ _ _ _ _ _ _ _ _ _ _ _ c.ensures.timed);
  sent = c.ensures.sent;
  same_links = ap (λ name. name ∷ []) c.ensures.same_link;
  same_time =
      ap (λ clock. (clock, c.new.self.now.timing)) c.ensures.same_clock.0
      ∙ ap (λ timing. (c.args.self.now.clock.now, timing)) c.ensures.same_clock.1;
  later = refl;
  well = c.ensures.well;
  faults = c.ensures.faults;
  failed = c.ensures.failed;
}
