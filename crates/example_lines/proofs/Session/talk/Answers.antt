use Rattle.std.proofs.Common.{◌≡◌, ℕ, Option, Some, None, Result, Ok, Err, ap, ◌∙◌}
use Rattle.chaos_packet.specs.Outbox.{OutboxView}
use Rattle.chaos_host.specs.declared.fault.CallFault.{CallFault}
use Rattle.chaos_host.specs.declared.slot.Slot.{Slot}
use Rattle.chaos_host.specs.Slot.{named_slot}
use Rattle.chaos_host.specs.View.{HostView}
use Rattle.chaos_stream.specs.HostStream.{StreamView}
use Rattle.chaos_stream.specs.HostReading.{ConsumesFound}
use Rattle.example_lines.proofs.Session.talk.Goals as goal

-- consuming leaves the outbox its cap
cap_kept : (old new : HostView) (s t : StreamView) (count : ℕ) (found : Option Slot) (before after : OutboxView) (answer : Result (Unit {0}) CallFault)
    → ConsumesFound old s count found t new before after answer → after.cap ≡ before.cap
cap_kept old new s t count None before after answer did = ap (λ (o : OutboxView). o.cap) did.1.out
cap_kept old new s t count (Some slot) before after (Ok x) did = ap (λ (o : OutboxView). o.cap) did.did.consumes.packets
cap_kept old new s t count (Some slot) before after (Err fault) did = absurd did

pub returns-in_ok-put_eof-in-Eof : goal.returns-in_ok-put_eof-in-Eof
returns-in_ok-put_eof-in-Eof c =
    let consumed = c.consume-in-Eof in
    ap (λ (o : OutboxView). o.cap) c.put_eof.ensures.does.packets
    ∙ cap_kept c.args.host.now consumed.new.host c.args.self.now.stream consumed.new.self 0 (named_slot c.args.host.now.slots c.args.self.now.stream.id)
    c.args.out.now consumed.new.out consumed.result consumed.ensures
