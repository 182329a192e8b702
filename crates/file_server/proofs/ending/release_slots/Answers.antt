use Rattle.std.proofs.Common.{◌≡◌, ℕ, ◌<◌, length, arith, ◌∙◌}
use Rattle.chaos_node.proofs.Free.{then_next, then_none}
use Rattle.file_server.specs.Slots.{release_at}
use Rattle.file_server.proofs.Free.{releases_pass}
use Rattle.file_server.proofs.ending.release_slots.Goals as goal
use Rattle.file_server.proofs.ending.release_slots.Goals.{then-release_slot, else-release_slot}

pub slots-preserved : goal.slots-preserved
slots-preserved g c =
    let turn = c.args.turn.now in
    let next = c.in-Some.ensures.next in
    let size : length c.slots.turn.host.now.slots ≡ length turn.host.now.slots = c.slots.invariant.done.0.size in
    let within : c.in-Some.place < length c.slots.turn.host.now.slots = next.within in
    record {
      within = omega (arith, size, within);
      done =
          then_next turn c.slots.turn c.release_slot.new.turn (λ (now : ℕ). release_at) c.slots.from c.in-Some.place
          c.slots.sent c.release_slot.result c.if-release_slot.sent releases_pass c.slots.invariant.done next
          c.release_slot.ensures
          (elim c.if-release_slot.branch
          [ then-release_slot w ↦ rw w.if-release_slot.true (w.sent-is ∙ w.if-release_slot.true) | else-release_slot w ↦ rw w.if-release_slot.false w.sent-is ]);
    }

pub returns : goal.returns
returns g c =
    then_none c.args.turn.now c.slots.turn release_at c.slots.from c.slots.sent releases_pass c.slots.invariant.done
    c.slots.invariant.within c.in_default.ensures.next
