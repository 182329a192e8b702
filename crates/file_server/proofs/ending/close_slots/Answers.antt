use Rattle.std.proofs.Common.{◌≡◌, ℕ, ◌<◌, length, arith, ◌∙◌}
use Rattle.chaos_node.proofs.Free.{then_next, then_none}
use Rattle.file_server.specs.Slots.{close_at}
use Rattle.file_server.proofs.Free.{closes_pass}
use Rattle.file_server.proofs.ending.close_slots.Goals as goal
use Rattle.file_server.proofs.ending.close_slots.Goals.{then-close_slot, else-close_slot}

pub close_slot-requires : goal.close_slot-requires
close_slot-requires g c =
    let size : length c.slots.turn.host.now.slots ≡ length c.args.turn.now.host.now.slots = c.slots.invariant.done.0.size in
    let within : c.in-Some.place < length c.slots.turn.host.now.slots = c.in-Some.ensures.next.within in
    omega (arith, size, within, c.requires.alike)

pub slots-preserved : goal.slots-preserved
slots-preserved g c =
    let turn = c.args.turn.now in
    let next = c.in-Some.ensures.next in
    let size : length c.slots.turn.host.now.slots ≡ length turn.host.now.slots = c.slots.invariant.done.0.size in
    let within : c.in-Some.place < length c.slots.turn.host.now.slots = next.within in
    record {
      within = omega (arith, size, within);
      done =
          then_next turn c.slots.turn c.close_slot.new.turn
          (λ (now : ℕ). close_at c.args.silence now c.args.sessions.now) c.slots.from c.in-Some.place c.slots.sent
          c.close_slot.result c.if-close_slot.sent (closes_pass c.args.silence turn.now c.args.sessions.now)
          c.slots.invariant.done next c.close_slot.ensures
          (elim c.if-close_slot.branch
          [ then-close_slot w ↦ rw w.if-close_slot.true (w.sent-is ∙ w.if-close_slot.true) | else-close_slot w ↦ rw w.if-close_slot.false w.sent-is ]);
    }

pub returns : goal.returns
returns g c =
    let turn = c.args.turn.now in
    then_none turn c.slots.turn (close_at c.args.silence turn.now c.args.sessions.now) c.slots.from c.slots.sent
    (closes_pass c.args.silence turn.now c.args.sessions.now) c.slots.invariant.done c.slots.invariant.within
    c.in_default.ensures.next
