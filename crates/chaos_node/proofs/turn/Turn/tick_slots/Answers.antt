use Rattle.std.proofs.Common.{◌≡◌, ◌<◌, length, arith, ◌∙◌}
use Rattle.chaos_node.specs.Timer.{tick_by}
use Rattle.chaos_node.proofs.Free.{then_next, then_none, timed_pass}
use Rattle.chaos_node.proofs.turn.Turn.tick_slots.Goals as goal
use Rattle.chaos_node.proofs.turn.Turn.tick_slots.Goals.{then-tick_by, else-tick_by}

pub slots-preserved : goal.slots-preserved
slots-preserved g c =
    let turn = c.args.self.now in
    let done = c.slots.invariant.done in
    let next = c.in-Some.ensures.next in
    let size : length c.slots.self.host.now.slots ≡ length turn.host.now.slots = done.0.size in
    let within : c.in-Some.place < length c.slots.self.host.now.slots = next.within in
    record {
      within = omega (arith, size, within);
      done =
          then_next turn c.slots.self c.tick_by.new.self (tick_by c.args.timers.now) c.slots.from c.in-Some.place c.slots.sent
          c.tick_by.result c.if-tick_by.sent (timed_pass c.args.timers.now turn.now) done next c.tick_by.ensures
          (elim c.if-tick_by.branch
          [ then-tick_by w ↦ rw w.if-tick_by.true (w.sent-is ∙ w.if-tick_by.true) | else-tick_by w ↦ rw w.if-tick_by.false w.sent-is ]);
    }

pub returns : goal.returns
returns g c =
    then_none c.args.self.now c.slots.self (tick_by c.args.timers.now c.args.self.now.now) c.slots.from c.slots.sent
    (timed_pass c.args.timers.now c.args.self.now.now) c.slots.invariant.done c.slots.invariant.within c.in_default.ensures.next
