use Rattle.std.proofs.Common.{◌-◌, ◌≤◌, length}
use Rattle.chaos_node.specs.InTurn.{TurnDoes}
use Rattle.chaos_node.specs.Phase.{over_slots}
use Rattle.chaos_node.specs.Timer.{tick_by}
use Rattle.chaos_node.proofs.turn.Turn.tick_slots.Given as goal

abbrev pub invariant-slots : goal.invariant-slots
invariant-slots g l = record {
  within : l.from ≤ length l.fn.self.host.now.slots;
  done : TurnDoes l.fn.self l.self (over_slots (tick_by l.fn.timers l.fn.self.now) l.from l.fn.self.host.now) l.sent;
}

abbrev pub decreases-slots : goal.decreases-slots
decreases-slots g l = length l.fn.self.host.now.slots - l.from
