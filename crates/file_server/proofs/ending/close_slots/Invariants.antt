use Rattle.std.proofs.Common.{◌-◌, ◌≤◌, length}
use Rattle.chaos_node.specs.InTurn.{TurnDoes}
use Rattle.chaos_node.specs.Phase.{over_slots}
use Rattle.file_server.specs.Slots.{close_at}
use Rattle.file_server.proofs.ending.close_slots.Given as goal

abbrev pub invariant-slots : goal.invariant-slots
invariant-slots g l = record {
  within : l.from ≤ length l.fn.turn.host.now.slots;
  done : TurnDoes l.fn.turn l.turn (over_slots (close_at l.fn.silence l.fn.turn.now l.fn.sessions) l.from l.fn.turn.host.now) l.sent;
}

abbrev pub decreases-slots : goal.decreases-slots
decreases-slots g l = length l.fn.turn.host.now.slots - l.from
