use Rattle.std.proofs.Common.{◌≡◌, ◌-◌, ◌≤◌, false, length}
use Rattle.chaos_node.specs.Slots.{any_within}
use Rattle.chaos_node.specs.Timer.{resends_at}
use Rattle.chaos_node.proofs.timer.resends_any.Given as goal

abbrev pub invariant-slots : goal.invariant-slots
invariant-slots l = record {
  within : l.from ≤ length l.fn.host.slots;
  none : any_within (resends_at l.fn.timers l.fn.now l.fn.host) l.from ≡ false;
}

abbrev pub decreases-slots : goal.decreases-slots
decreases-slots l = length l.fn.host.slots - l.from
