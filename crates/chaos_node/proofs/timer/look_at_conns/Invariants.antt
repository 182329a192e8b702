use Rattle.std.proofs.Common.{◌≡◌, ℕ, ◌-◌, ◌≤◌, length}
use Rattle.chaos_node.specs.Timer.{looked_slots}
use Rattle.chaos_node.proofs.timer.look_at_conns.Given as goal

abbrev pub invariant-slots : goal.invariant-slots
invariant-slots l = record {
  within : l.from ≤ length l.host.slots;
  seen : l.timers ≡ looked_slots l.now l.host l.from l.initial.timers;
}

abbrev pub decreases-slots : goal.decreases-slots
decreases-slots l = length l.host.slots - l.from
