use Rattle.std.proofs.Common.{◌≡◌}
use Rattle.chaos_window.proofs.Lowered.{lowered_times}
use Rattle.chaos_window.proofs.slots.empty_all.Given as goal

abbrev pub invariant-loop-i : goal.invariant-loop-i
invariant-loop-i l = record {
  items : l.slots.items ≡ lowered_times l.i l.fn.slots.items;
  capacity : l.slots.capacity ≡ l.fn.slots.capacity;
}
