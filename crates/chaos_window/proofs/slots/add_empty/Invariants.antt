use Rattle.std.proofs.Common.{◌≡◌, replicate, None}
use Rattle.chaos_window.proofs.slots.add_empty.Given as goal

abbrev pub invariant-loop-i : goal.invariant-loop-i
invariant-loop-i l = record {
  items : l.slots.items ≡ replicate l.i None;
  capacity : l.slots.capacity ≡ l.count;
}
