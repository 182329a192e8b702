use Rattle.std.proofs.Common.{◌≡◌, length}
use Rattle.chaos_packet.proofs.ring.fill_up.Given as goal

-- So far a place for each.
abbrev pub invariant-loop-i : goal.invariant-loop-i
invariant-loop-i g l = record {
  size : length l.places.items ≡ l.i;
  capacity : l.places.capacity ≡ l.count;
}
