use Rattle.std.proofs.Common.{◌≡◌, ◌+◌, ◌≤◌, ◌++◌, length, Ok}
use Rattle.chaos_link.specs.Packets.{packets_read}
use Rattle.chaos_link.proofs.packets.read_datagram.Given as goal

-- The packets so far, and those that are left, are those of the bytes.
abbrev pub invariant-loop-turn : goal.invariant-loop-turn
invariant-loop-turn l = record {
  read : packets_read l.bytes ≡ Ok (l.packets.items ++ l.left);
  taken : length l.packets.items ≤ l._turn;
  few : length l.left + l._turn ≤ 8;
}
