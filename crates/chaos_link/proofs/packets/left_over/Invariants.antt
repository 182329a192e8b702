use Rattle.std.proofs.Common.{◌≡◌, ◌+◌, ◌-◌, ◌*◌, length}
use Rattle.chaos_link.specs.Datagram.{words_of}
use Rattle.chaos_link.specs.Packets.{packets_len, packets_fault}
use Rattle.chaos_link.proofs.packets.left_over.Given as goal

-- What the words come to is what those of the packets that are left come to.
abbrev pub invariant-loop-k : goal.invariant-loop-k
invariant-loop-k l = record {
  fault : packets_fault l.number 1 (words_of l.words) ≡ packets_fault (l.number - l.k) (l.k + 1) (words_of l.rest);
  over : 2 * packets_len l.number (words_of l.words) + length l.rest
      ≡ length l.words + 2 * packets_len (l.number - l.k) (words_of l.rest);
}
