use Rattle.std.proofs.Common.{◌≡◌, ◌*◌, ◌/◌, ◌%◌, length, take}
use Rattle.chaos_packet.proofs.Pairs.{pairs}
use Rattle.chaos_link.specs.Datagram.{words_of}
use Rattle.chaos_link.proofs.pairs.turn_few.Given as goal

-- So far a word for two bytes.
abbrev pub invariant-loop-i : goal.invariant-loop-i
invariant-loop-i l = record {
  size : length l.words ≡ 8;
  words : take l.i l.words ≡ take l.i (words_of l.from);
}

-- So far two bytes a word, the low one first.
abbrev pub invariant-loop-i-2 : goal.invariant-loop-i-2
invariant-loop-i-2 l = take (2 * l.i) l.to ≡ take (2 * l.i) (pairs (λ w. w % 256) (λ w. w / 256) l.words)
