use Rattle.std.proofs.Common.{◌≡◌, ◌+◌, ◌++◌, length, take}
use Rattle.chaos_packet.specs.Words.{packed}
use Rattle.chaos_packet.proofs.writing.pack.Given as goal

-- So far a word for two bytes, behind the header.
abbrev pub invariant-loop-i : goal.invariant-loop-i
invariant-loop-i l = record {
  size : length l.words ≡ 252;
  words : take (8 + l.i) l.words ≡ take 8 l.fn.words ++ take l.i (packed l.bytes);
}
