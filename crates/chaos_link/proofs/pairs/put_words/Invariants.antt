use Rattle.std.proofs.Common.{◌≡◌, ◌+◌, ◌*◌, ◌/◌, ◌%◌, ◌++◌, take}
use Rattle.chaos_packet.proofs.Pairs.{pairs}
use Rattle.chaos_link.proofs.pairs.put_words.Given as goal

-- So far two bytes a word, the high one first, behind the front.
abbrev pub invariant-loop-i : goal.invariant-loop-i
invariant-loop-i l =
    take (l.front + 2 * l.i) l.bytes
    ≡ take l.front l.fn.bytes ++ take (2 * l.i) (pairs (λ w. w / 256) (λ w. w % 256) l.words)
