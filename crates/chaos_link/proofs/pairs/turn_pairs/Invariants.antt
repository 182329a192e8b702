use Rattle.std.proofs.Common.{◌≡◌, ◌*◌, take}
use Rattle.chaos_packet.specs.Words.{halves}
use Rattle.chaos_link.specs.Datagram.{words_of}
use Rattle.chaos_link.proofs.pairs.turn_pairs.Given as goal

-- So far as many blocks, turned round.
abbrev pub invariant-loop-block : goal.invariant-loop-block
invariant-loop-block l = take (16 * l.block) l.to ≡ take (16 * l.block) (halves (words_of l.from))
