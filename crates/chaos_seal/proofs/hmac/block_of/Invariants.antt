use Rattle.std.proofs.Common.{take, map, bit_xor}
use Rattle.sha2.specs.Hashers.{Holds256}
use Rattle.chaos_seal.proofs.hmac.block_of.Given as goal

-- So far the hasher holds the first bytes.
abbrev pub invariant-loop-i : goal.invariant-loop-i
invariant-loop-i l = Holds256 l.hasher (map (bit_xor l.pad) (take l.i l.key))
