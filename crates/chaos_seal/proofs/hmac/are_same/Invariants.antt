use Rattle.std.proofs.Common.{◌≡◌, ◌↔◌, take}
use Rattle.chaos_seal.proofs.hmac.are_same.Given as goal

-- So far no byte differed where the first are the same.
abbrev pub invariant-loop-i : goal.invariant-loop-i
invariant-loop-i l = (l.differ ≡ 0) ↔ (take l.i l.a ≡ take l.i l.b)
