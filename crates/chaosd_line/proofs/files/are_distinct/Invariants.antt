use Rattle.std.proofs.Common.{◌≡◌, drop, map}
use Rattle.chaosd_line.specs.Files.{are_distinct}
use Rattle.chaosd_line.proofs.files.are_distinct.Given as goal

-- no text so far has the name of a later one
abbrev pub invariant-loop-i : goal.invariant-loop-i
invariant-loop-i l = are_distinct (map (λ t. t.now) l.texts) ≡ are_distinct (map (λ t. t.now) (drop l.i l.texts))
