use Rattle.std.proofs.Common.{◌≡◌, drop, map}
use Rattle.chaosd_line.specs.Files.{first_repeated}
use Rattle.chaosd_line.proofs.files.repeated.Given as goal

-- no text so far has the name of a later one
abbrev pub invariant-loop-i : goal.invariant-loop-i
invariant-loop-i l = first_repeated (map (λ t. t.now) l.texts) ≡ first_repeated (map (λ t. t.now) (drop l.i l.texts))
