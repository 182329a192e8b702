use Rattle.std.proofs.Common.{◌≡◌, map, take}
use Rattle.chaosd_line.specs.Hosts.{part_in}
use Rattle.chaosd_line.proofs.remote.parts_in.Given as goal

-- the parts so far
abbrev pub invariant-loop-word : goal.invariant-loop-word
invariant-loop-word l = map (λ t. t.now) l.parts.items ≡ map part_in (map (λ t. t.now) (take l.word-index l.words))
