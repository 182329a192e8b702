use Rattle.std.proofs.Common.{◌≡◌, ◌++◌, map, take}
use Rattle.chaosd_line.specs.Files.{path_byte}
use Rattle.chaosd_line.proofs.paths.add_path_bytes.Given as goal

-- the bytes so far were added
abbrev pub invariant-loop-b : goal.invariant-loop-b
invariant-loop-b l = l.path.items ≡ l.initial.path.items ++ map path_byte (take l.b-index l.bytes)
