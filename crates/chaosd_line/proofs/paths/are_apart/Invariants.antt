use Rattle.std.proofs.Common.{◌≡◌, drop, map}
use Rattle.chaosd_line.specs.Files.{are_apart, file_view, has_same_path}
use Rattle.chaosd_line.proofs.paths.are_apart.Given as goal

-- no file so far goes under the path of a later one
abbrev pub invariant-loop-i : goal.invariant-loop-i
invariant-loop-i l =
    are_apart has_same_path (map file_view l.files) ≡ are_apart has_same_path (map file_view (drop l.i l.files))
