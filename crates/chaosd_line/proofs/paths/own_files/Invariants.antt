use Rattle.std.proofs.Common.{◌≡◌, map, take}
use Rattle.chaosd_line.specs.Files.{file_view, own_files}
use Rattle.chaosd_line.proofs.paths.own_files.Given as goal

-- the files so far, each with its path
abbrev pub invariant-loop-local : goal.invariant-loop-local
invariant-loop-local l =
    map file_view l.files.items ≡ own_files l.is_renaming (map (λ t. t.now) (take l.local-index l.texts))
