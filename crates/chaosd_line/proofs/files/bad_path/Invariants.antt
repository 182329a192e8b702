use Rattle.std.proofs.Common.{◌≡◌, drop, map, not, unwrap_or}
use Rattle.std.specs.List.{find}
use Rattle.chaos_file.specs.Names.{is_path}
use Rattle.chaosd_line.specs.Files.{bad_path, first_repeated}
use Rattle.chaosd_line.proofs.files.bad_path.Given as goal

-- each text so far is a path
abbrev pub invariant-loop-i : goal.invariant-loop-i
invariant-loop-i l =
    bad_path (map (λ t. t.now) l.texts)
    ≡ unwrap_or (find (λ t. not (is_path t)) (map (λ t. t.now) (drop l.i l.texts))) (first_repeated (map (λ t. t.now) l.texts))
