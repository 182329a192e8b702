-- A test of the texts is one of the references to them.
use Rattle.std.proofs.Common.{◌≡◌, ◌∙◌, ◌&&◌, List, ℕ, ap, false, map, sym, true}
use Rattle.std.specs.Borrow.{Bor}
use Rattle.std.specs.List.{list_all}
use Rattle.std.proofs.lemmas.List.Folds.{list_all-map}
use Rattle.chaos_file.specs.Names.{is_path}
use Rattle.chaosd_line.specs.Files.{are_distinct}
use Rattle.chaosd_line.proofs.files.are_paths.Goals as goal

abbrev text : Bor (List ℕ) → List ℕ
text t = t.now

pub returns-then-all_paths : goal.returns-then-all_paths
returns-then-all_paths c =
    let all : list_all is_path (map text c.args.texts.now) ≡ true =
    list_all-map is_path text c.args.texts.now ∙ sym c.all_paths.ensures ∙ c.if-all_paths.true in
    c.are_distinct.ensures ∙ sym (ap (λ b. b && are_distinct (map text c.args.texts.now)) all)

pub returns-else-all_paths : goal.returns-else-all_paths
returns-else-all_paths c =
    let all : list_all is_path (map text c.args.texts.now) ≡ false =
    list_all-map is_path text c.args.texts.now ∙ sym c.all_paths.ensures ∙ c.if-all_paths.false in
    c.if-all_paths.false ∙ sym (ap (λ b. b && are_distinct (map text c.args.texts.now)) all)
