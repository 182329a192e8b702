-- The files may be put, or not.
use Rattle.std.proofs.Common.{◌≡◌, ◌∙◌, ◌&&◌, ℕ, Bool, List, None, Option, Some, ap, false, if◌then◌else◌, map, refl, sym, true}
use Rattle.std.specs.Borrow.{Bor}
use Rattle.std.specs.List.{list_all}
use Rattle.std.proofs.lemmas.List.{take_all}
use Rattle.std.proofs.lemmas.List.Folds.{list_all-map}
use Rattle.clap.specs.Words.{Text}
use Rattle.chaosd_line.specs.Files.{are_apart, file_view, goes_same, has_same_path, is_file, own_files, path_for, put_files}
use Rattle.chaosd_line.specs.Lines.{IfBad}
use Rattle.chaosd_line.specs.declared.line_problem.LineProblem.{LineProblem}
use Rattle.chaosd_line.specs.declared.line_problem.LineProblem.TheVariants as problem
use Rattle.chaosd_line.proofs.Named.{apart_of}
use Rattle.chaosd_line.proofs.paths.own_files.Goals as goal
use Rattle.chaosd_line.proofs.paths.own_files.Goals.{else-all_files-via-then-all_files+else-are_apart, else-all_files-via-else-all_files}

abbrev text : Bor (List ℕ) → List ℕ
text t = t.now

made : (is_renaming : Bool) (texts : List Text) (files : List (Text × Option Text)) (all apart : Bool)
    → files ≡ own_files is_renaming texts → all ≡ list_all is_file texts → apart ≡ are_apart has_same_path files
    → put_files is_renaming None texts ≡ (if all && apart then Some files else None)
made is_renaming texts files all apart made_of files_of apart_of_files =
    let test : (list_all is_file texts && are_apart (goes_same is_renaming) texts) ≡ (all && apart) =
    ap (λ b. b && are_apart (goes_same is_renaming) texts) (sym files_of)
    ∙ ap (λ b. all && b)
    (sym (apart_of has_same_path (λ t. (t, path_for is_renaming t)) texts) ∙ ap (are_apart has_same_path) (sym made_of)
    ∙ sym apart_of_files) in
    ap (λ b. if b then Some (own_files is_renaming texts) else None) test
    ∙ ap (λ fs. if all && apart then Some fs else None) (sym made_of)

if_bad : (p : LineProblem) (T : Type 0) → T → IfBad p T
if_bad (problem.Bad word) T t = t
if_bad (problem.Clash files) T t = t
if_bad problem.NoMemory T t = tt

pub returns-then-are_apart : goal.returns-then-are_apart
returns-then-are_apart c = made c.args.is_renaming (map text c.args.texts.now) _ true true
    (c.loop-local.invariant
    ∙ ap (λ ts. own_files c.args.is_renaming (map text ts))
    (take_all c.loop-local.local-index c.args.texts.now c.loop-local-test.false))
    (sym c.if-all_files.true ∙ c.all_files.ensures ∙ sym (list_all-map is_file text c.args.texts.now))
    (sym c.if-are_apart.true ∙ c.are_apart.ensures
    ∙ ap (λ fs. are_apart has_same_path (map file_view fs)) c.as_slice.ensures.value)

pub returns : goal.returns
returns c =
    let files = c.loop-local.invariant
    ∙ ap (λ ts. own_files c.args.is_renaming (map text ts))
    (take_all c.loop-local.local-index c.args.texts.now c.loop-local-test.false) in
    if_bad c.bad_files.result _ (elim c.else-all_files.branch [
      | else-all_files-via-then-all_files+else-are_apart w ↦ made c.args.is_renaming (map text c.args.texts.now) _ true false
          files
          (sym w.if-all_files.true ∙ c.all_files.ensures ∙ sym (list_all-map is_file text c.args.texts.now))
          (sym w.if-are_apart.false ∙ w.are_apart.ensures
          ∙ ap (λ fs. are_apart has_same_path (map file_view fs)) w.as_slice.ensures.value)
      | else-all_files-via-else-all_files w ↦ made c.args.is_renaming (map text c.args.texts.now) _ false
          (are_apart has_same_path (map file_view c.loop-local.files.items)) files
          (sym w.if-all_files.false ∙ c.all_files.ensures ∙ sym (list_all-map is_file text c.args.texts.now)) refl
    ])
