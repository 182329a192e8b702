-- The texts of a beginning are the beginning of the texts.
use Rattle.std.proofs.Common.{◌∙◌, ◌-◌, ℕ, List, ap, map, sym, take}
use Rattle.std.specs.Borrow.{Bor}
use Rattle.std.proofs.lemmas.List.{length-map, take-map}
use Rattle.chaosd_line.proofs.places.words_before_last.Goals as goal

abbrev text : Bor (List ℕ) → List ℕ
text t = t.now

pub returns : goal.returns
returns c = sym (take-map text c.saturating_sub.result c.args.words.now)
    ∙ ap (λ n. take n (map text c.args.words.now))
    (c.saturating_sub.ensures ∙ ap (λ n. n - 1) (sym (length-map c.args.words.now text)))
