-- The texts of a rest are the rest of the texts.
use Rattle.std.proofs.Common.{◌∙◌, ℕ, List, ap, map, sym}
use Rattle.std.specs.Borrow.{Bor}
use Rattle.std.proofs.lemmas.List.{drop-map, take_rest}
use Rattle.chaosd_line.proofs.places.words_from.Goals as goal

abbrev text : Bor (List ℕ) → List ℕ
text t = t.now

pub returns-else-words-index : goal.returns-else-words-index
returns-else-words-index c =
    ap (map text) (take_rest c.args.words.now c.args.index) ∙ sym (drop-map text c.args.index c.args.words.now)
