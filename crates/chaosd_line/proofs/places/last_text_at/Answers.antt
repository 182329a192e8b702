-- A place behind which no word stands is the last one, or there is no word at it.
use Rattle.std.proofs.Common.{◌≡◌, ◌∙◌, ◌+◌, ◌==◌, ◌≤◌, ℕ, Bool, true, false, List, Option, arith, length, map, refl}
use Rattle.std.specs.Borrow.{Bor}
use Rattle.std.proofs.lemmas.Bool.Decides.{nat_tests}
use Rattle.std.proofs.lemmas.List.{length-map}
use Rattle.std.proofs.lemmas.Option.{slice_get_past}
use Rattle.clap.specs.Words.{Text}
use Rattle.chaosd_line.specs.Places.{at, last_at}
use Rattle.chaosd_line.specs.Values.{word_of}
use Rattle.chaosd_line.proofs.places.last_text_at.Goals as goal

abbrev text : Bor (List ℕ) → List ℕ
text t = t.now

at_last : (read : Text → Option Text) (place : ℕ) (words : List Text) → length words ≤ place + 1
    → at read place words ≡ last_at read place words
at_last read place words le = by_case (length words == place + 1) refl
  where
    by_case : (b : Bool) → (length words == place + 1) ≡ b → at read place words ≡ last_at read place words
    by_case true e = rw e refl
    by_case false e =
        let past : length words ≤ place = grind (arith, nat_tests) in
        rw (e, slice_get_past words place past) refl

pub returns : goal.returns
returns c =
    let short : length (map text c.args.words.now) ≤ c.args.place.index + 1 =
    omega (arith, length-map c.args.words.now text, c.if-words-next.false, c.from-next.ensures) in
    record {
      value = c.text_at.ensures.value
          ∙ at_last (word_of c.args.form) c.args.place.index (map text c.args.words.now) short;
    }
