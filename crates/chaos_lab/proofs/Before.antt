-- Events of a list that have happened, before the others.
use Rattle.std.proofs.Common.{◌≡◌, ℕ, zero, suc, List, [], ◌∷◌, ◌++◌, length, take, Some, None, refl, sym, ap, ◌∙◌, subst, rules, append_assoc}
use Rattle.std.specs.Prelude.{slice_get, Result, Ok, Err, OnErr}
use Rattle.chaos_lab.specs.Laboratory.{LabView, Happening, happen, after_all, check, StopsWithin}
use Rattle.chaos_lab.specs.Tied.{Stops}
use Rattle.chaos_lab.proofs.Playing.{after_both}

-- a laboratory after the first events of a list, and the rest of the list
pub record Before (start : LabView) (whole : List Happening) (now : LabView) (rest : List Happening) : Type 0 where
  pub done : List Happening
  pub at : now ≡ after_all start done
  pub all : whole ≡ done ++ rest

pub before_none : (l : LabView) (whole rest : List Happening) → rest ≡ whole → Before l whole l rest
before_none l whole rest same = record { done = []; at = refl; all = sym same }

pub before_one : (l : LabView) (whole : List Happening) (now next : LabView) (event : Happening)
    (rest others : List Happening)
    → Before l whole now rest → rest ≡ event ∷ others → next ≡ (happen now event).lab → Before l whole next others
before_one l whole now next event rest others b is goes =
    record {
      done = b.done ++ event ∷ [];
      at = goes ∙ ap (λ (m : LabView). (happen m event).lab) b.at ∙ sym (after_both l b.done (event ∷ []));
      all = b.all ∙ ap (λ es. b.done ++ es) is ∙ sym (append_assoc b.done (event ∷ []) others);
    }

pub before_all : (l : LabView) (whole : List Happening) (now : LabView) (rest : List Happening)
    → Before l whole now rest → rest ≡ [] → now ≡ after_all l whole
before_all l whole now rest b none =
    b.at ∙ ap (after_all l) (sym (b.all ∙ ap (λ es. b.done ++ es) none ∙ none_more b.done))
  where
    none_more : (es : List Happening) → es ++ [] ≡ es
    none_more es = search rules

front_of : (done : List Happening) (event : Happening) (others : List Happening)
    → slice_get (done ++ event ∷ others) (length done) ≡ Some event
front_of [] event others = refl
front_of (e ∷ done) event others = front_of done event others

first_of : (done rest : List Happening) → take (length done) (done ++ rest) ≡ done
first_of [] rest = refl
first_of (e ∷ done) rest = ap (λ es. e ∷ es) (first_of done rest)

-- there was no memory for the next one
pub stops_before : (l : LabView) (whole : List Happening) (now new : LabView) (event : Happening)
    (rest others : List Happening)
    → Before l whole now rest → rest ≡ event ∷ others → new ≡ now → check now event ≡ None → StopsWithin l whole new
stops_before l whole now new event rest others b is same passed =
    let all : whole ≡ b.done ++ event ∷ others = b.all ∙ ap (λ es. b.done ++ es) is in (
      length b.done,
      event,
      ap (λ es. slice_get es (length b.done)) all ∙ front_of b.done event others,
      ap (λ m. check m event) same ∙ passed,
      same ∙ b.at ∙ ap (after_all l) (sym (ap (take (length b.done)) all ∙ first_of b.done (event ∷ others))),
    )

-- a run of one event that stopped: it had passed the checks, and nothing changed
pub stops_at_once : (l m : LabView) (event : Happening) → Stops l (event ∷ []) m → (m ≡ l) × (check m event ≡ None)
stops_at_once l m event s = by s.done s.event s.next s.passed s.after
  where
    by : (done : ℕ) (e : Happening) → slice_get (event ∷ []) done ≡ Some e → check m e ≡ None
        → m ≡ after_all l (take done (event ∷ [])) → (m ≡ l) × (check m event ≡ None)
    by zero e at passed after = (after, subst (λ q. check m q ≡ None) (let same : e ≡ event = cc in same) passed)
    by (suc k) e at passed after = absurd (cc)

module _ {R E : Type 0} where
  pub on_err : (P : Type 0) (r : Result R E) → P → OnErr r P
  on_err P (Ok x) h = tt
  on_err P (Err x) h = h
