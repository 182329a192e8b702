-- Events of a list that have happened, before the others.
use Rattle.std.proofs.Common.{◌≡◌, List, [], ◌∷◌, ◌++◌, length, take, true, false, Result, Ok, Err, OnErr, refl, sym, ap, ◌∙◌, inl, inr, arith, append_assoc, length-append}
use Rattle.std.specs.Prelude.{is_err}
use Rattle.std.proofs.lemmas.Bool.{false≢true}
use Rattle.chaos_lab.specs.declared.fault.LabFault.{LabFault}
use Rattle.file_lab.specs.View.{FileLabView}
use Rattle.file_lab.specs.declared.event.FileStepped.{FileStepped}
use Rattle.file_lab.specs.Events.{FileHappening}
use Rattle.file_lab.specs.Exact.{file_happen, IsExact}
use Rattle.file_lab.specs.Settling.{after_events, Stopped}

-- a laboratory after the first events of a list, and the rest of the list
pub record Before (start : FileLabView) (whole : List FileHappening) (now : FileLabView)
    (rest : List FileHappening) : Type 0 where
  pub done : List FileHappening
  pub at : now ≡ after_events start done
  pub all : whole ≡ done ++ rest

after_both : (l : FileLabView) (es fs : List FileHappening)
    → after_events l (es ++ fs) ≡ after_events (after_events l es) fs
after_both l [] fs = refl
after_both l (event ∷ es) fs = after_both (file_happen l event).view es fs

pub before_one : (l : FileLabView) (whole : List FileHappening) (now next : FileLabView) (event : FileHappening)
    (rest others : List FileHappening)
    → Before l whole now rest → rest ≡ event ∷ others → next ≡ (file_happen now event).view → Before l whole next others
before_one l whole now next event rest others b is goes =
    record {
      done = b.done ++ event ∷ [];
      at = goes ∙ ap (λ (m : FileLabView). (file_happen m event).view) b.at ∙ sym (after_both l b.done (event ∷ []));
      all = b.all ∙ ap (λ es. b.done ++ es) is ∙ sym (append_assoc b.done (event ∷ []) others);
    }

first_of : (done rest : List FileHappening) → take (length done) (done ++ rest) ≡ done
first_of [] rest = refl
first_of (e ∷ done) rest = ap (λ es. e ∷ es) (first_of done rest)

-- there was no memory for the next one
pub stopped_before : (l : FileLabView) (whole : List FileHappening) (now new : FileLabView) (event : FileHappening)
    (rest others : List FileHappening)
    → Before l whole now rest → rest ≡ event ∷ others → new ≡ now → Stopped l whole new
stopped_before l whole now new event rest others b is same =
    let all : whole ≡ b.done ++ event ∷ others = b.all ∙ ap (λ es. b.done ++ es) is in
    let long = length-append b.done (event ∷ others) in
    let count : length whole ≡ length (b.done ++ event ∷ others) = ap length all in
    (length b.done, omega (arith, long, count), same ∙ b.at ∙ ap (after_events l) (sym (ap (take (length b.done)) all ∙ first_of b.done (event ∷ others))))

-- an event that isn't refused, where memory is not wanted, did what it does
pub exact_goes : (l m : FileLabView) (event : FileHappening) (answer : Result FileStepped LabFault)
    → IsExact l event m answer → is_err answer ≡ false → m ≡ (file_happen l event).view
exact_goes l m event answer (inl h) ok = h.0
exact_goes l m event answer (inr h) ok = absurd (false≢true (sym ok ∙ ap is_err h.1))

module _ {R E : Type 0} where
  pub refused_by : (P : Type 0) (r : Result R E) → is_err r ≡ true → OnErr r P → P
  refused_by P (Ok x) is h = absurd (false≢true is)
  refused_by P (Err x) is h = h
