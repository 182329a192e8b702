-- The lines of a text, one after the other.
use Rattle.std.proofs.Common.{◌≡◌, ◌∷◌, List, [], Option, Some, None, ap, refl, sym}
use Rattle.std.specs.Borrow.{Bor}
use Rattle.std.specs.Iterator.{AlwaysYields}
use Rattle.chaosd_hosts.specs.Text.{Text}

-- a line that comes is the first of those that are left
pub line_next : {S : Type 0} (steps : S → Option (Bor Text) → S → Type 0) (texts : List Text) (s t : S) (x : Bor Text)
    → AlwaysYields steps (λ y. y.now) s texts → steps s (Some x) t
    → (rest : List Text) × (texts ≡ x.now ∷ rest) × AlwaysYields steps (λ y. y.now) t rest
line_next steps [] s t x all came = absurd (all x t came)
line_next steps (y ∷ texts) s t x all came =
    let step = all.1 x t came in
    (texts, ap (λ v. v ∷ texts) (sym step.0), step.1)

-- no line is left where none comes
pub line_last : {S : Type 0} (steps : S → Option (Bor Text) → S → Type 0) (texts : List Text) (s t : S)
    → AlwaysYields steps (λ y. y.now) s texts → steps s None t → texts ≡ []
line_last steps [] s t all came = refl
line_last steps (y ∷ texts) s t all came = absurd (all.0 t came)
