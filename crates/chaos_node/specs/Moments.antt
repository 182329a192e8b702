-- Moments that are read one after another.
use Rattle.std.specs.Prelude.{ℕ, List, [], ◌∷◌, ◌++◌, Result, Ok, Err}

-- What may have been read since each earlier state.
abbrev pub Readings : Type 0 → Type 1
Readings M = M → List ℕ → Type 0

-- Between two states just these moments were read, in order: what was read since any earlier state goes on by them.
pub record Reads {M : Type 0} (old new : Readings M) (moments : List ℕ) : Type 0 where
  pub goes : (first : M) (earlier : List ℕ) → old first earlier → new first (earlier ++ moments)

-- the moment that was read, where one was
abbrev pub moments_in : {E : Type 0} → Result ℕ E → List ℕ
moments_in (Ok moment) = moment ∷ []
moments_in (Err fault) = []
