-- Names of local files.
use Rattle.std.specs.Prelude.{◌≡◌, ◌⊎◌, ◌==◌, ◌++◌, ◌∷◌, ℕ, List, [], length}
use Rattle.std.specs.List.{position_or_len}

-- The name stands at the path's end, behind a slash or behind nothing.
pub record IsBehindSlash (path name : List ℕ) : Type 0 where
  pub front : List ℕ
  pub whole : path ≡ front ++ name
  pub behind : (front ≡ []) ⊎ ((folder : List ℕ) × (front ≡ folder ++ 47 ∷ []))

-- The name stands there, and has no slash.
pub record IsLastName (path name : List ℕ) : Type 0 where
  pub at : IsBehindSlash path name
  pub last : position_or_len (λ b. b == 47) name ≡ length name
