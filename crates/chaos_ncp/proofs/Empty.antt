-- A list without a first item.
use Rattle.std.proofs.Common.{◌≡◌, List, [], ◌∷◌, None, slice_get, refl}

pub none_first : {X : Type 0} (xs : List X) → slice_get xs 0 ≡ None → xs ≡ []
none_first [] e = refl
none_first (x ∷ xs) e = absurd (cc)
