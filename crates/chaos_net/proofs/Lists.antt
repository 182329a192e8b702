-- Places in lists.
use Rattle.std.proofs.Common.{◌≡◌, ℕ, zero, suc, List, [], ◌∷◌, ◌++◌, map, Some, refl, ap, subst, inl, inr, ◌⊎◌, Bool, true, false, if◌then◌else◌}
use Rattle.std.specs.Prelude.{slice_get}
use Rattle.std.specs.List.{AllByRecursion}

module _ {X : Type 0} where
  pub some_eq : {x y : X} → Some x ≡ Some y → x ≡ y
  some_eq h = cc

  pub get_front : (xs ys : List X) (k : ℕ) (x : X) → slice_get xs k ≡ Some x → slice_get (xs ++ ys) k ≡ Some x
  get_front [] ys k x h = absurd (cc)
  get_front (z ∷ xs) ys zero x h = h
  get_front (z ∷ xs) ys (suc k) x h = get_front xs ys k x h

  pub get_back : (xs ys : List X) (j : ℕ) (x : X) → slice_get ys j ≡ Some x
      → (k : ℕ) × (slice_get (xs ++ ys) k ≡ Some x)
  get_back [] ys j x h = (j, h)
  get_back (z ∷ xs) ys j x h = let r = get_back xs ys j x h in (suc r.0, r.1)

  pub get_split : (xs ys : List X) (k : ℕ) (x : X) → slice_get (xs ++ ys) k ≡ Some x
      → (slice_get xs k ≡ Some x) ⊎ ((j : ℕ) × (slice_get ys j ≡ Some x))
  get_split [] ys k x h = inr (k, h)
  get_split (z ∷ xs) ys zero x h = inl h
  get_split (z ∷ xs) ys (suc k) x h = get_split xs ys k x h

  pub all_at : (P : X → Type 0) (xs : List X) (j : ℕ) (x : X) → AllByRecursion P xs → slice_get xs j ≡ Some x → P x
  all_at P [] j x all h = absurd (cc)
  all_at P (z ∷ xs) zero x all h = subst P (some_eq h) all.0
  all_at P (z ∷ xs) (suc j) x all h = all_at P xs j x all.1 h

  -- nothing stands in an empty list
  pub none_at : {P : Type 0} (xs : List X) (j : ℕ) (x : X) → xs ≡ [] → slice_get xs j ≡ Some x → P
  none_at [] j x e h = absurd (cc)
  none_at (z ∷ xs) j x e h = absurd (cc)

module _ {X Y : Type 0} (f : X → Y) where
  pub get_map : (xs : List X) (j : ℕ) (x : X) → slice_get xs j ≡ Some x → slice_get (map f xs) j ≡ Some (f x)
  get_map [] j x h = absurd (cc)
  get_map (z ∷ xs) zero x h = ap (λ y. Some (f y)) (some_eq h)
  get_map (z ∷ xs) (suc j) x h = get_map xs j x h

  pub get_unmap : (xs : List X) (j : ℕ) (y : Y) → slice_get (map f xs) j ≡ Some y
      → (x : X) × (slice_get xs j ≡ Some x) × (f x ≡ y)
  get_unmap [] j y h = absurd (cc)
  get_unmap (z ∷ xs) zero y h = (z, refl, some_eq h)
  get_unmap (z ∷ xs) (suc j) y h = get_unmap xs j y h

module _ {X Y Z : Type 0} where
  -- a map that another doesn't notice
  pub map_map : (g : Y → Z) (f : X → Y) (h : X → Z) → ((x : X) → g (f x) ≡ h x) → (xs : List X)
      → map g (map f xs) ≡ map h xs
  map_map g f h e [] = refl
  map_map g f h e (x ∷ xs) = λ j. e x j ∷ map_map g f h e xs j

-- both ways are the same
pub either_same : {X : Type 0} (b : Bool) (x : X) → (if b then x else x) ≡ x
either_same true x = refl
either_same false x = refl
