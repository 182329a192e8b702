-- Places in lists of packets and datagrams.
use Rattle.std.proofs.Common.{◌≡◌, ℕ, zero, suc, ◌<◌, ◌≤◌, List, [], ◌∷◌, ◌++◌, length, Bool, true, false, nat_lt, Some, refl, sym, subst, inl, inr, ◌⊎◌, ⊎_elim, arith}
use Rattle.std.specs.Prelude.{slice_get}
use Rattle.std.specs.List.{AllByRecursion}
use Rattle.std.proofs.lemmas.Bool.Decides.{nat_tests}
use Rattle.chaos_net.proofs.Lists.{some_eq}
use Rattle.chaos_sealed_net.specs.SealedNet.{Datagram}

pub below_or_not : (a b : ℕ) → (a < b) ⊎ (b ≤ a)
below_or_not a b = by (nat_lt a b) refl
  where
    by : (t : Bool) → nat_lt a b ≡ t → (a < b) ⊎ (b ≤ a)
    by true h = inl (grind (arith, nat_tests))
    by false h = inr (grind (arith, nat_tests))

module _ {X : Type 0} where
  pub get_within : (xs : List X) (k : ℕ) (x : X) → slice_get xs k ≡ Some x → k < length xs
  get_within [] k x h = absurd (cc)
  get_within (z ∷ xs) zero x h = omega arith
  get_within (z ∷ xs) (suc k) x h = let rest = get_within xs k x h in omega (arith, rest)

  pub get_some : (xs : List X) (k : ℕ) → k < length xs → (x : X) × (slice_get xs k ≡ Some x)
  get_some [] k few = absurd (omega (arith, few))
  get_some (z ∷ xs) zero few = (z, refl)
  get_some (z ∷ xs) (suc k) few = get_some xs k (omega (arith, few))

  -- in the front of a list
  pub get_old : (xs ys : List X) (k : ℕ) (x : X) → k < length xs → slice_get (xs ++ ys) k ≡ Some x
      → slice_get xs k ≡ Some x
  get_old [] ys k x few h = absurd (omega (arith, few))
  get_old (z ∷ xs) ys zero x few h = h
  get_old (z ∷ xs) ys (suc k) x few h = get_old xs ys k x (omega (arith, few)) h

  -- and behind it
  pub get_new : (xs ys : List X) (k : ℕ) (x : X) → length xs ≤ k → slice_get (xs ++ ys) k ≡ Some x
      → (j : ℕ) × (slice_get ys j ≡ Some x)
  get_new [] ys k x far h = (k, h)
  get_new (z ∷ xs) ys zero x far h = absurd (omega (arith, far))
  get_new (z ∷ xs) ys (suc k) x far h = get_new xs ys k x (omega (arith, far)) h

  -- the last of a list
  pub get_last : (xs : List X) (y : X) (k : ℕ) (x : X) → length xs ≤ k → slice_get (xs ++ y ∷ []) k ≡ Some x
      → (x ≡ y) × (k ≡ length xs)
  get_last [] y zero x far h = (sym (some_eq h), refl)
  get_last [] y (suc k) x far h = absurd (cc)
  get_last (z ∷ xs) y zero x far h = absurd (omega (arith, far))
  get_last (z ∷ xs) y (suc k) x far h =
      let rest = get_last xs y k x (omega (arith, far)) h in
      let place = rest.1 in
      (rest.0, omega (arith, place))

-- what holds at each place holds of all
pub all_by_get : {X : Type 0} (P : X → Type 0) (xs : List X)
    → ((k : ℕ) (x : X) → slice_get xs k ≡ Some x → P x) → AllByRecursion P xs
all_by_get P [] h = tt
all_by_get P (x ∷ xs) h = (h 0 x refl, all_by_get P xs (λ k y at. h (suc k) y at))

-- ---- datagrams

-- the last datagram whose counter is at most so great
pub record IsLatest (ds : List Datagram) (most : ℕ) : Type 0 where
  pub place : ℕ
  pub datagram : Datagram
  pub there : slice_get ds place ≡ Some datagram
  pub below : datagram.counter ≤ most
  pub after : (j : ℕ) (d : Datagram) → slice_get ds j ≡ Some d → place < j → most < d.counter

abbrev pub AreAbove : List Datagram → ℕ → Type 0
AreAbove ds most = (j : ℕ) (d : Datagram) → slice_get ds j ≡ Some d → most < d.counter

pub latest : (ds : List Datagram) (most : ℕ) → AreAbove ds most ⊎ IsLatest ds most
latest [] most = inl (λ j d at. absurd (cc))
latest (z ∷ ds) most =
    ⊎_elim
    (λ (all : AreAbove ds most). ⊎_elim (λ (above : most < z.counter). inl (also all above))
    (λ (below : z.counter ≤ most).
    inr (record { place = 0; datagram = z; there = refl; below = below; after = behind all }))
    (below_or_not most z.counter))
    (λ (l : IsLatest ds most). inr
    (record { place = suc l.place; datagram = l.datagram; there = l.there; below = l.below; after = later l }))
    (latest ds most)
  where
    also : AreAbove ds most → most < z.counter → AreAbove (z ∷ ds) most
    also all above zero d at = subst (λ (e : Datagram). most < e.counter) (some_eq at) above
    also all above (suc j) d at = all j d at

    behind : AreAbove ds most → (j : ℕ) (d : Datagram) → slice_get (z ∷ ds) j ≡ Some d → 0 < j → most < d.counter
    behind all zero d at far = absurd (omega (arith, far))
    behind all (suc j) d at far = all j d at

    later : (l : IsLatest ds most) → (j : ℕ) (d : Datagram) → slice_get (z ∷ ds) j ≡ Some d → suc l.place < j
        → most < d.counter
    later l zero d at far = absurd (omega (arith, far))
    later l (suc j) d at far = l.after j d at (omega (arith, far))
