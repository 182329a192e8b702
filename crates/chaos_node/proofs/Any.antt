-- A walk over the slots in use that looks for one of which something is so.
use Rattle.std.proofs.Common.{◌≡◌, zero, suc, ℕ, ◌<◌, ◌≤◌, Bool, true, false, if◌then◌else◌, arith, inl, inr, refl, ap, ◌∙◌}
use Rattle.std.proofs.lemmas.Bool.{cases_lt}
use Rattle.chaos_node.specs.Slots.{any_within}

or_none : (b c : Bool) → c ≡ false → (if b then true else c) ≡ b
or_none true c none = refl
or_none false c none = none

-- slots were passed over, of none of which it is so
pub any_to : (p : ℕ → Bool) (m n : ℕ) → m ≤ n → ((k : ℕ) → m ≤ k → k < n → p k ≡ false)
    → any_within p n ≡ any_within p m
any_to p m zero within none =
    let same : 0 ≡ m = omega arith in ap (any_within p) same
any_to p m (suc n) within none =
    elim (cases_lt n m) as (λ _. any_within p (suc n) ≡ any_within p m) [
      | inl all ↦ let same : suc n ≡ m = omega arith in ap (any_within p) same
      | inr less ↦
          let below : n < suc n = omega arith in
          or_none (any_within p n) (p n) (none n less below)
          ∙ any_to p m n less (λ k from under. none k from (omega arith))
    ]

-- what is so among the first slots is so among more
pub any_on : (p : ℕ → Bool) (m n : ℕ) → m ≤ n → any_within p m ≡ true → any_within p n ≡ true
any_on p m zero within found =
    let same : 0 ≡ m = omega arith in ap (any_within p) same ∙ found
any_on p m (suc n) within found =
    elim (cases_lt n m) as (λ _. any_within p (suc n) ≡ true) [
      | inl all ↦ let same : suc n ≡ m = omega arith in ap (any_within p) same ∙ found
      | inr less ↦ rw (any_on p m n less found) refl
    ]

-- it is so of the slot at a place
pub any_here : (p : ℕ → Bool) (place : ℕ) → p place ≡ true → any_within p (suc place) ≡ true
any_here p place found = either (any_within p place) (p place) found
  where
    either : (b c : Bool) → c ≡ true → (if b then true else c) ≡ true
    either true c e = refl
    either false c e = e

-- it is so of no slot before a place, nor of the slot there
pub any_none : (p : ℕ → Bool) (place : ℕ) → any_within p place ≡ false → p place ≡ false
    → any_within p (suc place) ≡ false
any_none p place before here = rw before here
