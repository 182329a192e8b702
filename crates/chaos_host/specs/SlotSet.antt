-- Sets of slots, by their places.
use Rattle.std.specs.Prelude.{◌≡◌, ◌<◌, ◌≤◌, ℕ, ◌/◌, ◌%◌, ◌==◌, Bool, true, false, List, Option, Some, None, slice_index}
use Rattle.std.specs.Int.{bit_at}

-- A set as words: bit n, counted from the lowest bit of the first word, is 1 where the slot at place n is in the set.
abbrev pub has : List ℕ → ℕ → Bool
has set n = bit_at (slice_index set (n / 64)) (n % 64) == 1

-- This is the first place from a place on that is in the set.
pub record IsFirst (set : List ℕ) (from place : ℕ) : Type 0 where
  pub behind : from ≤ place
  pub there : has set place ≡ true
  pub none : (k : ℕ) → from ≤ k → k < place → has set k ≡ false

-- The first place from a place on is told, or that there is none.
abbrev pub IsNext : List ℕ → ℕ → Option ℕ → Type 0
IsNext set from None = (k : ℕ) → from ≤ k → has set k ≡ false
IsNext set from (Some place) = IsFirst set from place

-- This is the first bit of a word from a bit on that is 1.
pub record IsFirstBit (word from bit : ℕ) : Type 0 where
  pub behind : from ≤ bit
  pub within : bit < 64
  pub one : bit_at word bit ≡ 1
  pub zeros : (k : ℕ) → from ≤ k → k < bit → bit_at word k ≡ 0

-- The first such bit is told, or that there is none.
abbrev pub IsNextBit : ℕ → ℕ → Option ℕ → Type 0
IsNextBit word from None = (k : ℕ) → from ≤ k → k < 64 → bit_at word k ≡ 0
IsNextBit word from (Some bit) = IsFirstBit word from bit
