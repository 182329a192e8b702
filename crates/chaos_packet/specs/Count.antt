-- Counts of failures, of links and of stores: they never fall, and stay at the greatest `u64`.
use Rattle.std.specs.Prelude.{◌≡◌, ℕ, ◌+◌, ◌<◌, ◌⊎◌, min}

-- the greatest count of failures
abbrev pub max_count : ℕ
max_count = 18446744073709551615

-- The count is greater afterwards, or stands at its greatest.
abbrev pub Rose : ℕ → ℕ → Type 0
Rose before after = (before < after) ⊎ (after ≡ max_count)

-- one failure more
abbrev pub with_failure : ℕ → ℕ
with_failure count = min (count + 1) max_count
