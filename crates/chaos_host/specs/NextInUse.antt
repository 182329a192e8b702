-- The next slot in use.
use Rattle.std.specs.Prelude.{◌≡◌, ◌<◌, ◌≤◌, ℕ, true, false, length, Option, Some, None}
use Rattle.chaos_host.specs.Slot.{is_used_at}
use Rattle.chaos_host.specs.View.{HostView}

-- The slot at this place is in use, and each slot before it, from a place on, is free.
pub record IsFirstInUse (v : HostView) (from place : ℕ) : Type 0 where
  pub within : place < length v.slots
  pub behind : from ≤ place
  pub used : is_used_at v.slots place ≡ true
  pub free : (k : ℕ) → from ≤ k → k < place → is_used_at v.slots k ≡ false

-- The first slot in use from a place on is told, or that there is none.
abbrev pub IsNextInUse : HostView → ℕ → Option ℕ → Type 0
IsNextInUse v from None = (k : ℕ) → from ≤ k → is_used_at v.slots k ≡ false
IsNextInUse v from (Some place) = IsFirstInUse v from place
