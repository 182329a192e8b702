-- A store that is read alone.
use Rattle.std.specs.Prelude.{ℕ, ◌+◌, min, Bool, true, false}
use Rattle.chaos_packet.specs.Count.{max_count, with_failure}

-- the store, how many calls were refused, and whether the last call was
pub record ReadOnlyView (S : Type 0) : Type 0 where
  pub inner : S
  pub refused : ℕ
  pub is_refusal : Bool

module _ {S : Type 0} where
  abbrev pub new_read_only : S → ReadOnlyView S
  new_read_only inner = record { inner = inner; refused = 0; is_refusal = false }

  -- the failures of the store, and what was refused
  abbrev pub count_both : (S → ℕ) → ReadOnlyView S → ℕ
  count_both count s = min (count s.inner + s.refused) max_count

  -- one more was refused; the store wasn't asked
  abbrev pub with_refused : ReadOnlyView S → ReadOnlyView S
  with_refused s = record s { refused = with_failure s.refused; is_refusal = true }

  -- the store was read, and is this now
  abbrev pub read_by : S → ReadOnlyView S → ReadOnlyView S
  read_by inner s = record s { inner = inner; is_refusal = false }
