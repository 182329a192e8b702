-- What contracts see of a ring of places.
use Rattle.std.specs.Prelude.{ℕ, ◌+◌, ◌-◌, Bool, nat_lt, List, [], ◌∷◌, ◌++◌, length, drop}

-- the values, the oldest first; how many there may be; and how many places are taken out
pub record RingView (T : Type 0) : Type 0 where
  pub items : List T
  pub cap : ℕ
  pub taken : ℕ

module _ {T : Type 0} where
  -- with no values, and no place taken out
  abbrev pub empty_ring : ℕ → RingView T
  empty_ring cap = record { items = []; cap = cap; taken = 0 }

  -- whether a place is spare: no value lies there, and it isn't taken out
  abbrev pub has_spare : RingView T → Bool
  has_spare ring = nat_lt (length ring.items + ring.taken) ring.cap

  -- after a spare place was taken out
  abbrev pub with_place_out : RingView T → RingView T
  with_place_out ring = record ring { taken = ring.taken + 1 }

  -- after a place that was taken out came back with this value, which is the newest
  abbrev pub with_item : RingView T → T → RingView T
  with_item ring item = record ring { items = ring.items ++ item ∷ []; taken = ring.taken - 1 }

  -- after the oldest value was dropped, where there was one
  abbrev pub without_oldest_item : RingView T → RingView T
  without_oldest_item ring = record ring { items = drop 1 ring.items }
