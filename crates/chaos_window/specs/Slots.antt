-- The slots of a receive window: one for each number from the next one on, with its item where that arrived. The slot
-- at offset 1 is that of the next number.
use Rattle.std.specs.Prelude.{ℕ, ◌-◌, ◌==◌, if◌then◌else◌, List, [], ◌∷◌, ◌++◌, drop, slice_get, slice_set, Option, Some, None, unwrap_or}
use Rattle.chaos_packet.specs.Item.{ItemView}

abbrev pub Slots : Type 0
Slots = List (Option ItemView)

-- the item held at an offset
abbrev pub slot_at : Slots → ℕ → Option ItemView
slot_at slots offset = if offset == 0 then None else unwrap_or (slice_get slots (offset - 1)) None

-- with an item held at an offset
abbrev pub with_item_at : Slots → ℕ → ItemView → Slots
with_item_at slots offset item = slice_set slots (offset - 1) (Some item)

-- with every offset one less: the slot at offset 1 goes, and an empty one comes at the end
abbrev pub lowered_slots : Slots → Slots
lowered_slots slots = drop 1 slots ++ None ∷ []
