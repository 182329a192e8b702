-- What contracts see of a receive window.
use Rattle.std.specs.Prelude.{◌≡◌, ℕ, ◌<◌, ◌≤◌, Bool, ◌&&◌, nat_le, nat_lt, if◌then◌else◌, length, replicate, count_by, Option, Some, None, is_some}
use Rattle.std.specs.List.{prefix_len}
use Rattle.chaos_packet.specs.Number.{num, off}
use Rattle.chaos_packet.specs.Item.{ItemView}
use Rattle.chaos_window.specs.declared.limits.TheConstants.{MAX_WINDOW}
use Rattle.chaos_window.specs.declared.arrival.Arrived.{Arrived}
use Rattle.chaos_window.specs.declared.arrival.Arrived.TheVariants.{Took, Duplicate, Outside}
use Rattle.chaos_window.specs.Slots.{Slots, slot_at, with_item_at, lowered_slots}

-- The most numbers that it takes; the window that its end announces, which is that or less; the number last read; and a
-- slot for each of the next cap numbers.
pub record ReceiveView : Type 0 where
  pub cap : ℕ
  pub window : ℕ
  pub read : ℕ
  pub held : Slots

-- the item held at an offset past the number last read: offset 1 is the next number
abbrev pub item_at : ReceiveView → ℕ → Option ItemView
item_at v offset = slot_at v.held offset

-- a window that last read this number, holds nothing, and announces all that it takes
abbrev pub started_receive : ℕ → ℕ → ReceiveView
started_receive cap number = record { cap = cap; window = cap; read = number; held = replicate cap None }

-- a new or cleared window: it last read 0, and holds nothing
abbrev pub clear_receive : ℕ → ReceiveView
clear_receive cap = started_receive cap 0

-- whether an offset lies in the window
abbrev pub is_within : ReceiveView → ℕ → Bool
is_within v offset = nat_le 1 offset && nat_le offset v.window

-- whether an offset is past the window, by less than half the circle
abbrev pub is_past : ReceiveView → ℕ → Bool
is_past v offset = nat_lt v.window offset && nat_lt offset 32768

-- whether an item is held at an offset; it may lie past a window that was made smaller
abbrev pub is_held : ReceiveView → ℕ → Bool
is_held v offset = is_some (item_at v offset)

-- what becomes of an item that arrives at an offset
abbrev pub arrival_at : ReceiveView → ℕ → Arrived
arrival_at v offset = if is_held v offset then Duplicate
    else (if is_within v offset then Took
    else (if is_past v offset then Outside else Duplicate))

-- what becomes of an item that arrives with a number
abbrev pub arrival_of : ReceiveView → ℕ → Arrived
arrival_of v number = arrival_at v (off number v.read)

-- after this answer to an item that arrived at an offset: where it was taken it is held there, and else nothing changes
abbrev pub after_answer : Arrived → ReceiveView → ℕ → ItemView → ReceiveView
after_answer Took v offset item = record v { held = with_item_at v.held offset item }
after_answer Duplicate v offset item = v
after_answer Outside v offset item = v

-- after an item arrived with a number
abbrev pub after_arrival : ReceiveView → ℕ → ItemView → ReceiveView
after_arrival v number item = after_answer (arrival_of v number) v (off number v.read) item

-- after a read of the next item, where there is one: the number moves on by one, and every offset becomes one less
abbrev pub after_reading : Option ItemView → ReceiveView → ReceiveView
after_reading None v = v
after_reading (Some item) v = record v { read = num v.read 1; held = lowered_slots v.held }

-- after a read of the next item, where it is held
abbrev pub after_advance : ReceiveView → ReceiveView
after_advance v = after_reading (item_at v 1) v

-- the receipt to send: the number up to which all arrived, with no gap after the number last read
abbrev pub receipt_of : ReceiveView → ℕ
receipt_of v = num v.read (prefix_len is_some v.held)

-- how many items are held
abbrev pub held_count : ReceiveView → ℕ
held_count v = count_by is_some v.held

-- after its end announced this window: what is held past it stays
abbrev pub after_announcement : ReceiveView → ℕ → ReceiveView
after_announcement v window = record v { window = window }

-- What holds of every receive window: there are as many slots as its cap, and it announces no more than that.
pub record IsReceiveWindow (v : ReceiveView) : Type 0 where
  pub some_cap : 1 ≤ v.cap
  pub small_cap : v.cap ≤ MAX_WINDOW
  pub window_fits : v.window ≤ v.cap
  pub read_fits : v.read < 65536
  pub slots : length v.held ≡ v.cap

-- the view of these parts
abbrev pub receive_view : ℕ → ℕ → Slots → ReceiveView
receive_view read window slots = record { cap = length slots; window = window; read = read; held = slots }
