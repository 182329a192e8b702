-- What a connection stores.
use Rattle.std.specs.Prelude.{ℕ, ◌+◌, length, Option, Some, None}
use Rattle.std.specs.List.{sum_by}
use Rattle.chaos_packet.specs.Item.{ItemView}
use Rattle.chaos_window.specs.Receive.{held_count}
use Rattle.chaos_conn.specs.declared.limits.TheConstants.{HEADER_BYTES}
use Rattle.chaos_conn.specs.View.{ConnView}

-- the bytes of an item with its header
abbrev pub item_bytes : ItemView → ℕ
item_bytes item = HEADER_BYTES + length item.body

-- the bytes of what a slot holds
abbrev pub slot_bytes : Option ItemView → ℕ
slot_bytes None = 0
slot_bytes (Some item) = item_bytes item

-- how many packets are kept and held
abbrev pub stored_packets : ConnView → ℕ
stored_packets v = length v.send.kept + held_count v.recv

-- their bytes
abbrev pub stored_bytes : ConnView → ℕ
stored_bytes v = sum_by item_bytes v.send.kept + sum_by slot_bytes v.recv.held
