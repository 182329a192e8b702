-- What a host stores.
use Rattle.std.specs.Prelude.{ℕ, List}
use Rattle.std.specs.List.{sum_by}
use Rattle.chaos_conn.specs.Stored.{stored_packets, stored_bytes}
use Rattle.chaos_host.specs.declared.slot.Slot.{Slot}
use Rattle.chaos_host.specs.View.{HostView}

-- how many packets the connections keep and hold
abbrev pub packets_in : List Slot → ℕ
packets_in slots = sum_by (λ slot. stored_packets slot.conn) slots

-- their bytes, each with a header of 16
abbrev pub bytes_in : List Slot → ℕ
bytes_in slots = sum_by (λ slot. stored_bytes slot.conn) slots

-- both, of a host
abbrev pub stored_of : HostView → ℕ × ℕ
stored_of v = (packets_in v.slots, bytes_in v.slots)
