-- What a user sees of a request that waits for an answer.
use Rattle.std.specs.Prelude.{ℕ, if◌then◌else◌, List, [], Option, Some, None, Result, Ok, Err}
use Rattle.chaos_packet.specs.Item.{ItemView}
use Rattle.chaos_conn.specs.State.{is_requested}
use Rattle.chaos_conn.specs.Calls.{front_of}
use Rattle.chaos_conn.specs.View.{ConnView}
use Rattle.chaos_conn.specs.declared.fault.ConnFault.TheVariants.{WrongState}
use Rattle.chaos_host.specs.declared.fault.CallFault.{CallFault}
use Rattle.chaos_host.specs.declared.fault.CallFault.TheVariants.{NoSuchConnection, Refused}
use Rattle.chaos_host.specs.declared.slot.Slot.{Slot}
use Rattle.chaos_host.specs.Slot.{named_slot}
use Rattle.chaos_host.specs.View.{HostView}

-- the data bytes of the item in front
abbrev pub bytes_of : Option ItemView → List ℕ
bytes_of None = []
bytes_of (Some item) = item.body

-- what an end was asked, where its request waits
abbrev pub asked_of : ConnView → Result (List ℕ) CallFault
asked_of conn = if is_requested conn.state then Ok (bytes_of (front_of conn)) else Err (Refused WrongState)

abbrev pub asked_in : Option Slot → Result (List ℕ) CallFault
asked_in None = Err NoSuchConnection
asked_in (Some slot) = asked_of slot.conn

-- what the connection with an own index was asked
abbrev pub host_asked : HostView → ℕ → Result (List ℕ) CallFault
host_asked v id = asked_in (named_slot v.slots id)

-- a part of it
abbrev pub part_of : (List ℕ → List ℕ) → Result (List ℕ) CallFault → Result (List ℕ) CallFault
part_of part (Ok bytes) = Ok (part bytes)
part_of part (Err fault) = Err fault
