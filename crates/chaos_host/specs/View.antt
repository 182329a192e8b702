-- What contracts see of a host.
use Rattle.std.specs.Prelude.{◌≡◌, ◌⊎◌, ℕ, ◌≤◌, ◌==◌, ◌&&◌, nat_le, if◌then◌else◌, List, [], replicate, Option, Some, None, Result, Ok, Err, slice_get}
use Rattle.chaos_conn.specs.Config.{ConfigView}
use Rattle.chaos_conn.specs.View.{ConnView, new_conn}
use Rattle.chaos_conn.specs.declared.state.End.{End}
use Rattle.chaos_host.specs.declared.fault.MakeFault.{MakeFault}
use Rattle.chaos_host.specs.declared.fault.MakeFault.TheVariants.{BadAddress, BadCount, NoMemory}
use Rattle.chaos_host.specs.declared.fault.CallFault.{CallFault}
use Rattle.chaos_host.specs.declared.fault.CallFault.TheVariants.{NoSuchConnection}
use Rattle.chaos_host.specs.declared.limits.TheConstants.{MAX_CONNS}
use Rattle.chaos_host.specs.declared.slot.Slot.{Slot}
use Rattle.chaos_host.specs.Slot.{IsTable, is_used, index_of, named_slot}

-- The host's address, the configuration of its connections, the contacts that it listens to, and its slots.
pub record HostView : Type 0 where
  pub address : ℕ
  pub config : ConfigView
  pub listeners : List (List ℕ)
  pub slots : List Slot

-- What holds of every host.
pub record IsHost (v : HostView) : Type 0 where
  pub address : 1 ≤ v.address
  pub table : IsTable v.config v.slots

-- ---- a new host

-- a slot that was never in use
abbrev pub new_slot : ConfigView → Slot
new_slot config = record { generation = 0; conn = new_conn config }

-- a host with so many free slots, which listens to nothing
abbrev pub new_host : ℕ → ℕ → ConfigView → HostView
new_host address conns config =
    record { address = address; config = config; listeners = []; slots = replicate conns (new_slot config) }

-- the first fault of an address and a number of connections
abbrev pub make_fault : ℕ → ℕ → Option MakeFault
make_fault address conns = if address == 0 then Some BadAddress
    else (if nat_le 1 conns && nat_le conns MAX_CONNS then None
    else Some BadCount)

-- a host is made, or its fault is told, or there was no memory for it
abbrev pub Makes : Option MakeFault → HostView → Result HostView MakeFault → Type 0
Makes (Some fault) made result = result ≡ Err fault
Makes None made result = (result ≡ Ok made) ⊎ (result ≡ Err NoMemory)

-- ---- looks

-- the index of the connection in a slot, where the slot is in use
abbrev pub id_in : ℕ → Option Slot → Option ℕ
id_in place None = None
id_in place (Some slot) = if is_used slot then Some (index_of place slot) else None

abbrev pub id_at : HostView → ℕ → Option ℕ
id_at v place = id_in place (slice_get v.slots place)

-- the connection in a slot and its index, where the slot is in use
abbrev pub conn_in : ℕ → Option Slot → Option (ℕ × ConnView)
conn_in place None = None
conn_in place (Some slot) = if is_used slot then Some (index_of place slot, slot.conn) else None

abbrev pub conn_at : HostView → ℕ → Option (ℕ × ConnView)
conn_at v place = conn_in place (slice_get v.slots place)

-- the own end of the connection in a slot
abbrev pub own_end : HostView → ℕ → Slot → End
own_end v place slot = record { address = v.address; index = index_of place slot }

module _ {A : Type 0} where
  -- what a connection shows, where there is one
  abbrev pub look_slot : (ConnView → A) → Option Slot → Result A CallFault
  look_slot look None = Err NoSuchConnection
  look_slot look (Some slot) = Ok (look slot.conn)

  -- what the connection with an own index shows
  abbrev pub host_look : HostView → ℕ → (ConnView → A) → Result A CallFault
  host_look v id look = look_slot look (named_slot v.slots id)
