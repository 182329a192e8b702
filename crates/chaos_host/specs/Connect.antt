-- A connection asked for.
use Rattle.std.specs.Prelude.{ℕ, ◌==◌, nat_lt, if◌then◌else◌, List, length, Option, Some, None, Result, Ok, Err, slice_get}
use Rattle.chaos_packet.specs.declared.limits.TheConstants.{MAX_DATA}
use Rattle.chaos_conn.specs.Act.{Request}
use Rattle.chaos_host.specs.declared.fault.ConnectFault.{ConnectFault}
use Rattle.chaos_host.specs.declared.fault.ConnectFault.TheVariants.{TableFull, TooLong, BadAddress}
use Rattle.chaos_host.specs.declared.slot.Slot.{Slot}
use Rattle.chaos_host.specs.Slot.{index_of, free_place}
use Rattle.chaos_host.specs.View.{HostView, own_end}
use Rattle.chaos_host.specs.Acted.{HostActed, no_effect, on_slot}

-- an own index, or why there is none
abbrev pub ConnectAnswer : Type 0
ConnectAnswer = Result ℕ ConnectFault

-- the connection in this slot makes the request
abbrev pub connect_slot : HostView → ℕ → ℕ → List ℕ → ℕ → ℕ → Option Slot → HostActed ConnectAnswer
connect_slot v place peer contact start now None = no_effect v (Err TableFull)
connect_slot v place peer contact start now (Some slot) =
    on_slot v place slot (Request (own_end v place slot) peer contact start now) (Ok (index_of place slot))

-- a contact of at most 488 bytes is asked of a peer whose address is not 0, by the lowest free slot
abbrev pub connect_at : HostView → ℕ → List ℕ → ℕ → ℕ → Option ℕ → HostActed ConnectAnswer
connect_at v peer contact start now None = no_effect v (Err TableFull)
connect_at v peer contact start now (Some place) =
    if nat_lt MAX_DATA (length contact) then no_effect v (Err TooLong)
    else (if peer == 0 then no_effect v (Err BadAddress)
    else connect_slot v place peer contact start now (slice_get v.slots place))

abbrev pub host_connect : HostView → ℕ → List ℕ → ℕ → ℕ → HostActed ConnectAnswer
host_connect v peer contact start now = connect_at v peer contact start now (free_place v.slots)
