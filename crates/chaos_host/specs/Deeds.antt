-- What each step of a host makes of its connections: the connection in one slot does one call, or none does anything.
use Rattle.std.specs.Prelude.{◌≡◌, ℕ, ◌==◌, Bool, true, false, nat_lt, if◌then◌else◌, List, [], length, Option, Some, None, slice_get, ⊤}
use Rattle.std.specs.List.{AllByRecursion}
use Rattle.chaos_packet.specs.Packet.{PacketView}
use Rattle.chaos_packet.specs.declared.limits.TheConstants.{MAX_DATA}
use Rattle.chaos_packet.specs.Opcode.{kind_of, is_rfc}
use Rattle.chaos_conn.specs.State.{is_ended}
use Rattle.chaos_conn.specs.Act.{Call, act}
use Rattle.chaos_conn.specs.Act.Call.{Request, TakeRequest, Accept, Deliver, Write, Unc, Read, FinishRead, Announce, Close, Tick}
use Rattle.chaos_conn.specs.Names.{IsBare, ends}
use Rattle.chaos_host.specs.declared.slot.Slot.{Slot}
use Rattle.chaos_host.specs.declared.route.Route.{Route}
use Rattle.chaos_host.specs.declared.route.Route.TheVariants as to
use Rattle.chaos_host.specs.Slot.{is_used, is_free, named_slot, place_of, free_place, after_ending}
use Rattle.chaos_host.specs.View.{HostView, IsHost, own_end}
use Rattle.chaos_host.specs.Acted.{HostActed, with_slot, slot_after_call}
use Rattle.chaos_host.specs.Route.{route}
use Rattle.chaos_host.specs.Deliver.{host_deliver}
use Rattle.chaos_host.specs.Connect.{host_connect}
use Rattle.chaos_host.specs.Calls.{host_call, host_end, host_release}
use Rattle.chaos_host.specs.Listening.{listen_fault, after_listen}
use Rattle.chaos_host.specs.Tick.{host_tick}

-- what happens at a host: a packet comes, a user makes a call, or a slot is ticked
pub data HostEvent : Type 0 where
  Comes : (packet : PacketView) → (now : ℕ) → HostEvent
  Calls : (id : ℕ) → (call : Call) → HostEvent
  Ends : (id : ℕ) → (call : Call) → HostEvent
  Releases : (id : ℕ) → HostEvent
  Connects : (peer : ℕ) → (contact : List ℕ) → (start now : ℕ) → HostEvent
  Listens : (contact : List ℕ) → HostEvent
  Ticks : (place now : ℕ) → HostEvent

-- the calls that a user makes on a connection that goes on
abbrev pub is_users : Call → Bool
is_users (Accept start now) = true
is_users (Write op bytes now) = true
is_users (Unc bytes) = true
is_users Read = true
is_users FinishRead = true
is_users (Announce window) = true
is_users _ = false

-- which calls a user makes in which way
abbrev pub IsEvent : HostEvent → Type 0
IsEvent (Calls id call) = is_users call ≡ true
IsEvent (Ends id call) = ends call ≡ true
IsEvent _ = ⊤

-- the host after it, and the packets that it put out
pub record HostMade : Type 0 where
  pub view : HostView
  pub packets : List PacketView

module _ {A : Type 0} where
  abbrev pub made_of : HostActed A → HostMade
  made_of acted = record { view = acted.view; packets = acted.packets }

abbrev pub host_made : HostView → HostEvent → HostMade
host_made v (Comes packet now) = made_of (host_deliver v packet now)
host_made v (Calls id call) = made_of (host_call v id call)
host_made v (Ends id call) = made_of (host_end v id call)
host_made v (Releases id) = made_of (host_release v id)
host_made v (Connects peer contact start now) = made_of (host_connect v peer contact start now)
host_made v (Listens contact) =
    record { view = after_listen (listen_fault v.listeners contact) v contact; packets = [] }
host_made v (Ticks place now) = made_of (host_tick v place now)

-- ---- the connection that does something

-- the connection in the slot at a place does a call, or none does anything
pub data Deed : Type 0 where
  Nothing : Deed
  Does : (place : ℕ) → (call : Call) → Deed

-- the connection in a slot in use
abbrev pub by_used : ℕ → Call → Option Slot → Deed
by_used place call None = Nothing
by_used place call (Some slot) = if is_used slot then Does place call else Nothing

-- the connection in a free slot
abbrev pub by_free : HostView → PacketView → ℕ → ℕ → Option Slot → Deed
by_free v p now place None = Nothing
by_free v p now place (Some slot) = Does place (TakeRequest p (own_end v place slot) now)

abbrev pub deed_by : HostView → PacketView → ℕ → Route → Deed
deed_by v p now (to.Slot place) = by_used place (Deliver p now) (slice_get v.slots place)
deed_by v p now (to.Request place) = by_free v p now place (slice_get v.slots place)
deed_by v p now _ = Nothing

-- the connection that an own index names
abbrev pub by_named : ℕ → Call → Option Slot → Deed
by_named id call None = Nothing
by_named id call (Some slot) = Does (place_of id) call

abbrev pub by_ended : ℕ → Option Slot → Deed
by_ended id None = Nothing
by_ended id (Some slot) = if is_ended slot.conn.state then Does (place_of id) (Close []) else Nothing

abbrev pub by_asking : HostView → ℕ → ℕ → List ℕ → ℕ → ℕ → Option Slot → Deed
by_asking v place peer contact start now None = Nothing
by_asking v place peer contact start now (Some slot) =
    Does place (Request (own_end v place slot) peer contact start now)

abbrev pub by_lowest : HostView → ℕ → List ℕ → ℕ → ℕ → Option ℕ → Deed
by_lowest v peer contact start now None = Nothing
by_lowest v peer contact start now (Some place) =
    if nat_lt MAX_DATA (length contact) then Nothing
    else (if peer == 0 then Nothing
    else by_asking v place peer contact start now (slice_get v.slots place))

abbrev pub deed_of : HostView → HostEvent → Deed
deed_of v (Comes packet now) = deed_by v packet now (route v packet)
deed_of v (Calls id call) = by_named id call (named_slot v.slots id)
deed_of v (Ends id call) = by_named id call (named_slot v.slots id)
deed_of v (Releases id) = by_ended id (named_slot v.slots id)
deed_of v (Connects peer contact start now) = by_lowest v peer contact start now (free_place v.slots)
deed_of v (Listens contact) = Nothing
deed_of v (Ticks place now) = by_used place (Tick now) (slice_get v.slots place)

-- ---- the law

-- A call that begins a connection is made in a free slot, with its own end, and succeeds.
abbrev pub FitsSlot : HostView → ℕ → Slot → Call → Type 0
FitsSlot v place slot (Request me peer contact start now) =
    (is_free slot ≡ true) × (me ≡ own_end v place slot) × (nat_lt MAX_DATA (length contact) ≡ false)
    × ((peer == 0) ≡ false)
FitsSlot v place slot (TakeRequest rfc me now) =
    (is_free slot ≡ true) × (me ≡ own_end v place slot) × ((rfc.src == 0) ≡ false) × (is_rfc (kind_of rfc.op) ≡ true)
FitsSlot v place slot call = is_free slot ≡ false

-- No slot changes, and each packet is the host's own, or the connection in the slot does the call: it is freed where it
-- is inactive then, no other slot changes, and the packets are those of the connection.
pub record IsDone (v : HostView) (place : ℕ) (call : Call) (made : HostMade) : Type 0 where
  pub slot : Slot
  pub there : slice_get v.slots place ≡ Some slot
  pub fits : FitsSlot v place slot call
  pub view : made.view ≡ with_slot v place (after_ending (slot_after_call slot call))
  pub packets : made.packets ≡ (act slot.conn call).packets

pub record IsNothing (v : HostView) (made : HostMade) : Type 0 where
  pub address : made.view.address ≡ v.address
  pub config : made.view.config ≡ v.config
  pub slots : made.view.slots ≡ v.slots
  pub packets : AllByRecursion IsBare made.packets

abbrev pub IsDeed : HostView → Deed → HostMade → Type 0
IsDeed v Nothing made = IsNothing v made
IsDeed v (Does place call) made = IsDone v place call made

-- Each step of a host is its deed, and leaves a host.
abbrev pub HasDeeds : Type 0
HasDeeds =
    (v : HostView) (event : HostEvent) → IsHost v → IsEvent event → IsDeed v (deed_of v event) (host_made v event)

abbrev pub StaysHost : Type 0
StaysHost = (v : HostView) (event : HostEvent) → IsHost v → IsEvent event → IsHost (host_made v event).view
