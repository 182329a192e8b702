-- The slots of a host's table, and the own indices of their connections.
use Rattle.std.specs.Prelude.{◌≡◌, ℕ, ◌+◌, ◌-◌, ◌*◌, ◌%◌, ◌≤◌, Bool, true, false, not, ◌&&◌, ◌==◌, if◌then◌else◌, List, [], length, All, Option, Some, None, option_map, slice_get, position}
use Rattle.chaos_packet.specs.Packet.{PacketView}
use Rattle.chaos_packet.specs.Item.{ItemView}
use Rattle.chaos_packet.specs.Opcode.{kind_of, is_rfc}
use Rattle.chaos_conn.specs.Config.{ConfigView}
use Rattle.chaos_conn.specs.State.{is_inactive}
use Rattle.chaos_conn.specs.Arriving.{is_index, may_be_index}
use Rattle.chaos_conn.specs.Calls.{peer_of, front_of}
use Rattle.chaos_conn.specs.Stored.{stored_packets}
use Rattle.chaos_conn.specs.declared.state.State.{State}
use Rattle.chaos_conn.specs.declared.state.State.TheVariants.{RfcReceived}
use Rattle.chaos_conn.specs.View.{ConnView}
use Rattle.chaos_conn.specs.Opening.{closed_conn}
use Rattle.chaos_host.specs.declared.limits.TheConstants.{MAX_CONNS}
use Rattle.chaos_host.specs.declared.slot.Slot.{Slot}

-- a slot is free where its connection is inactive, and else in use
abbrev pub is_free : Slot → Bool
is_free slot = is_inactive slot.conn.state

abbrev pub is_used : Slot → Bool
is_used slot = not (is_free slot)

abbrev pub is_used_in : Option Slot → Bool
is_used_in None = false
is_used_in (Some slot) = is_used slot

-- there is a slot at a place, and it is in use
abbrev pub is_used_at : List Slot → ℕ → Bool
is_used_at slots place = is_used_in (slice_get slots place)

-- ---- own indices

-- the own index of a slot's connection: the slot's place plus 1 in the low 8 bits, its generation in the high 8 bits
abbrev pub index_of : ℕ → Slot → ℕ
index_of place slot = 256 * slot.generation + (place + 1)

-- the place that an own index names
abbrev pub place_of : ℕ → ℕ
place_of id = id % 256 - 1

-- the slot at that place, where it is in use and its connection has this own index
abbrev pub with_index : ℕ → Option Slot → Option Slot
with_index id None = None
with_index id (Some slot) = if is_used slot && (index_of (place_of id) slot == id) then Some slot else None

-- the slot in use whose connection has an own index
abbrev pub named_slot : List Slot → ℕ → Option Slot
named_slot slots id = with_index id (slice_get slots (place_of id))

-- the state of the connection that has an own index
abbrev pub named_state : List Slot → ℕ → Option State
named_state slots id = option_map (λ slot. slot.conn.state) (named_slot slots id)

-- the place of the lowest free slot
abbrev pub free_place : List Slot → Option ℕ
free_place slots = position is_free slots

-- ---- where packets come from

-- the peer is this address and index
abbrev pub is_peer : ℕ → ℕ → Option (ℕ × Option ℕ) → Bool
is_peer src src_index None = false
is_peer src src_index (Some peer) = peer.0 == src && is_index peer.1 src_index

-- the peer is this address and, where it is known, this index
abbrev pub may_be_peer : ℕ → ℕ → Option (ℕ × Option ℕ) → Bool
may_be_peer src src_index None = false
may_be_peer src src_index (Some peer) = peer.0 == src && may_be_index peer.1 src_index

-- the connection in the slot took its request from where the packet comes from
abbrev pub took_from : PacketView → Slot → Bool
took_from p slot = not slot.conn.asked && is_peer p.src p.src_index (peer_of slot.conn)

-- the packet comes from the peer of the connection in the slot, as far as that is known
abbrev pub comes_from : PacketView → Slot → Bool
comes_from p slot = may_be_peer p.src p.src_index (peer_of slot.conn)

-- ---- freeing

-- the slot after a call that may have left it without a connection: it is then freed, and its generation moves on
abbrev pub after_ending : Slot → Slot
after_ending slot = if is_free slot then record slot { generation = (slot.generation + 1) % 256 } else slot

-- ---- what holds of every table

-- the connection has this configuration
abbrev pub HasConfig : ConfigView → Slot → Type 0
HasConfig config slot = slot.conn.config ≡ config

-- an inactive connection is as a new one, but for its moments
abbrev pub IsBlank : ConnView → Type 0
IsBlank conn = is_inactive conn.state ≡ true → conn ≡ closed_conn conn

-- an item is there, and it is an RFC
abbrev pub is_request : Option ItemView → Bool
is_request None = false
is_request (Some item) = is_rfc (kind_of item.op)

-- Nothing is kept, and the one packet that is stored is held in front: a request.
pub record HoldsRequest (conn : ConnView) : Type 0 where
  pub kept : conn.send.kept ≡ []
  pub stored : stored_packets conn ≡ 1
  pub front : is_request (front_of conn) ≡ true

-- while a request waits for its user, its connection stores nothing else
abbrev pub HoldsRequestAlone : ConnView → Type 0
HoldsRequestAlone conn = conn.state ≡ RfcReceived → HoldsRequest conn

-- The slots are from 1 to 255, and their connections have one configuration, with a receive window. What stands in a
-- free slot is as a new connection, and a pending request is the one item that its slot stores.
pub record IsTable (config : ConfigView) (slots : List Slot) : Type 0 where
  pub some : 1 ≤ length slots
  pub few : length slots ≤ MAX_CONNS
  pub alike : All (HasConfig config) slots
  pub window : 1 ≤ config.recv_cap
  pub blank : All (λ slot. IsBlank slot.conn) slots
  pub pending : All (λ slot. HoldsRequestAlone slot.conn) slots
