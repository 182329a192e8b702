-- Laws of a host's table.
use Rattle.std.specs.Prelude.{◌≡◌, ℕ, ◌≤◌, Bool, true, false, List, length, Some, Ok, slice_get}
use Rattle.chaos_conn.specs.State.{is_inactive}
use Rattle.chaos_conn.specs.View.{ConnView}
use Rattle.chaos_packet.specs.Packet.{PacketView, item_of}
use Rattle.chaos_conn.specs.Opening.{closed_conn}
use Rattle.chaos_conn.specs.declared.state.End.{End}
use Rattle.chaos_conn.specs.declared.state.State.TheVariants.{RfcReceived}
use Rattle.chaos_conn.specs.Calls.{front_of}
use Rattle.chaos_conn.specs.Act.{Call, TakeRequest, Answer, Reject, Close, Did, act}
use Rattle.chaos_host.specs.declared.limits.TheConstants.{MAX_CONNS}
use Rattle.chaos_host.specs.declared.slot.Slot.{Slot}
use Rattle.chaos_host.specs.Slot.{is_used, index_of, named_slot, HoldsRequest}

-- the calls by which a user ends a connection
abbrev pub may_end : Call → Bool
may_end (Answer bytes) = true
may_end (Reject text) = true
may_end (Close text) = true
may_end _ = false

-- A connection in use stays so, whatever call is made, but for an answer, a rejection and a close.
abbrev pub StaysInUse : Type 0
StaysInUse =
    (conn : ConnView) (call : Call) → may_end call ≡ false → is_inactive conn.state ≡ false
    → is_inactive (act conn call).view.state ≡ false

-- In a table of at most MAX_CONNS slots an own index names the slot in use that has it.
abbrev pub IndexNames : Type 0
IndexNames =
    (slots : List Slot) (place id : ℕ) (slot : Slot) → length slots ≤ MAX_CONNS → slice_get slots place ≡ Some slot
    → is_used slot ≡ true → index_of place slot ≡ id
    → named_slot slots id ≡ Some slot

-- And it names no other: the slot that it names is in use, and has that index at its place.
abbrev pub IndexIsOf : Type 0
IndexIsOf =
    (slots : List Slot) (id : ℕ) (slot : Slot) → named_slot slots id ≡ Some slot
    → (place : ℕ) × (slice_get slots place ≡ Some slot) × (is_used slot ≡ true) × (index_of place slot ≡ id)

-- A connection that is new or was closed, and takes a request, holds that request in front, and stores nothing else.
abbrev pub TakesOne : Type 0
TakesOne =
    (conn : ConnView) (rfc : PacketView) (me : End) (now : ℕ) → 1 ≤ conn.config.recv_cap
    → (act (closed_conn conn) (TakeRequest rfc me now)).answer ≡ Did (Ok tt)
    → HoldsRequest (act (closed_conn conn) (TakeRequest rfc me now)).view
    × (front_of (act (closed_conn conn) (TakeRequest rfc me now)).view ≡ Some (item_of rfc))

-- While a request is pending, no call changes what its connection stores, but for one after which it is pending no
-- more.
abbrev pub PendingStays : Type 0
PendingStays = (conn : ConnView) (call : Call) → conn.state ≡ RfcReceived → (act conn call).view.state ≡ RfcReceived
    → ((act conn call).view.send ≡ conn.send) × ((act conn call).view.recv ≡ conn.recv)
