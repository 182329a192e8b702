-- Where a packet that comes to a host goes.
use Rattle.std.specs.Prelude.{◌≡◌, ℕ, ◌<◌, Bool, true, false, ⊤, not, ◌==◌, if◌then◌else◌, length, Option, Some, None, position}
use Rattle.chaos_packet.specs.Opcode.{kind_of, is_rfc}
use Rattle.chaos_packet.specs.Packet.{PacketView, contact_of}
use Rattle.chaos_packet.specs.declared.opcode.Kind.{Kind}
use Rattle.chaos_packet.specs.declared.opcode.Kind.TheVariants as kind
use Rattle.chaos_host.specs.declared.route.Route.{Route}
use Rattle.chaos_host.specs.declared.route.Route.TheVariants as to
use Rattle.chaos_host.specs.declared.slot.Slot.{Slot}
use Rattle.chaos_host.specs.Slot.{named_slot, place_of, free_place, is_used_at, took_from, comes_from}
use Rattle.chaos_host.specs.Listening.{has_listener}
use Rattle.chaos_host.specs.View.{HostView}

-- a packet asks for a connection, and this slot can take it: it is an RFC of an address that isn't 0, and the slot is
-- free
pub record IsRequest (v : HostView) (p : PacketView) (place : ℕ) : Type 0 where
  pub within : place < length v.slots
  pub vacant : is_used_at v.slots place ≡ false
  pub source : (p.src == 0) ≡ false
  pub rfc : is_rfc (kind_of p.op) ≡ true

-- ---- an RFC

-- a request for a contact that is listened to: the lowest free slot takes it
abbrev pub route_request : Option ℕ → Route
route_request None = to.TableFull
route_request (Some place) = to.Request place

-- a request that no connection took before
abbrev pub route_new : HostView → PacketView → Route
route_new v p = if has_listener v.listeners (contact_of p) then route_request (free_place v.slots) else to.NoServer

-- a request: the connection that took one from this source has it, whatever its destination index is
abbrev pub route_taken : HostView → PacketView → Option ℕ → Route
route_taken v p None = route_new v p
route_taken v p (Some place) = to.Slot place

abbrev pub route_rfc : HostView → PacketView → Route
route_rfc v p = route_taken v p (position (took_from p) v.slots)

-- ---- another packet

-- OPN, EOF, data, SNS and STS take it that there is a connection, and their sender is told where there is none
abbrev pub needs_conn : Kind → Bool
needs_conn kind.Opn = true
needs_conn kind.Eof = true
needs_conn kind.Data = true
needs_conn kind.Sns = true
needs_conn kind.Sts = true
needs_conn _ = false

abbrev pub route_no_conn : PacketView → Route
route_no_conn p = if needs_conn (kind_of p.op) then to.SendLos else to.DropSilently

-- a packet whose destination index names this connection goes to it where it comes from its peer
abbrev pub route_named : PacketView → Option Slot → Route
route_named p None = route_no_conn p
route_named p (Some slot) = if comes_from p slot then to.Slot (place_of p.dst_index) else route_no_conn p

abbrev pub route_other : HostView → PacketView → Route
route_other v p = route_named p (named_slot v.slots p.dst_index)

-- ---- the checks in their order; the first that applies decides

abbrev pub route : HostView → PacketView → Route
route v p =
    if not (p.dst == v.address) then to.NotOurs
    else (if p.src == 0 then to.NoSource
    else (if is_rfc (kind_of p.op) then route_rfc v p
    else route_other v p))

-- What holds of a packet's route: a place that it names is in the table, and a new request is an RFC of an address that
-- isn't 0, and its slot is free.
abbrev pub IsRouted : HostView → PacketView → Route → Type 0
IsRouted v p (to.Slot place) = place < length v.slots
IsRouted v p (to.Request place) = IsRequest v p place
IsRouted v p _ = ⊤
