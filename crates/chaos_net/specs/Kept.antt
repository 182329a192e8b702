-- What a running net keeps: a host, what it knows of each slot, and all that was sent.
use Rattle.std.specs.Prelude.{◌≡◌, ℕ, ◌+◌, ◌-◌, ◌<◌, nat_lt, Bool, true, false, ◌&&◌, if◌then◌else◌, List, ◌++◌, map, Option, Some, None, slice_get, slice_set, is_some, is_none, Ok, Err}
use Rattle.chaos_packet.specs.Packet.{PacketView}
use Rattle.chaos_packet.specs.Opcode.{kind_of}
use Rattle.chaos_conn.specs.Sending.{carries_ack}
use Rattle.chaos_conn.specs.declared.answers.Delivered.{Delivered}
use Rattle.chaos_conn.specs.declared.answers.Delivered.TheVariants as came
use Rattle.chaos_host.specs.declared.answers.HostDelivered.{HostDelivered}
use Rattle.chaos_host.specs.declared.answers.HostDelivered.TheVariants.{At, Requested}
use Rattle.chaos_host.specs.Connect.{ConnectAnswer, host_connect}
use Rattle.chaos_host.specs.Deliver.{host_deliver}
use Rattle.chaos_host.specs.Slot.{place_of, named_slot}
use Rattle.chaos_host.specs.View.{HostView, id_at}
use Rattle.chaos_host.specs.Deeds.{HostEvent, host_made}
use Rattle.chaos_host.specs.Deeds.HostEvent.{Calls, Comes, Connects, Ends, Listens, Releases, Ticks}
use Rattle.chaos_lab.specs.Machine.{fresh_span}
use Rattle.chaos_lab.specs.declared.side.Side.{Side}
use Rattle.chaos_lab.specs.declared.side.Side.TheVariants.{A, B}
use Rattle.chaos_net.specs.declared.fault.NetFault.{NetFault}
use Rattle.chaos_net.specs.declared.fault.NetFault.TheVariants.{NoSuchPacket, Stale}
use Rattle.chaos_net.specs.declared.kept_sent.KeptSent.{KeptSent}
use Rattle.chaos_net.specs.declared.mark.Mark.{Mark}
use Rattle.chaos_net.specs.declared.mark.Mark.TheVariants.{Stays, Begins, Joins, Frees}
use Rattle.chaos_net.specs.declared.seat.Seat.{Seat}

-- A host, what is known of each slot, and all that was sent, the oldest first.
pub record StationView : Type 0 where
  pub host : HostView
  pub seats : List Seat
  pub sent : List KeptSent

-- both, and how many events there were
pub record NetView : Type 0 where
  pub a : StationView
  pub b : StationView
  pub events : ℕ

abbrev pub at : NetView → Side → StationView
at v A = v.a
at v B = v.b

-- ---- seats

-- a peer that is known stays
abbrev pub joined : Option ℕ → Option ℕ → Option ℕ
joined (Some peer) new = Some peer
joined None new = new

-- a seat with its mark, as its connection sends
abbrev pub before : Mark → Seat → Seat
before Stays seat = seat
before Frees seat = seat
before (Begins peer) seat = record seat { peer = peer }
before (Joins peer) seat = record seat { peer = joined seat.peer peer }

-- and after that
abbrev pub after : Mark → Seat → Seat
after Frees seat = record { turn = seat.turn + 1; peer = None }
after mark seat = seat

-- the seat at a place changes, where there is one
abbrev pub alter_at : (Seat → Seat) → List Seat → ℕ → Option Seat → List Seat
alter_at change seats place None = seats
alter_at change seats place (Some seat) = slice_set seats place (change seat)

abbrev pub alter : (Seat → Seat) → List Seat → Option ℕ → List Seat
alter change seats None = seats
alter change seats (Some place) = alter_at change seats place (slice_get seats place)

abbrev pub seat_in : List Seat → Option ℕ → Option Seat
seat_in seats None = None
seat_in seats (Some place) = slice_get seats place

-- all turns are below this count
abbrev pub AreBelow : ℕ → List Seat → Type 0
AreBelow count seats = (place : ℕ) (seat : Seat) → slice_get seats place ≡ Some seat → seat.turn < count

-- ---- what is sent

abbrev pub by_of : Option Seat → Option ℕ
by_of None = None
by_of (Some seat) = Some seat.turn

abbrev pub meant_of : Option Seat → Option ℕ
meant_of None = None
meant_of (Some seat) = seat.peer

-- a packet that the connection of a seat sends, or the host itself
abbrev pub kept_by : Option Seat → ℕ → PacketView → KeptSent
kept_by seat count packet = record { packet = packet; by = by_of seat; meant = meant_of seat; at = count }

-- ---- events

-- A station after an event of its host, which was so many events: the host does what it does, the seat at a place gets
-- a mark, and what goes out is sent by the connection of that seat.
abbrev pub station_after : StationView → HostEvent → Option ℕ → Mark → ℕ → StationView
station_after st event place mark count =
    let seats = alter (before mark) st.seats place in
    record {
      host = (host_made st.host event).view;
      seats = alter (after mark) seats place;
      sent = st.sent ++ map (kept_by (seat_in seats place) count) (host_made st.host event).packets;
    }

-- where a connection begins by a connect
abbrev pub connect_place : ConnectAnswer → Option ℕ
connect_place (Ok id) = Some (place_of id)
connect_place (Err why) = None

-- where a packet goes, and what it makes of the seat there
abbrev pub deliver_place : HostDelivered → Option ℕ
deliver_place (Requested id) = Some (place_of id)
deliver_place (At id delivered) = Some (place_of id)
deliver_place _ = None

abbrev pub heard_mark : Delivered → Option ℕ → Mark
heard_mark came.Opened by = Joins by
heard_mark delivered by = Stays

abbrev pub deliver_mark : HostDelivered → Option ℕ → Mark
deliver_mark (Requested id) by = Begins by
deliver_mark (At id delivered) by = heard_mark delivered by
deliver_mark told by = Stays

-- a call that ended the connection with an index frees its slot
abbrev pub end_mark : HostView → HostView → ℕ → Mark
end_mark old new id = if is_some (named_slot old.slots id) && is_none (id_at new (place_of id)) then Frees else Stays

-- the place of the connection that does something in an event
abbrev pub place_in : HostView → HostEvent → Option ℕ
place_in v (Comes packet now) = deliver_place (host_deliver v packet now).answer
place_in v (Calls id call) = Some (place_of id)
place_in v (Ends id call) = Some (place_of id)
place_in v (Releases id) = Some (place_of id)
place_in v (Connects peer contact start now) = connect_place (host_connect v peer contact start now).answer
place_in v (Listens contact) = None
place_in v (Ticks place now) = Some place

-- and what becomes of its seat; by: the turn of the connection that sent the packet that comes
abbrev pub mark_in : HostView → HostEvent → Option ℕ → Mark
mark_in v (Comes packet now) by = deliver_mark (host_deliver v packet now).answer by
mark_in v (Ends id call) by = end_mark v (host_made v (Ends id call)).view id
mark_in v (Releases id) by = end_mark v (host_made v (Releases id)).view id
mark_in v (Connects peer contact start now) by = Begins None
mark_in v event by = Stays

-- ---- freshness

-- fewer than 256 connections lie between both
abbrev pub is_near : ℕ → ℕ → Bool
is_near a b = nat_lt ((a - b) + (b - a)) 256

abbrev pub are_near : Option ℕ → Option ℕ → Bool
are_near None b = true
are_near (Some a) None = true
are_near (Some a) (Some b) = is_near a b

-- so few events happened since that no end wrote 32,640 items, and neither index was used again
abbrev pub is_fresh_at : ℕ → Option Seat → KeptSent → Bool
is_fresh_at events None kept = false
is_fresh_at events (Some seat) kept =
    nat_lt (events - kept.at) fresh_span && (are_near (Some seat.turn) kept.meant && are_near kept.by seat.peer)

-- The test of a running net, after so many events, at the host with these seats: a packet that carries an
-- acknowledgement is fresh for the slot that it names.
abbrev pub may_come : ℕ → List Seat → KeptSent → Bool
may_come events seats kept =
    if carries_ack (kind_of kept.packet.op) then is_fresh_at events (slice_get seats (place_of kept.packet.dst_index))
    kept else true

-- Why a packet isn't delivered: there is none of this number, or it isn't fresh.
abbrev pub arrival_fault : ℕ → List Seat → Option KeptSent → Option NetFault
arrival_fault events seats None = Some NoSuchPacket
arrival_fault events seats (Some kept) = if may_come events seats kept then None else Some Stale

-- the host did with the packet what a host does
abbrev pub Delivers : HostView → Option KeptSent → ℕ → HostDelivered → Type 0
Delivers old None now told = ⊥
Delivers old (Some kept) now told = told ≡ (host_deliver old kept.packet now).answer
