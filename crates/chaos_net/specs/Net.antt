-- Two hosts on one network, and the law of their connections.
--
--          host at A                    the network                    host at B
--    +-------------------+                                       +-------------------+
--    | slots, generation |   every packet that A ever sent  -->  | slots, generation |
--    | a story for each  |                                       | a story for each  |
--    | connection, past  |   <--  every packet that B ever sent  | connection, past  |
--    | or present        |                                       | or present        |
--    +-------------------+   late, twice, out of order or never  +-------------------+
--        ^ users, clock                                              ^ users, clock
--
-- An event is a call of one of the users, a tick, or one of those packets as it comes to the other host, which does with it what a
-- host does. A story tells what became of one connection. The law says that what a connection has read begins what its peer has
-- written.
use Rattle.std.specs.Prelude.{◌≡◌, ℕ, ◌+◌, ◌*◌, ◌%◌, ◌<◌, ◌≤◌, Bool, true, false, ◌&&◌, ◌==◌, if◌then◌else◌, List, [], ◌∷◌, ◌++◌, length, map, Option, Some, None, slice_get, ◌⊎◌}
use Rattle.chaos_packet.specs.Begins.{Begins}
use Rattle.chaos_packet.specs.Opcode.{kind_of}
use Rattle.chaos_packet.specs.Packet.{PacketView}
use Rattle.chaos_conn.specs.Acted.{Acted}
use Rattle.chaos_conn.specs.Config.{ConfigView, IsConfig}
use Rattle.chaos_conn.specs.View.{ConnView}
use Rattle.chaos_conn.specs.Sending.{carries_ack}
use Rattle.chaos_conn.specs.Opening.{rfc_item}
use Rattle.chaos_conn.specs.Act.{Call, Reply, act}
use Rattle.chaos_conn.specs.Act.Call.{Request, TakeRequest, Read, FinishRead}
use Rattle.chaos_conn.specs.Act.Reply.{Came}
use Rattle.chaos_conn.specs.Names.{is_refused, is_opened}
use Rattle.chaos_host.specs.declared.slot.Slot.{Slot}
use Rattle.chaos_host.specs.Slot.{is_free}
use Rattle.chaos_host.specs.View.{HostView, new_host, make_fault}
use Rattle.chaos_host.specs.Acted.{slot_after_call}
use Rattle.chaos_host.specs.Deeds.{HostEvent, Deed, IsEvent, host_made, deed_of}
use Rattle.chaos_host.specs.Deeds.HostEvent.{Comes, Connects}
use Rattle.chaos_host.specs.Deeds.Deed.{Nothing, Does}
use Rattle.chaos_lab.specs.declared.side.Side.{Side}
use Rattle.chaos_lab.specs.declared.side.Side.TheVariants.{A, B}
use Rattle.chaos_lab.specs.Machine.{other, fresh_span}
use Rattle.chaos_lab.specs.Laboratory.{EndView, with_written, with_read, first_after}

-- ---- connections, past and present

-- The name of a connection of a host, by which it is known for good: the place of its slot, and how many connections
-- had that slot before it.
pub record Name : Type 0 where
  pub place : ℕ
  pub turn : ℕ

-- Its index on the wire, which is used again: the place plus 1 in the low 8 bits, the slot's generation in the high 8
-- bits.
abbrev pub index_of : Name → ℕ
index_of name = 256 * (name.turn % 256) + (name.place + 1)

-- What became of a connection: its end, which is what its host shows of it, the number of its item 0, and all that its
-- user wrote and read, the request and the OPN too; whether it asked or was asked; and its peer, where that is known:
-- of one that was asked the connection that asked, and of one that asked the connection whose OPN opened it.
-- Uncontrolled data and answers aren't items.
pub record Story : Type 0 where
  pub end : EndView
  pub asked : Bool
  pub peer : Option Name

-- A packet that was sent; by which connection, or, where there is none, by the host itself; and how many items each
-- connection of either host had written by then, its own item counted.
pub record Sent : Type 0 where
  pub packet : PacketView
  pub by : Option Name
  pub lengths : Side → Name → ℕ

-- A host; how many connections each slot had before the present one, or the next where it is free; the story of each
-- connection that there ever was; and each packet that was ever sent, the oldest first.
pub record Station : Type 0 where
  pub host : HostView
  pub turn : ℕ → ℕ
  pub story : Name → Option Story
  pub sent : List Sent

-- both hosts
abbrev pub Net : Type 0
Net = Side → Station

-- the same, with another station at this side
abbrev pub with_station : Net → Side → Station → Net
with_station n A station A = station
with_station n A station B = n B
with_station n B station A = n A
with_station n B station B = station

-- ---- what a call makes of a story

-- a read that hands nothing out is a read
abbrev pub as_read : Call → Call
as_read FinishRead = Read
as_read call = call

-- the end after a call, with both lists; a call that is refused adds nothing
abbrev pub end_by : EndView → Call → Acted Reply → EndView
end_by e call acted = record {
  conn = acted.view;
  first = if is_refused acted.answer then e.first else first_after e.first call;
  written = if is_refused acted.answer then e.written else with_written call acted.packets e.written;
  read = if is_refused acted.answer then e.read else with_read e.conn call acted.answer e.read;
}

abbrev pub end_of_call : EndView → Call → EndView
end_of_call e call = end_by e (as_read call) (act e.conn (as_read call))

-- the packet that opens a connection comes from its peer
abbrev pub peer_by : Reply → Option Name → Option Name
peer_by (Came answer) from = if is_opened answer then from else None
peer_by _ from = None

-- a peer that is known stays
abbrev pub peer_after : Option Name → Reply → Option Name → Option Name
peer_after (Some peer) reply from = Some peer
peer_after None reply from = peer_by reply from

-- a story after a call; from: which connection sent the packet that came
abbrev pub goes_on : Story → Call → Option Name → Story
goes_on s call from =
    record { end = end_of_call s.end call; asked = s.asked; peer = peer_after s.peer (act s.end.conn call).answer from }

-- a story begins by a request that is made, and is then item 0 of what was written, or by one that is taken, from its
-- sender
abbrev pub story_of : ConnView → Call → Option Name → Option Story
story_of conn (Request me peer contact start now) from =
    Some
    (record
    { end = record { conn = (act conn (Request me peer contact start now)).view; first = start; written = rfc_item contact ∷ []; read = [] }; asked = true; peer = None })
story_of conn (TakeRequest rfc me now) from =
    Some
    (record
    { end = record { conn = (act conn (TakeRequest rfc me now)).view; first = 0; written = []; read = [] }; asked = false; peer = from })
story_of conn call from = None

abbrev pub story_after : Option Story → ConnView → Call → Option Name → Option Story
story_after None conn call from = story_of conn call from
story_after (Some s) conn call from = Some (goes_on s call from)

-- ---- what an event makes of a station

-- the connection of the slot at a place: the present one, or the next
abbrev pub present : Station → ℕ → Name
present st place = record { place = place; turn = st.turn place }

abbrev pub is_name : Name → Name → Bool
is_name a b = a.place == b.place && a.turn == b.turn

abbrev pub with_story : (Name → Option Story) → Name → Option Story → Name → Option Story
with_story stories name story one = if is_name one name then story else stories one

abbrev pub with_turn : (ℕ → ℕ) → ℕ → ℕ → ℕ → ℕ
with_turn turns place turn one = if one == place then turn else turns one

-- the connection in a slot does a call: its story goes on or begins, and where the slot is free then, the next turn
-- comes
abbrev pub after_slot : Station → ℕ → Call → Option Name → Option Slot → Station
after_slot st place call from None = st
after_slot st place call from (Some slot) = record st {
  turn = with_turn st.turn place (if is_free (slot_after_call slot call) then st.turn place + 1 else st.turn place);
  story = with_story st.story (present st place) (story_after (st.story (present st place)) slot.conn call from);
}

abbrev pub after_deed : Station → Deed → Option Name → Station
after_deed st Nothing from = st
after_deed st (Does place call) from = after_slot st place call from (slice_get st.host.slots place)

-- which connection sends
abbrev pub sender : Station → Deed → Option Name
sender st Nothing = None
sender st (Does place call) = Some (present st place)

-- how many items a connection has written by now
abbrev pub length_of : Option Story → ℕ
length_of None = 0
length_of (Some s) = length s.end.written

abbrev pub lengths_of : Net → Side → Name → ℕ
lengths_of n side name = length_of ((n side).story name)

abbrev pub sent_by : Option Name → (Side → Name → ℕ) → PacketView → Sent
sent_by by lengths packet = record { packet = packet; by = by; lengths = lengths }

-- The host at a side does what its contracts say, and its stories go on.
abbrev pub moved : Station → HostEvent → Option Name → Station
moved st event from = record (after_deed st (deed_of st.host event) from) { host = (host_made st.host event).view }

-- And what it puts out is sent, and stays with the network.
abbrev pub after_event : Net → Side → HostEvent → Option Name → Net
after_event n x event from =
    let st = moved (n x) event from in
    with_station n x (record st {
      sent =
          (n x).sent
          ++ map (sent_by (sender (n x) (deed_of (n x).host event)) (lengths_of (with_station n x st)))
          (host_made (n x).host event).packets;
    })

-- ---- events

-- A user of one host makes a call, or a slot is ticked. Or a packet that the other host sent comes: that with this
-- number, the oldest being number 0. One that never comes is lost, and one may come as often as it likes, before or
-- after any other.
pub data NetEvent : Type 0 where
  At : (side : Side) → (event : HostEvent) → NetEvent
  Arrives : (side : Side) → (number now : ℕ) → NetEvent

abbrev pub arrives : Net → Side → ℕ → Option Sent → Net
arrives n x now None = n
arrives n x now (Some q) = after_event n x (Comes q.packet now) q.by

abbrev pub happens : Net → NetEvent → Net
happens n (At x event) = after_event n x event None
happens n (Arrives x number now) = arrives n x now (slice_get (n (other x)).sent number)

-- ---- freshness

-- Fewer than 256 connections lie between both, so that in one slot they have two indices.
abbrev pub Near : Name → Name → Type 0
Near a b = (a.turn < b.turn + 256) × (b.turn < a.turn + 256)

-- A packet that c sent comes to d, the present connection that its destination index names, and s and t are their
-- stories. It is fresh: d is near the connection that was meant, which is c's peer, and c is near d's peer, so that
-- neither index was used again; and neither c nor d has written 32,640 items since it was sent, so that no 16-bit
-- number was.
pub record IsFreshFor (x : Side) (q : Sent) (c d : Name) (s t : Story) : Type 0 where
  pub meant : (m : Name) → s.peer ≡ Some m → Near d m
  pub peer : (e : Name) → t.peer ≡ Some e → Near c e
  pub sender : length s.end.written < q.lengths (other x) c + fresh_span
  pub receiver : length t.end.written < q.lengths x d + fresh_span

-- So it is with each packet that carries an acknowledgement: an OPN, data, an EOF, an SNS or an STS. All others may be
-- of any age.
abbrev pub IsFresh : Net → Side → Sent → Type 0
IsFresh n x q =
    carries_ack (kind_of q.packet.op) ≡ true →
    (c d : Name) (s t : Story) → q.by ≡ Some c → (n (other x)).story c ≡ Some s → (n x).turn d.place ≡ d.turn
    → (n x).story d ≡ Some t → q.packet.dst_index ≡ index_of d → IsFreshFor x q c d s t

-- ---- runs

-- What users and clocks make: any event of a host but that a packet comes. A connect numbers its items from a 16-bit
-- number on.
abbrev pub IsOwn : HostEvent → Type 0
IsOwn (Comes packet now) = ⊥
IsOwn (Connects peer contact start now) = start < 65536
IsOwn event = IsEvent event

-- All these may happen at any time, and a packet that was sent may come while it is fresh.
abbrev pub CanHappen : Net → NetEvent → Type 0
CanHappen n (At x event) = IsOwn event
CanHappen n (Arrives x number now) = (q : Sent) → slice_get (n (other x)).sent number ≡ Some q → IsFresh n x q

-- the net after some events, one after the other
abbrev pub after_events : Net → List NetEvent → Net
after_events n [] = n
after_events n (event ∷ events) = after_events (happens n event) events

-- Each of these events can happen when it does, and they lead from one net to another.
abbrev pub Run : Net → List NetEvent → Net → Type 0
Run n [] m = m ≡ n
Run n (event ∷ events) m = CanHappen n event × Run (happens n event) events m

-- a new host, which has had no connection and sent nothing
abbrev pub new_station : ℕ → ℕ → ConfigView → Station
new_station address conns config =
    record { host = new_host address conns config; turn = λ _. 0; story = λ _. None; sent = [] }

pub record IsNew (st : Station) : Type 0 where
  pub address : ℕ
  pub conns : ℕ
  pub config : ConfigView
  pub right : make_fault address conns ≡ None
  pub sound : IsConfig config
  pub is : st ≡ new_station address conns config

-- a run of some events leads here from two new hosts, of any addresses, numbers of slots and configurations
pub record Reached (n : Net) : Type 0 where
  pub start : Net
  pub a : IsNew (start A)
  pub b : IsNew (start B)
  pub events : List NetEvent
  pub run : Run start events n

-- ---- the law

-- What a connection has read begins what its peer has written, which is a connection of the other host. Both name each
-- other. Or this one was asked, its peer was opened by another or by none yet, and it has read no more than the
-- request.
pub record HoldsWith (n : Net) (x : Side) (name : Name) (s : Story) (peer : Name) : Type 0 where
  pub story : Story
  pub there : (n (other x)).story peer ≡ Some story
  pub begins : Begins s.end.read story.end.written
  pub named : (story.peer ≡ Some name) ⊎ ((s.asked ≡ false) × (length s.end.read ≤ 1))

-- One that asked and wasn't opened has read nothing.
abbrev pub HoldsBy : Net → Side → Name → Story → Option Name → Type 0
HoldsBy n x name s None = (s.asked ≡ true) × (s.end.read ≡ [])
HoldsBy n x name s (Some peer) = HoldsWith n x name s peer

abbrev pub Holds : Net → Side → Name → Type 0
Holds n x name = (s : Story) → (n x).story name ≡ Some s → HoldsBy n x name s s.peer

-- So it is with every connection, past or present, of either host, after every run.
abbrev pub NetworkLaw : Type 0
NetworkLaw = (n : Net) (x : Side) (name : Name) → Reached n → Holds n x name
