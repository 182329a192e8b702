-- A network as it runs, and the net that it stands for.
use Rattle.std.specs.Prelude.{◌≡◌, ℕ, ◌+◌, ◌≤◌, true, List, [], ◌∷◌, ◌++◌, length, Option, Some, None, Result, Ok, slice_get, ⊤}
use Rattle.chaos_packet.specs.Item.{ItemView}
use Rattle.chaos_packet.specs.Opcode.{kind_of}
use Rattle.chaos_conn.specs.declared.answers.ReadEnd.{ReadEnd}
use Rattle.chaos_conn.specs.declared.answers.ReadEnd.TheVariants.{Item}
use Rattle.chaos_conn.specs.declared.answers.ReadDone.{ReadDone}
use Rattle.chaos_conn.specs.declared.answers.ReadDone.TheVariants.{Done}
use Rattle.chaos_conn.specs.Act.Call.{Write, Read, FinishRead}
use Rattle.chaos_conn.specs.Calls.{front_of}
use Rattle.chaos_conn.specs.Sending.{carries_ack}
use Rattle.chaos_host.specs.declared.fault.CallFault.{CallFault}
use Rattle.chaos_host.specs.declared.slot.Slot.{Slot}
use Rattle.chaos_host.specs.Deeds.HostEvent.{Calls}
use Rattle.chaos_host.specs.Slot.{named_slot}
use Rattle.chaos_host.specs.View.{host_look}
use Rattle.chaos_lab.specs.declared.side.Side.{Side}
use Rattle.chaos_net.specs.declared.kept_sent.KeptSent.{KeptSent}
use Rattle.chaos_net.specs.declared.seat.Seat.{Seat}
use Rattle.chaos_net.specs.Net.{Name, Story, Sent, Station, Net, NetEvent, Reached, Holds, present, length_of, lengths_of, happens}
use Rattle.chaos_net.specs.Net.NetEvent.{At}
use Rattle.chaos_net.specs.Present.{IsPresent, named, read_of, written_of}
use Rattle.chaos_net.specs.Kept.{StationView, NetView, at}

-- the turn of a name
abbrev pub turn_of : Option Name → Option ℕ
turn_of None = None
turn_of (Some name) = Some name.turn

-- A seat tells the turn of a connection, and that of its peer.
pub record IsSeatOf (st : Station) (name : Name) (seat : Seat) : Type 0 where
  pub turn : seat.turn ≡ name.turn
  pub peer : (s : Story) → st.story name ≡ Some s → seat.peer ≡ turn_of s.peer

-- A packet is kept as it was sent, of the connection that sent it. What carries an acknowledgement tells the turn of
-- its peer. And since it was sent no connection has written more items than there were events.
pub record IsKept (n : Net) (y : Side) (events : ℕ) (kept : KeptSent) (q : Sent) : Type 0 where
  pub packet : kept.packet ≡ q.packet
  pub by : kept.by ≡ turn_of q.by
  pub meant : carries_ack (kind_of q.packet.op) ≡ true → (c : Name) (s : Story) → q.by ≡ Some c → (n y).story c ≡ Some s
      → kept.meant ≡ turn_of s.peer
  pub lengths : (z : Side) (name : Name) → lengths_of n z name + kept.at ≤ q.lengths z name + events
  pub at : kept.at ≤ events

-- all, one by one
abbrev pub AreKept : Net → Side → ℕ → List KeptSent → List Sent → Type 0
AreKept n y events [] [] = ⊤
AreKept n y events (kept ∷ more) (q ∷ qs) = IsKept n y events kept q × AreKept n y events more qs
AreKept n y events kept sent = ⊥

-- What a running net keeps at a side stands for the station there.
pub record StandsAt (n : Net) (x : Side) (events : ℕ) (st : StationView) : Type 0 where
  pub host : st.host ≡ (n x).host
  pub size : length st.seats ≡ length st.host.slots
  pub seats : (place : ℕ) (seat : Seat) → slice_get st.seats place ≡ Some seat
      → IsSeatOf (n x) (present (n x) place) seat
  pub sent : AreKept n x events st.sent (n x).sent
  -- there were no more connections in a slot than events, and no more items of a connection
  pub turns : (place : ℕ) → (n x).turn place ≤ events
  pub lengths : (name : Name) → length_of ((n x).story name) ≤ events

-- A running net stands for a net that was reached.
pub record Stands (v : NetView) (n : Net) : Type 0 where
  pub reached : Reached n
  pub stations : (x : Side) → StandsAt n x v.events (at v x)

-- The same events lead from the net that it stood for to the one that it stands for.
abbrev pub Happens : NetView → NetEvent → NetView → Type 0
Happens old event new = (n : Net) → Stands old n → Stands new (happens n event)

-- There is a net that it stands for.
pub record HasNet (v : NetView) : Type 0 where
  pub net : Net
  pub stands : Stands v net

-- Of the net that it stands for the law holds: of each connection, present or past, of either host. And of each that is
-- there now, the story tells what its host shows of it.
pub record HasLaw (v : NetView) : Type 0 where
  pub net : Net
  pub stands : Stands v net
  pub law : (x : Side) (name : Name) → Holds net x name
  pub present : (x : Side) (id : ℕ) (slot : Slot) → named_slot (at v x).host.slots id ≡ Some slot
      → IsPresent (net x) id slot

-- ---- what callers are told

-- what a read handed out joins what its connection has read
abbrev pub ReadIsTold : NetView → Side → ℕ → Result ReadEnd CallFault → Type 0
ReadIsTold old x id told = (n : Net) (item : ItemView) → Stands old n → told ≡ Ok (Item item)
    → read_of ((happens n (At x (Calls id Read)) x).story (named (n x) id))
    ≡ read_of ((n x).story (named (n x) id)) ++ item ∷ []

-- so does what was in front, where a read hands nothing out
abbrev pub FrontIsRead : NetView → Side → ℕ → Result ReadDone CallFault → Type 0
FrontIsRead old x id told =
    (n : Net) (item : ItemView) → Stands old n → host_look (at old x).host id front_of ≡ Ok (Some item) → told ≡ Ok Done
    → read_of ((happens n (At x (Calls id FinishRead)) x).story (named (n x) id))
    ≡ read_of ((n x).story (named (n x) id)) ++ item ∷ []

-- what a write took joins what its connection has written
abbrev pub WriteIsTold : NetView → Side → ℕ → ℕ → List ℕ → ℕ → Result ℕ CallFault → Type 0
WriteIsTold old x id op bytes now told = (n : Net) (number : ℕ) → Stands old n → told ≡ Ok number
    → written_of ((happens n (At x (Calls id (Write op bytes now))) x).story (named (n x) id))
    ≡ written_of ((n x).story (named (n x) id)) ++ record { op = op; body = bytes } ∷ []
