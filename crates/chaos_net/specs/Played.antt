-- What holds of every net of two hosts: each pair of a connection that asked and one of the other host is played by a
-- laboratory.
use Rattle.std.specs.Prelude.{◌≡◌, ℕ, ◌%◌, ◌<◌, ◌≤◌, Bool, true, false, List, [], length, Option, Some, None, option_map, slice_get, ⊤, ◌⊎◌}
use Rattle.chaos_packet.specs.Begins.{Begins}
use Rattle.chaos_packet.specs.Number.{num}
use Rattle.chaos_packet.specs.Opcode.{kind_of, is_rfc}
use Rattle.chaos_packet.specs.Packet.{PacketView, item_of}
use Rattle.chaos_conn.specs.Config.{ConfigView, IsConfig}
use Rattle.chaos_conn.specs.State.{is_inactive}
use Rattle.chaos_conn.specs.Sending.{carries_ack}
use Rattle.chaos_conn.specs.Names.{IsOver, IsBare, renamed}
use Rattle.chaos_host.specs.declared.slot.Slot.{Slot}
use Rattle.chaos_host.specs.Slot.{is_free}
use Rattle.chaos_host.specs.View.{IsHost}
use Rattle.chaos_lab.specs.declared.side.Side.{Side}
use Rattle.chaos_lab.specs.declared.side.Side.TheVariants.{A, B}
use Rattle.chaos_lab.specs.declared.stamped.Stamped.{Stamped}
use Rattle.chaos_lab.specs.Machine.{other}
use Rattle.chaos_lab.specs.Shown.{address_of}
use Rattle.chaos_lab.specs.Laboratory.{LabView, EndView, stamp}
use Rattle.chaos_lab.specs.Tied.{HasMachine}
use Rattle.chaos_lab.specs.Plays.{names_of}
use Rattle.chaos_net.specs.Net.{Name, Story, Sent, Station, Net, index_of, present}

-- ---- an end of a laboratory

-- under the names of a side
abbrev pub plain : Side → EndView → EndView
plain y e = record e { conn = renamed (names_of y) e.conn }

-- the connection is over, and its lists are those of the end
pub record IsPast (e lab : EndView) : Type 0 where
  pub over : IsOver e.conn
  pub first : lab.first ≡ e.first
  pub written : lab.written ≡ e.written
  pub read : lab.read ≡ e.read

-- the end plays this connection, as long as that isn't over
abbrev pub IsEnd : Side → EndView → EndView → Type 0
IsEnd y e lab = (lab ≡ plain y e) ⊎ IsPast e lab

-- ---- a pair

-- the connection that asked was opened by this one, or by none yet
abbrev pub IsLinked : Option Name → Name → Type 0
IsLinked None taker = ⊤
IsLinked (Some peer) taker = peer ≡ taker

-- or by another
abbrev pub IsParted : Option Name → Name → Type 0
IsParted None taker = ⊥
IsParted (Some peer) taker = peer ≡ taker → ⊥

-- it took a request of this connection
abbrev pub Takes : Option Story → Name → Type 0
Takes None asker = ⊥
Takes (Some s) asker = (s.asked ≡ false) × (s.peer ≡ Some asker)

-- a packet as an end of a laboratory sends it
abbrev pub lab_packet : Side → PacketView → PacketView
lab_packet y p = record p { dst = address_of (other y); dst_index = 1; src = address_of y; src_index = 1 }

-- a copy of it is in the laboratory
abbrev pub InLab : LabView → Side → PacketView → ℕ → ℕ → Type 0
InLab l y p len_a len_b = (number : ℕ) × (slice_get l.copies number ≡ Some (stamp y len_a len_b (lab_packet y p)))

-- a copy of A's RFC, fresh as long as A wrote nothing else
pub record HasRequest (l : LabView) : Type 0 where
  pub number : ℕ
  pub copy : Stamped
  pub there : slice_get l.copies number ≡ Some copy
  pub rfc : is_rfc (kind_of copy.packet.op) ≡ true
  pub len_a : copy.len_a ≡ 1
  pub len_b : copy.len_b ≡ 0

-- A laboratory whose A is the connection asker of side x, and whose B is the connection taker of the other side where
-- that took its request, and else new. r and t are their stories, and from_r and from_t what both sides sent.
pub record IsPlayed (x : Side) (asker taker : Name) (r : Story) (t : Option Story) (from_r from_t : List Sent)
    (config : ConfigView) (l : LabView) : Type 0 where
  pub machine : HasMachine l
  pub first : l.a.first ≡ r.end.first
  pub linked : IsLinked r.peer taker → IsEnd A r.end l.a
  pub parted : IsParted r.peer taker → (length l.a.written ≤ 1) × Begins l.a.written r.end.written
  pub taken : (s : Story) → t ≡ Some s → Takes (Some s) asker → IsEnd B s.end l.b
  pub new : (Takes t asker → ⊥) → (l.asked ≡ false) × (l.b.conn.config ≡ config) × (l.b.first ≡ 0)
  pub request : HasRequest l
  -- what the asker sent to the taker, and the taker to the asker
  pub sent_a : (k : ℕ) (q : Sent) → slice_get from_r k ≡ Some q → q.by ≡ Some asker
      → carries_ack (kind_of q.packet.op) ≡ true → r.peer ≡ Some taker
      → InLab l A q.packet (q.lengths x asker) (q.lengths (other x) taker)
  pub sent_b : (k : ℕ) (q : Sent) → slice_get from_t k ≡ Some q → q.by ≡ Some taker
      → carries_ack (kind_of q.packet.op) ≡ true → Takes t asker → IsLinked r.peer taker
      → InLab l B q.packet (q.lengths x asker) (q.lengths (other x) taker)

-- ---- stations

-- a slot is in use by its present connection, or free, and that is yet to come
pub record IsSlot (st : Station) (place : ℕ) (slot : Slot) : Type 0 where
  pub generation : slot.generation ≡ st.turn place % 256
  pub used : is_free slot ≡ false → (s : Story) × (st.story (present st place) ≡ Some s) × (s.end.conn ≡ slot.conn)
  pub free : is_free slot ≡ true → st.story (present st place) ≡ None

-- the names that a connection in use has: its own, and its peer's index as far as that is known
pub record IsNamed (own : ℕ) (name : Name) (s : Story) : Type 0 where
  pub me : s.end.conn.me ≡ record { address = own; index = index_of name }
  pub peer_index : s.end.conn.peer_index ≡ option_map index_of s.peer

-- One that was asked has a peer, which asked. One that asked has none, and has read nothing; or it has one, which took
-- its request. far: the other host's station
abbrev pub HasPeer : Station → Name → Story → Option Name → Bool → Type 0
HasPeer far name s None asked = (asked ≡ true) × (s.end.read ≡ [])
HasPeer far name s (Some peer) false = (t : Story) × (far.story peer ≡ Some t) × (t.asked ≡ true)
HasPeer far name s (Some peer) true = (t : Story) × (far.story peer ≡ Some t) × (t.asked ≡ false) × (t.peer ≡ Some name)

pub record IsStory (own far : Station) (name : Name) (s : Story) : Type 0 where
  pub named : is_inactive s.end.conn.state ≡ false → IsNamed own.host.address name s
  pub peer : HasPeer far name s s.peer s.asked
  -- its slot is one of at most 255, and it is no later than the present connection there
  pub place : name.place < 255
  pub turn : name.turn ≤ own.turn name.place

-- What a connection sent has its names; what carries an acknowledgement is for its peer, which it has; an RFC is its
-- item 0.
pub record IsSentBy (own : Station) (p : PacketView) (name : Name) : Type 0 where
  pub story : Story
  pub there : own.story name ≡ Some story
  pub src_index : p.src_index ≡ index_of name
  pub src : p.src ≡ own.host.address
  pub ack : carries_ack (kind_of p.op) ≡ true → (peer : Name) × (story.peer ≡ Some peer) × (p.dst_index ≡ index_of peer)
  pub rfc : is_rfc (kind_of p.op) ≡ true
      → (story.asked ≡ true) × (p.num ≡ num story.end.first 0) × (slice_get story.end.written 0 ≡ Some (item_of p))

-- and what a host itself sent tells nothing
abbrev pub IsSentOf : Station → PacketView → Option Name → Type 0
IsSentOf own p None = IsBare p
IsSentOf own p (Some name) = IsSentBy own p name

pub record IsStation (own far : Station) : Type 0 where
  pub host : IsHost own.host
  pub config : IsConfig own.host.config
  pub slots : (place : ℕ) (slot : Slot) → slice_get own.host.slots place ≡ Some slot → IsSlot own place slot
  pub stories : (name : Name) (s : Story) → own.story name ≡ Some s → IsStory own far name s
  pub sent : (k : ℕ) (q : Sent) → slice_get own.sent k ≡ Some q → IsSentOf own q.packet q.by

-- ---- all

-- each connection of this side that asked, and each name of the other
abbrev pub ArePairs : Side → Station → Station → Type 0
ArePairs x own far =
    (asker taker : Name) (r : Story) → own.story asker ≡ Some r → r.asked ≡ true
    → (l : LabView) × IsPlayed x asker taker r (far.story taker) own.sent far.sent far.host.config l

pub record IsSide (x : Side) (own far : Station) : Type 0 where
  pub station : IsStation own far
  pub pairs : ArePairs x own far

abbrev pub ArePlayed : Net → Type 0
ArePlayed n = (x : Side) → IsSide x (n x) (n (other x))
