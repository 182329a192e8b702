-- What the laws of two hosts take from the laboratory: each call of a connection of a host is played by an end of a
-- laboratory, whose connection is the same but for its names.
use Rattle.std.specs.Prelude.{◌≡◌, ℕ, ◌+◌, ◌<◌, ◌≤◌, true, false, List, [], ◌∷◌, length, Some, None, slice_get, ⊤}
use Rattle.std.specs.List.{AllByRecursion}
use Rattle.chaos_packet.specs.Begins.{Begins}
use Rattle.chaos_packet.specs.Number.{num}
use Rattle.chaos_packet.specs.Opcode.{kind_of, is_rfc}
use Rattle.chaos_packet.specs.Packet.{PacketView, item_of}
use Rattle.chaos_packet.specs.declared.limits.TheConstants.{MAX_DATA}
use Rattle.chaos_conn.specs.declared.state.State.TheVariants as st
use Rattle.chaos_conn.specs.Config.{ConfigView, IsConfig}
use Rattle.chaos_conn.specs.State.{is_inactive}
use Rattle.chaos_conn.specs.View.{ConnView}
use Rattle.chaos_conn.specs.Sending.{carries_ack}
use Rattle.chaos_conn.specs.Opening.{act_request, closed_conn, rfc_item}
use Rattle.chaos_conn.specs.Arriving.{act_deliver}
use Rattle.chaos_conn.specs.Act.{Call}
use Rattle.chaos_conn.specs.Act.Call.{TakeRequest, Accept, Deliver, Write, Read, Announce, Tick}
use Rattle.chaos_conn.specs.Held.{held_at}
use Rattle.chaos_conn.specs.Names.{Names, Quiet, MayBe, quiet}
use Rattle.chaos_lab.specs.declared.side.Side.{Side}
use Rattle.chaos_lab.specs.declared.side.Side.TheVariants.{A, B}
use Rattle.chaos_lab.specs.declared.stamped.Stamped.{Stamped}
use Rattle.chaos_lab.specs.Machine.{other}
use Rattle.chaos_lab.specs.Shown.{place_of, address_of}
use Rattle.chaos_lab.specs.Laboratory.{LabView, EndView, lab_end, with_lab_end, with_sent, call_at, is_fresh, start_for}
use Rattle.chaos_lab.specs.Headline.{IsCopyOf}
use Rattle.chaos_lab.specs.Tied.{HasMachine}

-- the names of both ends, from one side
abbrev pub names_of : Side → Names
names_of x = record { me = place_of x; peer = place_of (other x) }

-- ---- calls

-- a fresh copy of this packet, of the other side
pub record IsCopyTo (l : LabView) (x : Side) (p : PacketView) : Type 0 where
  pub number : ℕ
  pub copy : Stamped
  pub there : slice_get l.copies number ≡ Some copy
  pub side : copy.side ≡ other x
  pub packet : copy.packet ≡ p
  pub fresh : is_fresh l.a l.b copy ≡ true

-- A user's call; an acceptance at B; a tick; a copy of the other side; and the copy of an RFC at a B that took none.
abbrev pub CanPlay : LabView → Side → Call → Type 0
CanPlay l x (Write op bytes now) = ⊤
CanPlay l x Read = ⊤
CanPlay l x (Announce window) = ⊤
CanPlay l x (Tick now) = ⊤
CanPlay l x (Accept start now) = x ≡ B
CanPlay l x (Deliver p now) = (is_rfc (kind_of p.op) ≡ false) × IsCopyTo l x p
CanPlay l x (TakeRequest p me now) =
    (x ≡ B) × (me ≡ place_of B) × (is_rfc (kind_of p.op) ≡ true) × (l.asked ≡ false) × IsCopyTo l x p
CanPlay l x _ = ⊥

-- Such a call keeps the tie to the plain machine.
abbrev pub KeepsPlay : Type 0
KeepsPlay = (l : LabView) (x : Side) (call : Call) → HasMachine l → CanPlay l x call → HasMachine (call_at l x call).lab

-- an end's connection after a packet that makes little of it
abbrev pub quiet_at : LabView → Side → Quiet → ℕ → LabView
quiet_at l x kind now =
    let acted = quiet kind (lab_end l x).conn now in
    with_sent (with_lab_end l x (record (lab_end l x) { conn = acted.view })) x acted.packets

-- So does a packet that makes little of a connection.
abbrev pub KeepsQuiet : Type 0
KeepsQuiet =
    (l : LabView) (x : Side) (kind : Quiet) (now : ℕ) → HasMachine l → MayBe kind (lab_end l x).conn
    → HasMachine (quiet_at l x kind now)

-- ---- the beginning

-- a laboratory in which this connection asks for a contact, and B has a configuration
abbrev pub begun_lab : List ℕ → ConnView → ConfigView → ℕ → ℕ → LabView
begun_lab contact conn config_b start now =
    record (start_for contact conn.config config_b start) {
      a =
          record { conn = (act_request conn (place_of A) (address_of B) contact start now).view; first = start; written = rfc_item contact ∷ []; read = [] };
    }

-- A new or closed connection may ask.
abbrev pub MayBegin : Type 0
MayBegin =
    (contact : List ℕ) (conn : ConnView) (config_b : ConfigView) (start now : ℕ) → conn ≡ closed_conn conn
    → length contact ≤ MAX_DATA → start < 65536
    → IsConfig conn.config → IsConfig config_b → HasMachine (begun_lab contact conn config_b start now)

-- B's connection that took no request may be any new or closed one of its configuration.
abbrev pub MayReplace : Type 0
MayReplace =
    (l : LabView) (conn : ConnView) → HasMachine l → l.asked ≡ false → conn ≡ closed_conn conn
    → conn.config ≡ l.b.conn.config
    → HasMachine (record l { b = record l.b { conn = conn } })

-- ---- what is true of every laboratory

-- what was read begins what was written
abbrev pub ReadsBegin : Type 0
ReadsBegin = (l : LabView) (x : Side) → HasMachine l → Begins (lab_end l (other x)).read (lab_end l x).written

-- each RFC is A's item 0, and comes from A's place
pub record IsRequestOf (l : LabView) (s : Stamped) : Type 0 where
  pub side : s.side ≡ A
  pub number : s.packet.num ≡ num l.a.first 0
  pub item : slice_get l.a.written 0 ≡ Some (item_of s.packet)
  pub src : s.packet.src ≡ address_of A
  pub src_index : s.packet.src_index ≡ 1

abbrev pub RfcIsFirst : Type 0
RfcIsFirst =
    (l : LabView) (number : ℕ) (s : Stamped) → HasMachine l → slice_get l.copies number ≡ Some s
    → is_rfc (kind_of s.packet.op) ≡ true → IsRequestOf l s

-- while A waits, it has written its RFC alone, has read nothing, knows no index, and keeps nothing that carries an
-- acknowledgement
pub record Waits (e : EndView) : Type 0 where
  pub written : length e.written ≡ 1
  pub read : e.read ≡ []
  pub index : e.conn.peer_index ≡ None
  pub kept : AllByRecursion (λ item. carries_ack (kind_of item.op) ≡ false) e.conn.send.kept

abbrev pub AskingWaits : Type 0
AskingWaits = (l : LabView) → HasMachine l → l.a.conn.state ≡ st.RfcSent → Waits l.a

-- while B took no request, neither end has read anything, and A wrote its RFC alone
pub record IsUnasked (l : LabView) : Type 0 where
  pub wrote : length l.a.written ≡ 1
  pub written : l.b.written ≡ []
  pub read : l.b.read ≡ []

abbrev pub UnaskedIsNew : Type 0
UnaskedIsNew = (l : LabView) → HasMachine l → l.asked ≡ false → IsUnasked l

-- A is never asked, and B never asks; and where A knows no index, it has read nothing
abbrev pub KnowsSides : Type 0
KnowsSides = (l : LabView) → HasMachine l →
    (l.a.conn.state ≡ st.RfcReceived → ⊥) × (l.b.conn.state ≡ st.RfcSent → ⊥)
    × (is_inactive l.a.conn.state ≡ false → l.a.conn.peer_index ≡ None → l.a.read ≡ [])

-- each packet but an RFC names the index of the other place
abbrev pub OthersNameIndex : Type 0
OthersNameIndex =
    (l : LabView) (number : ℕ) (s : Stamped) → HasMachine l → slice_get l.copies number ≡ Some s
    → is_rfc (kind_of s.packet.op) ≡ false → s.packet.dst_index ≡ 1

-- an open end has read the other's item 0
abbrev pub OpenHasRead : Type 0
OpenHasRead =
    (l : LabView) (x : Side) → HasMachine l → (lab_end l x).conn.state ≡ st.Open → 1 ≤ length (lab_end l x).read

-- an A that has read nothing has written its RFC alone
abbrev pub UnreadIsAlone : Type 0
UnreadIsAlone = (l : LabView) → HasMachine l → l.a.read ≡ [] → length l.a.written ≡ 1

-- ---- an item that comes

-- A fresh copy of item i comes to an open end inside the window that it announces. Where so many items before it are
-- still to be read, the end holds it at that place then.
abbrev pub ComesHeld : Type 0
ComesHeld =
    (l : LabView) (x : Side) (p : PacketView) (now i place : ℕ) → HasMachine l → is_rfc (kind_of p.op) ≡ false
    → (c : IsCopyTo l x p) → IsCopyOf l c.copy i
    → (lab_end l x).conn.state ≡ st.Open → i < length (lab_end l x).read + (lab_end l x).conn.recv.window
    → length (lab_end l x).read + place ≡ i
    → held_at (act_deliver (lab_end l x).conn p now).view place ≡ Some (item_of p)
