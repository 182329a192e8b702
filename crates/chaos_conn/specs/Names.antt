-- What a connection's names are to it: the own address and index, and the peer's. Two connections that differ in these
-- alone do the same, but for the names on their packets; and a packet of other names changes nothing.
use Rattle.std.specs.Prelude.{◌≡◌, ℕ, Bool, true, false, ◌&&◌, if◌then◌else◌, List, [], map, Option, Some, None, unwrap_or, ⊤, ◌⊎◌, Err}
use Rattle.std.specs.List.{AllByRecursion}
use Rattle.chaos_packet.specs.Opcode.{kind_of, is_rfc}
use Rattle.chaos_packet.specs.Packet.{PacketView}
use Rattle.chaos_conn.specs.declared.state.End.{End}
use Rattle.chaos_conn.specs.declared.state.State.{State}
use Rattle.chaos_conn.specs.declared.state.State.TheVariants as st
use Rattle.chaos_conn.specs.declared.answers.Delivered.{Delivered}
use Rattle.chaos_conn.specs.declared.answers.Delivered.TheVariants as answer
use Rattle.chaos_conn.specs.State.{is_live, is_ended, awaits_peer}
use Rattle.chaos_conn.specs.View.{ConnView, heard_at}
use Rattle.chaos_conn.specs.Acted.{Acted, quietly}
use Rattle.chaos_conn.specs.Sending.{carries_ack, with_sts}
use Rattle.chaos_conn.specs.Arriving.{act_deliver, is_between_hosts, is_between_indices}
use Rattle.chaos_conn.specs.Calls.{front_of}
use Rattle.chaos_conn.specs.Act.{Call, Reply, act}
use Rattle.chaos_conn.specs.Act.Call.{Request, TakeRequest, Accept, Answer, Reject, Deliver, Write, Read, FinishRead, Announce, Close, Tick}
use Rattle.chaos_conn.specs.Act.Reply.{Did, Wrote}

-- ---- other names

-- an own end and a peer's
pub record Names : Type 0 where
  pub me : End
  pub peer : End

-- the peer's index is known where it was, and is this one
abbrev pub known_as : ℕ → Option ℕ → Option ℕ
known_as index None = None
known_as index (Some known) = Some index

-- the same connection under these names
abbrev pub renamed : Names → ConnView → ConnView
renamed n v = record v { me = n.me; peer = n.peer.address; peer_index = known_as n.peer.index v.peer_index }

-- the same packet from an end of these names to its peer, whose index is known or not; an RFC names no index
abbrev pub renamed_packet : Names → Option ℕ → PacketView → PacketView
renamed_packet n known p = record p {
  dst = n.peer.address;
  dst_index = if is_rfc (kind_of p.op) then 0 else unwrap_or (known_as n.peer.index known) 0;
  src = n.me.address;
  src_index = n.me.index;
}

-- the same packet to an end of these names from its peer
abbrev pub renamed_in : Names → PacketView → PacketView
renamed_in n p = record p { dst = n.me.address; dst_index = n.me.index; src = n.peer.address; src_index = n.peer.index }

module _ {A : Type 0} where
  -- the same of what a call makes
  abbrev pub renamed_acted : Names → Acted A → Acted A
  renamed_acted n acted =
      record { view = renamed n acted.view; packets = map (renamed_packet n acted.view.peer_index) acted.packets; answer = acted.answer }

-- the calls that are alike under any names: those of the user of a connection that goes on, and the tick
abbrev pub is_alike : Call → Bool
is_alike (Accept start now) = true
is_alike (Write op bytes now) = true
is_alike Read = true
is_alike FinishRead = true
is_alike (Announce window) = true
is_alike (Tick now) = true
is_alike _ = false

-- Such a call does the same under other names.
abbrev pub ActsAlike : Type 0
ActsAlike =
    (n : Names) (v : ConnView) (call : Call) → is_alike call ≡ true
    → act (renamed n v) call ≡ renamed_acted n (act v call)

-- the packet is for the own end, from the peer's
abbrev pub is_named : ConnView → PacketView → Bool
is_named v p = is_between_hosts v p && is_between_indices v p

-- A packet that carries an acknowledgement, under the connection's names, does the same under other names.
abbrev pub ComesAlike : Type 0
ComesAlike =
    (n : Names) (v : ConnView) (p : PacketView) (now : ℕ) → is_named v p ≡ true → carries_ack (kind_of p.op) ≡ true
    → act_deliver (renamed n v) (renamed_in n p) now ≡ renamed_acted n (act_deliver v p now)

-- ---- packets that make little of a connection

-- what such a packet makes: nothing; or the peer was heard; or it was, and is told the status; or the end is ended
pub data Quiet : Type 0 where
  Same Heard Tells : Quiet
  Ends : (state : State) → Quiet

abbrev pub quiet : Quiet → ConnView → ℕ → Acted (Unit {0})
quiet Same v now = quietly v tt
quiet Heard v now = quietly (heard_at v now) tt
quiet Tells v now = with_sts (heard_at v now) tt
quiet (Ends state) v now = quietly (record (heard_at v now) { state = state }) tt

-- an open end tells its status, and one that asked or is open is ended
abbrev pub MayBe : Quiet → ConnView → Type 0
MayBe Tells v = v.state ≡ st.Open
MayBe (Ends state) v = (is_ended state ≡ true) × (awaits_peer v.state ≡ true)
MayBe _ v = ⊤

abbrev pub is_opened : Delivered → Bool
is_opened answer.Opened = true
is_opened _ = false

-- a call's view and packets are these
pub record IsQuiet (v : ConnView) (now : ℕ) (acted : Acted Delivered) : Type 0 where
  pub kind : Quiet
  pub may : MayBe kind v
  pub view : acted.view ≡ (quiet kind v now).view
  pub packets : acted.packets ≡ (quiet kind v now).packets
  pub answer : is_opened acted.answer ≡ false

-- it isn't live, and has nothing to read
pub record IsOver (v : ConnView) : Type 0 where
  pub dead : is_live v.state ≡ false
  pub empty : front_of v ≡ None

-- it is over, and nothing was put out
pub record IsLost (acted : Acted Delivered) : Type 0 where
  pub over : IsOver acted.view
  pub packets : acted.packets ≡ []
  pub answer : is_opened acted.answer ≡ false

-- A packet without an acknowledgement, and one of other names, makes little of a connection: what it holds to read,
-- what it keeps, and its numbers stay, but where a request that waits is lost.
abbrev pub ForeignIsQuiet : Type 0
ForeignIsQuiet =
    (v : ConnView) (p : PacketView) (now : ℕ) → (carries_ack (kind_of p.op) ≡ false) ⊎ (is_named v p ≡ false)
    → IsQuiet v now (act_deliver v p now) ⊎ IsLost (act_deliver v p now)

-- ---- connections that are over

-- the calls that begin a connection
abbrev pub begins : Call → Bool
begins (Request me peer contact start now) = true
begins (TakeRequest rfc me now) = true
begins _ = false

-- a reply that hands no item out, and tells of no opening
abbrev pub is_refused : Reply → Bool
is_refused (Did (Err why)) = true
is_refused (Wrote (Err why)) = true
is_refused _ = false

-- A connection that is over stays so, whatever its user and the network do, and puts nothing out.
abbrev pub OverStays : Type 0
OverStays =
    (v : ConnView) (call : Call) → begins call ≡ false → IsOver v
    → IsOver (act v call).view × ((act v call).packets ≡ [])

-- A call that is refused changes nothing.
abbrev pub RefusedIsSame : Type 0
RefusedIsSame =
    (v : ConnView) (call : Call) → is_refused (act v call).answer ≡ true
    → ((act v call).view ≡ v) × ((act v call).packets ≡ [])

-- the calls by which a user ends a connection
abbrev pub ends : Call → Bool
ends (Answer bytes) = true
ends (Reject text) = true
ends (Close text) = true
ends _ = false

-- neither an acknowledgement nor an RFC
abbrev pub IsBare : PacketView → Type 0
IsBare p = (carries_ack (kind_of p.op) ≡ false) × (is_rfc (kind_of p.op) ≡ false)

-- Such a call leaves a connection that is over, or changes nothing, and puts out no more than a bare packet.
abbrev pub EndsAreOver : Type 0
EndsAreOver =
    (v : ConnView) (call : Call) → ends call ≡ true
    → (IsOver (act v call).view ⊎ ((act v call).view ≡ v)) × AllByRecursion IsBare (act v call).packets

-- ---- the names on packets

-- a packet put out by the connection that v shows carries its names
pub record IsFrom (v : ConnView) (known : Option ℕ) (p : PacketView) : Type 0 where
  pub src : p.src ≡ v.me.address
  pub src_index : p.src_index ≡ v.me.index
  pub dst : p.dst ≡ v.peer
  pub dst_index : carries_ack (kind_of p.op) ≡ true → p.dst_index ≡ unwrap_or known 0

-- Each packet that a connection puts out carries its names, with the peer's index as it is known then.
abbrev pub PutsItsNames : Type 0
PutsItsNames =
    (v : ConnView) (call : Call) → begins call ≡ false
    → AllByRecursion (IsFrom v (act v call).view.peer_index) (act v call).packets

-- No call changes a connection's configuration.
abbrev pub ConfigStays : Type 0
ConfigStays = (v : ConnView) (call : Call) → (act v call).view.config ≡ v.config

-- ---- names stay

-- both ends and what is known of the peer's index
abbrev pub KeepsNames : ConnView → ConnView → Type 0
KeepsNames v w = (w.me ≡ v.me) × (w.peer ≡ v.peer) × (w.peer_index ≡ v.peer_index)

abbrev pub is_delivery : Call → Bool
is_delivery (Deliver packet now) = true
is_delivery _ = false

-- A connection keeps its names, but where it begins or is closed, and where a packet comes.
abbrev pub NamesStay : Type 0
NamesStay =
    (v : ConnView) (call : Call) → begins call ≡ false → ends call ≡ false → is_delivery call ≡ false
    → KeepsNames v (act v call).view

-- an OPN opened it: it had asked, the packet is under its names, and the packet's source index is the peer's from then
-- on
pub record Opens (v : ConnView) (p : PacketView) (acted : Acted Delivered) : Type 0 where
  pub opened : is_opened acted.answer ≡ true
  pub asked : v.state ≡ st.RfcSent
  pub ack : carries_ack (kind_of p.op) ≡ true
  pub named : is_named v p ≡ true
  pub me : acted.view.me ≡ v.me
  pub peer : acted.view.peer ≡ v.peer
  pub peer_index : acted.view.peer_index ≡ Some p.src_index

-- it wasn't opened, and keeps its names; and where it had asked and the packet carries an acknowledgement, or where it
-- isn't live, nothing changes
pub record Stays (v : ConnView) (p : PacketView) (acted : Acted Delivered) : Type 0 where
  pub opened : is_opened acted.answer ≡ false
  pub names : KeepsNames v acted.view
  pub asked : v.state ≡ st.RfcSent → carries_ack (kind_of p.op) ≡ true → (acted.view ≡ v) × (acted.packets ≡ [])
  pub dead : is_live v.state ≡ false → (acted.view ≡ v) × (acted.packets ≡ [])

abbrev pub OpensOrStays : Type 0
OpensOrStays =
    (v : ConnView) (p : PacketView) (now : ℕ) → Opens v p (act_deliver v p now) ⊎ Stays v p (act_deliver v p now)
