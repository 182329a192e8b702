-- What contracts see of the laboratory, and what each event makes of it.
use Rattle.std.specs.Prelude.{◌≡◌, ℕ, ◌-◌, max, Bool, true, false, ◌&&◌, not, nat_lt, if◌then◌else◌, List, [], ◌∷◌, ◌++◌, length, map, take, codes, Option, Some, None, slice_get, Result, Ok, Err, ◌⊎◌}
use Rattle.std.specs.Option.{option_to_list}
use Rattle.chaos_packet.specs.Item.{ItemView}
use Rattle.chaos_packet.specs.Opcode.{kind_of, is_rfc}
use Rattle.chaos_packet.specs.Packet.{PacketView, item_of}
use Rattle.chaos_conn.specs.declared.fault.ConnFault.{ConnFault}
use Rattle.chaos_conn.specs.declared.answers.Delivered.{Delivered}
use Rattle.chaos_conn.specs.declared.answers.Delivered.TheVariants as came
use Rattle.chaos_conn.specs.declared.answers.ReadEnd.{ReadEnd}
use Rattle.chaos_conn.specs.declared.answers.ReadEnd.TheVariants as gave
use Rattle.chaos_conn.specs.View.{ConnView, new_conn}
use Rattle.chaos_conn.specs.Config.{ConfigView}
use Rattle.chaos_conn.specs.Acted.{Acted}
use Rattle.chaos_conn.specs.Opening.{Outcome, act_request, rfc_item}
use Rattle.chaos_conn.specs.Calls.{front_of}
use Rattle.chaos_conn.specs.Act.{Call, Reply, act}
use Rattle.chaos_conn.specs.Act.Call.{TakeRequest, Accept, Deliver, Write, Read, Announce, Close, Tick}
use Rattle.chaos_conn.specs.Act.Reply.{Did, Came, Wrote, Gave, Ticks}
use Rattle.chaos_lab.specs.declared.side.Side.{Side}
use Rattle.chaos_lab.specs.declared.side.Side.TheVariants.{A, B}
use Rattle.chaos_lab.specs.declared.stamped.Stamped.{Stamped}
use Rattle.chaos_lab.specs.declared.event.Stepped.{Stepped}
use Rattle.chaos_lab.specs.declared.event.Stepped.TheVariants as stepped
use Rattle.chaos_lab.specs.declared.fault.LabFault.{LabFault}
use Rattle.chaos_lab.specs.declared.fault.LabFault.TheVariants as fault
use Rattle.chaos_lab.specs.Machine.{other, fresh_span}
use Rattle.chaos_lab.specs.Shown.{place_of, address_of, is_a}

-- ---- An end

-- a connection, the number of its item 0, all that it wrote, and all that its user read
pub record EndView : Type 0 where
  pub conn : ConnView
  pub first : ℕ
  pub written : List ItemView
  pub read : List ItemView

-- why a call was refused, where it was
abbrev pub refusal_of : Reply → Option ConnFault
refusal_of (Did (Err why)) = Some why
refusal_of (Wrote (Err why)) = Some why
refusal_of _ = None

-- ---- What a call that was taken adds to both lists

-- a write adds its item, and an acceptance its OPN
abbrev pub with_written : Call → List PacketView → List ItemView → List ItemView
with_written (Write op bytes now) packets items = items ++ (record { op = op; body = bytes }) ∷ []
with_written (Accept start now) packets items = items ++ map item_of packets
with_written _ packets items = items

-- a read adds the item that it gave
abbrev pub with_given : ReadEnd → List ItemView → List ItemView
with_given (gave.Item item) items = items ++ item ∷ []
with_given _ items = items

-- an OPN that opens the end is read by that
abbrev pub with_opened : Delivered → PacketView → List ItemView → List ItemView
with_opened came.Opened packet items = items ++ item_of packet ∷ []
with_opened _ packet items = items

-- an acceptance reads the request that the end holds
abbrev pub with_read : ConnView → Call → Reply → List ItemView → List ItemView
with_read v Read (Gave given) items = with_given given items
with_read v (Deliver packet now) (Came delivered) items = with_opened delivered packet items
with_read v (Accept start now) _ items = items ++ option_to_list (front_of v)
with_read v _ _ items = items

-- an acceptance chooses the number of item 0
abbrev pub first_after : ℕ → Call → ℕ
first_after first (Accept start now) = start
first_after first _ = first

-- an end after a call that was taken: its connection is as the call leaves it
abbrev pub end_after : EndView → Call → EndView
end_after e call =
    let acted = act e.conn call in
    record {
      conn = acted.view;
      first = first_after e.first call;
      written = with_written call acted.packets e.written;
      read = with_read e.conn call acted.answer e.read;
    }

-- what a call that was taken answers
abbrev pub answer_of : Call → Reply → Stepped
answer_of call (Wrote (Ok number)) = stepped.Wrote number
answer_of call (Wrote (Err why)) = stepped.Closed
answer_of call (Gave given) = stepped.Read given
answer_of call (Ticks ticked) = stepped.Ticked ticked
answer_of call (Came delivered) = stepped.Delivered delivered
answer_of (Accept start now) (Did done) = stepped.Accepted start
answer_of (Announce window) (Did done) = stepped.Announced window
answer_of (TakeRequest rfc me now) (Did done) = stepped.Requested
answer_of call _ = stepped.Closed

-- ---- Both ends

-- Both ends, and every packet that was ever sent, the oldest first. Whether B took a request, and the greatest moment
-- that was ticked.
pub record LabView : Type 0 where
  pub a : EndView
  pub b : EndView
  pub copies : List Stamped
  pub asked : Bool
  pub clock : ℕ

-- the end at this side
abbrev pub lab_end : LabView → Side → EndView
lab_end l A = l.a
lab_end l B = l.b

-- the same laboratory, with another end at this side
abbrev pub with_lab_end : LabView → Side → EndView → LabView
with_lab_end l A e = record l { a = e }
with_lab_end l B e = record l { b = e }

-- a packet with its stamp
abbrev pub stamp : Side → ℕ → ℕ → PacketView → Stamped
stamp x len_a len_b packet = record { side = x; packet = packet; len_a = len_a; len_b = len_b }

-- packets that the end at x put out join the copies, stamped with what both ends have written now
abbrev pub with_sent : LabView → Side → List PacketView → LabView
with_sent l x packets =
    record l { copies = l.copies ++ map (stamp x (length l.a.written) (length l.b.written)) packets }

-- B took a request
abbrev pub asked_after : Bool → Call → Bool
asked_after asked (TakeRequest rfc me now) = true
asked_after asked _ = asked

abbrev pub clock_after : ℕ → Call → ℕ
clock_after clock (Tick moment) = max clock moment
clock_after clock _ = clock

-- the laboratory after a call at x that was taken: the other end stays as it is
abbrev pub after_call : LabView → Side → Call → LabView
after_call l x call =
    let m = with_lab_end l x (end_after (lab_end l x) call) in
    record (with_sent m x (act (lab_end l x).conn call).packets)
    { asked = asked_after l.asked call; clock = clock_after l.clock call }

-- the laboratory after an event, and the answer
pub record Done : Type 0 where
  pub lab : LabView
  pub answer : Result Stepped LabFault

-- an event that is refused changes nothing
abbrev pub refusal : LabView → LabFault → Done
refusal l why = record { lab = l; answer = Err why }

abbrev pub call_effect : LabView → Side → Call → Option ConnFault → Done
call_effect l x call (Some why) = refusal l (fault.Refused why)
call_effect l x call None =
    record { lab = after_call l x call; answer = Ok (answer_of call (act (lab_end l x).conn call).answer) }

-- a call at x, which is refused exactly where its connection refuses it
abbrev pub call_at : LabView → Side → Call → Done
call_at l x call = call_effect l x call (refusal_of (act (lab_end l x).conn call).answer)

-- ---- The start

-- the request for contact `LAB`
abbrev pub lab_contact : List ℕ
lab_contact = codes "LAB"

-- A asks B for a contact at moment 0
abbrev pub request_for : List ℕ → ConfigView → ℕ → Acted Outcome
request_for contact config start = act_request (new_conn config) (place_of A) (address_of B) contact start 0

-- A has requested a contact, and its RFC is copy 0; B is new
abbrev pub start_for : List ℕ → ConfigView → ConfigView → ℕ → LabView
start_for contact config_a config_b start = record {
  a =
      record { conn = (request_for contact config_a start).view; first = start; written = rfc_item contact ∷ []; read = [] };
  b = record { conn = new_conn config_b; first = 0; written = []; read = [] };
  copies = map (stamp A 1 0) (request_for contact config_a start).packets;
  asked = false;
  clock = 0;
}

-- so for contact `LAB`
abbrev pub lab_start : ConfigView → ConfigView → ℕ → LabView
lab_start config_a config_b start = start_for lab_contact config_a config_b start

-- ---- Events

-- what may happen: a user writes, reads, announces a window or closes, a clock ticks, B's user accepts, or a copy comes
pub data Happening : Type 0 where
  WriteBy : (side : Side) → (op : ℕ) → (bytes : List ℕ) → Happening
  ReadBy : (side : Side) → Happening
  AnnounceBy : (side : Side) → (window : ℕ) → Happening
  TickOf : (side : Side) → (now : ℕ) → Happening
  CloseBy : (side : Side) → (text : List ℕ) → Happening
  AcceptFrom : (start : ℕ) → Happening
  DeliverCopy : (copy : ℕ) → Happening

-- each end has written fewer than 32,640 items since the copy was sent
abbrev pub is_fresh : EndView → EndView → Stamped → Bool
is_fresh a b s = nat_lt (length a.written - s.len_a) fresh_span && nat_lt (length b.written - s.len_b) fresh_span

-- an RFC of A comes to B, which took none before
abbrev pub is_request : Bool → Stamped → Bool
is_request asked s = is_a s.side && (not asked && is_rfc (kind_of s.packet.op))

-- the call by which a copy is delivered
abbrev pub delivery : Bool → ℕ → Stamped → Call
delivery asked now s = if is_request asked s then TakeRequest s.packet (place_of B) now else Deliver s.packet now

abbrev pub delivery_effect : LabView → Option Stamped → Done
delivery_effect l None = refusal l fault.NoSuchCopy
delivery_effect l (Some s) =
    if is_fresh l.a l.b s then call_at l (other s.side) (delivery l.asked l.clock s) else refusal l fault.Stale

-- What an event does. A call without a moment of its own gets the greatest one ticked.
abbrev pub happen : LabView → Happening → Done
happen l (WriteBy x op bytes) = call_at l x (Write op bytes l.clock)
happen l (ReadBy x) = call_at l x Read
happen l (AnnounceBy x window) = call_at l x (Announce window)
happen l (TickOf x now) = call_at l x (Tick now)
happen l (CloseBy x text) = call_at l x (Close text)
happen l (AcceptFrom start) = call_at l B (Accept start l.clock)
happen l (DeliverCopy k) = delivery_effect l (slice_get l.copies k)

-- why a copy can't be delivered, where it can't
abbrev pub copy_fault : LabView → Option Stamped → Option LabFault
copy_fault l None = Some fault.NoSuchCopy
copy_fault l (Some s) = if is_fresh l.a l.b s then None else Some fault.Stale

-- the checks that come before all else
abbrev pub check : LabView → Happening → Option LabFault
check l (DeliverCopy k) = copy_fault l (slice_get l.copies k)
check l _ = None

-- The call did what it does. Or there was no memory, and nothing changed.
abbrev pub Calls : LabView → Side → Call → LabView → Result Stepped LabFault → Type 0
Calls old x call new answer =
    ((new ≡ (call_at old x call).lab) × (answer ≡ (call_at old x call).answer))
    ⊎ ((new ≡ old) × (answer ≡ Err fault.NoMemory))

-- An event did what it does. Or it passed the checks, there was no memory, and nothing changed.
abbrev pub Happens : LabView → Happening → LabView → Result Stepped LabFault → Type 0
Happens old event new answer =
    ((new ≡ (happen old event).lab) × (answer ≡ (happen old event).answer))
    ⊎ ((check old event ≡ None) × (new ≡ old) × (answer ≡ Err fault.NoMemory))

-- the laboratory after events, one after the other
abbrev pub after_all : LabView → List Happening → LabView
after_all l [] = l
after_all l (event ∷ events) = after_all (happen l event).lab events

-- The laboratory after the first events of these, at whose next one there was no memory. That one had passed the
-- checks.
abbrev pub StopsWithin : LabView → List Happening → LabView → Type 0
StopsWithin old events new =
    (done : ℕ) × (event : Happening) × (slice_get events done ≡ Some event) × (check new event ≡ None)
    × (new ≡ after_all old (take done events))
