-- What is no call of B's server leaves the bodies of each connection of B.
use Rattle.std.proofs.Common.{◌≡◌, ℕ, Bool, true, false, not, ◌==◌, if◌then◌else◌, List, [], ◌++◌, map, Option, Some, None, refl, sym, ap, ◌∙◌, ⊎_elim}
use Rattle.std.specs.Prelude.{slice_get, ⊤}
use Rattle.std.specs.Option.{option_to_list}
use Rattle.std.proofs.lemmas.Bool.{false≢true, cond_both, cases_Bool}
use Rattle.chaos_packet.specs.Item.{ItemView}
use Rattle.chaos_packet.specs.Opcode.{kind_of, is_rfc}
use Rattle.chaos_packet.specs.Packet.{PacketView, item_of}
use Rattle.chaos_packet.specs.declared.opcode.Kind.{Kind}
use Rattle.chaos_packet.specs.declared.opcode.Kind.TheVariants as kind
use Rattle.chaos_window.specs.declared.arrival.Arrived.{Arrived}
use Rattle.chaos_window.specs.declared.arrival.Arrived.TheVariants as arr
use Rattle.chaos_window.specs.Receive.{arrival_of}
use Rattle.chaos_conn.specs.declared.answers.Delivered.{Delivered}
use Rattle.chaos_conn.specs.declared.answers.Delivered.TheVariants as came
use Rattle.chaos_conn.specs.declared.fault.ConnFault.TheVariants as fault
use Rattle.chaos_conn.specs.declared.state.State.{State}
use Rattle.chaos_conn.specs.declared.state.State.TheVariants as st
use Rattle.chaos_conn.specs.State.{is_live, is_requested, is_ended}
use Rattle.chaos_conn.specs.View.{ConnView, moment, heard_at}
use Rattle.chaos_conn.specs.Acted.{Acted}
use Rattle.chaos_conn.specs.Calls.{front_of}
use Rattle.chaos_conn.specs.Opening.{Outcome, refusal, with_opn, after_accepting, act_accept}
use Rattle.chaos_conn.specs.Arriving.{act_deliver, deliver_in, deliver_asking, deliver_requested, deliver_open, after_rfc, repeated_request, after_arrived, after_sts_telling, heard_with_ack, is_between_hosts, is_between_indices, is_index}
use Rattle.chaos_packet.specs.Packet.{status_of}
use Rattle.chaos_conn.specs.Act.{Call, act}
use Rattle.chaos_conn.specs.Act.Call.{Request, TakeRequest, Accept, Answer, Reject, Deliver, Write, Unc, Read, FinishRead, Announce, Close, Tick}
use Rattle.chaos_conn.specs.Act.Reply.{Did}
use Rattle.chaos_conn.specs.Names.{is_opened, is_refused, ends}
use Rattle.chaos_host.specs.declared.slot.Slot.{Slot}
use Rattle.chaos_host.specs.declared.route.Route.{Route}
use Rattle.chaos_host.specs.declared.route.Route.TheVariants as to
use Rattle.chaos_host.specs.Slot.{is_free, is_used, named_slot, free_place, is_request, HoldsRequestAlone}
use Rattle.chaos_host.specs.View.{HostView}
use Rattle.chaos_host.specs.Route.{route}
use Rattle.chaos_host.specs.Deeds.{HostEvent, Deed, deed_of, deed_by, by_used, by_free, by_named, by_ended, by_asking, by_lowest}
use Rattle.chaos_host.specs.Deeds.HostEvent.{Comes, Calls, Ends, Releases, Connects, Listens, Ticks}
use Rattle.chaos_host.specs.Deeds.Deed.{Nothing, Does}
use Rattle.chaos_host.proofs.Table.{at_place}
use Rattle.chaos_packet.specs.declared.limits.TheConstants.{MAX_DATA}
use Rattle.std.specs.Prelude.{nat_lt, length}
use Rattle.chaos_lab.specs.declared.side.Side.{Side}
use Rattle.chaos_lab.specs.declared.side.Side.TheVariants.{A, B}
use Rattle.chaos_lab.specs.Machine.{other}
use Rattle.chaos_lab.specs.Laboratory.{with_opened}
use Rattle.chaos_net.specs.Net.{Name, Story, Sent, Station, Net, NetEvent, CanHappen, present, goes_on, story_after, after_slot, after_deed, after_event, arrives, happens}
use Rattle.chaos_net.specs.Net.NetEvent.{At, Arrives}
use Rattle.chaos_net.specs.Played.{IsStation, ArePlayed}
use Rattle.chaos_net.specs.Present.{read_of, written_of}
use Rattle.chaos_net.proofs.Lists.{some_eq}
use Rattle.chaos_net.proofs.Holding.{name_eq}
use Rattle.chaos_net.proofs.Next.{look_own, look_other}
use Rattle.file_lab.specs.Bodies.{data_bodies}
use Rattle.file_net.specs.FileNet.{is_item_call, is_by_server}
use Rattle.file_net.proofs.Lists.{no_body, of_kind, rfc_kind}

-- the same bodies
pub record SameBodies (o p : Option Story) : Type 0 where
  pub read : data_bodies (read_of p) ≡ data_bodies (read_of o)
  pub written : data_bodies (written_of p) ≡ data_bodies (written_of o)

pub same_bodies : (o : Option Story) → SameBodies o o
same_bodies o = record { read = refl; written = refl }

-- ---- a packet that comes: an OPN alone opens an end

abbrev OpenedByOpn : PacketView → Acted Delivered → Type 0
OpenedByOpn p acted = is_opened acted.answer ≡ true → kind_of p.op ≡ kind.Opn

either : (p : PacketView) (b : Bool) (x y : Acted Delivered) → OpenedByOpn p x → OpenedByOpn p y
    → OpenedByOpn p (if b then x else y)
either p true x y h k = h
either p false x y h k = k

shut : {X : Type 0} → false ≡ true → X
shut h = absurd (false≢true h)

repeated : (v : ConnView) (p : PacketView) (state : State) → OpenedByOpn p (repeated_request v state)
repeated v p st.Open = shut
repeated v p st.Inactive = shut
repeated v p st.RfcSent = shut
repeated v p st.RfcReceived = shut
repeated v p st.Answered = shut
repeated v p st.ClsReceived = shut
repeated v p st.LosReceived = shut
repeated v p st.HostDown = shut
repeated v p st.Forwarded = shut

rfc_comes : (v : ConnView) (p : PacketView) (now : ℕ) → OpenedByOpn p (after_rfc v p now)
rfc_comes v p now =
    either p v.asked _ _ shut
    (either p (not (is_index v.peer_index p.src_index)) _ _ shut
    (either p (not (p.num == v.request)) _ _ shut (repeated (heard_at v now) p v.state)))

arrived : (v : ConnView) (p : PacketView) (a : Arrived) (number : ℕ) (item : ItemView)
    → OpenedByOpn p (after_arrived v a number item)
arrived v p arr.Took number item = shut
arrived v p arr.Duplicate number item = shut
arrived v p arr.Outside number item = shut

sts_comes : (v : ConnView) (p : PacketView) (now : ℕ) (told : Option (ℕ × ℕ))
    → OpenedByOpn p (after_sts_telling v p now told)
sts_comes v p now None = shut
sts_comes v p now (Some told) = shut

asking_comes : (v : ConnView) (p : PacketView) (now : ℕ) (k : Kind) → kind_of p.op ≡ k
    → OpenedByOpn p (deliver_asking v p now k)
asking_comes v p now kind.Opn is = λ _. is
asking_comes v p now kind.Ans is = shut
asking_comes v p now kind.Fwd is = shut
asking_comes v p now kind.Cls is = shut
asking_comes v p now kind.Los is = shut
asking_comes v p now kind.Data is = shut
asking_comes v p now kind.Rfc is = shut
asking_comes v p now kind.Sns is = shut
asking_comes v p now kind.Sts is = shut
asking_comes v p now kind.Lsn is = shut
asking_comes v p now kind.Eof is = shut
asking_comes v p now kind.Unc is = shut
asking_comes v p now kind.Other is = shut

requested_comes : (v : ConnView) (p : PacketView) (now : ℕ) (k : Kind) → OpenedByOpn p (deliver_requested v p now k)
requested_comes v p now kind.Opn = shut
requested_comes v p now kind.Ans = shut
requested_comes v p now kind.Fwd = shut
requested_comes v p now kind.Cls = shut
requested_comes v p now kind.Los = shut
requested_comes v p now kind.Data = shut
requested_comes v p now kind.Rfc = shut
requested_comes v p now kind.Sns = shut
requested_comes v p now kind.Sts = shut
requested_comes v p now kind.Lsn = shut
requested_comes v p now kind.Eof = shut
requested_comes v p now kind.Unc = shut
requested_comes v p now kind.Other = shut

open_comes : (v : ConnView) (p : PacketView) (now : ℕ) (k : Kind) → kind_of p.op ≡ k
    → OpenedByOpn p (deliver_open v p now k)
open_comes v p now kind.Data is =
    arrived (heard_with_ack v p now) p (arrival_of (heard_with_ack v p now).recv p.num) p.num (item_of p)
open_comes v p now kind.Eof is =
    arrived (heard_with_ack v p now) p (arrival_of (heard_with_ack v p now).recv p.num) p.num
    (record { op = p.op; body = [] })
open_comes v p now kind.Opn is = λ _. is
open_comes v p now kind.Sns is = shut
open_comes v p now kind.Sts is = sts_comes v p now (status_of p)
open_comes v p now kind.Unc is = shut
open_comes v p now kind.Cls is = shut
open_comes v p now kind.Los is = shut
open_comes v p now kind.Rfc is = shut
open_comes v p now kind.Ans is = shut
open_comes v p now kind.Fwd is = shut
open_comes v p now kind.Lsn is = shut
open_comes v p now kind.Other is = shut

live_comes : (v : ConnView) (p : PacketView) (now : ℕ) (state : State) → OpenedByOpn p (deliver_in state v p now)
live_comes v p now st.RfcSent = asking_comes v p now (kind_of p.op) refl
live_comes v p now st.RfcReceived = requested_comes v p now (kind_of p.op)
live_comes v p now st.Open = open_comes v p now (kind_of p.op) refl
live_comes v p now st.Inactive = shut
live_comes v p now st.Answered = shut
live_comes v p now st.ClsReceived = shut
live_comes v p now st.LosReceived = shut
live_comes v p now st.HostDown = shut
live_comes v p now st.Forwarded = shut

comes : (v : ConnView) (p : PacketView) (now : ℕ) → OpenedByOpn p (act_deliver v p now)
comes v p now =
    either p (not (is_live v.state)) _ _ shut
    (either p (not (is_between_hosts v p)) _ _ shut
    (either p (is_rfc (kind_of p.op)) _ _ (rfc_comes v p now)
    (either p (not (is_between_indices v p)) _ _ shut (live_comes v p now v.state))))

-- so what it adds has no body
opened_bodies : (p : PacketView) (delivered : Delivered) (items : List ItemView)
    → (is_opened delivered ≡ true → kind_of p.op ≡ kind.Opn)
    → data_bodies (with_opened delivered p items) ≡ data_bodies items
opened_bodies p came.Opened items h = of_kind items (item_of p) kind.Opn (h refl) (λ body. refl)
opened_bodies p delivered items h = refl

-- ---- an acceptance reads an RFC, and writes an OPN

request_bodies : (front : Option ItemView) (items : List ItemView) → is_request front ≡ true
    → data_bodies (items ++ option_to_list front) ≡ data_bodies items
request_bodies None items h = shut h
request_bodies (Some item) items h = no_body items item (rfc_kind (kind_of item.op) h)

abbrev AcceptsBodies : ConnView → List ItemView → List ItemView → Acted Outcome → Type 0
AcceptsBodies v written read acted =
    (data_bodies (if is_refused (Did acted.answer) then written else (written ++ map item_of acted.packets))
    ≡ data_bodies written)
    × (data_bodies (if is_refused (Did acted.answer) then read else (read ++ option_to_list (front_of v)))
    ≡ data_bodies read)

accepts : (v : ConnView) (start now : ℕ) (written read : List ItemView)
    → (is_requested v.state ≡ true → is_request (front_of v) ≡ true)
    → AcceptsBodies v written read (act_accept v start now)
accepts v start now written read front =
    cond_both (is_requested v.state) (with_opn (after_accepting v start (moment v now))) (refusal v fault.WrongState)
    (AcceptsBodies v written read)
    (λ is. (no_body written _ (λ body. refl), request_bodies (front_of v) read (front is)))
    (λ _. (refl, refl))

-- ---- a call that is none of the server's

either_same : (b : Bool) (items : List ItemView) → data_bodies (if b then items else items) ≡ data_bodies items
either_same true items = refl
either_same false items = refl

same_lists : (s : Story) (call : Call) (from : Option Name)
    → (b : Bool) → (goes_on s call from).end.read ≡ (if b then s.end.read else s.end.read)
    → (goes_on s call from).end.written ≡ (if b then s.end.written else s.end.written)
    → SameBodies (Some s) (Some (goes_on s call from))
same_lists s call from b read written = record {
  read = ap data_bodies read ∙ either_same b s.end.read;
  written = ap data_bodies written ∙ either_same b s.end.written;
}

goes_bodies : (s : Story) (call : Call) (from : Option Name) → is_item_call call ≡ false
    → (is_requested s.end.conn.state ≡ true → is_request (front_of s.end.conn) ≡ true)
    → SameBodies (Some s) (Some (goes_on s call from))
goes_bodies s (Accept start now) from h front =
    let a = accepts s.end.conn start now s.end.written s.end.read front in record { read = a.1; written = a.0 }
goes_bodies s (Deliver p now) from h front = record {
  read = opened_bodies p (act_deliver s.end.conn p now).answer s.end.read (comes s.end.conn p now);
  written = refl;
}
goes_bodies s (Write op bytes now) from h front = shut (sym h)
goes_bodies s Read from h front = shut (sym h)
goes_bodies s FinishRead from h front = shut (sym h)
goes_bodies s (Request me peer contact start now) from h front =
    same_lists s (Request me peer contact start now) from
    (is_refused (act s.end.conn (Request me peer contact start now)).answer) refl refl
goes_bodies s (TakeRequest rfc me now) from h front =
    same_lists s (TakeRequest rfc me now) from (is_refused (act s.end.conn (TakeRequest rfc me now)).answer) refl refl
goes_bodies s (Answer bytes) from h front =
    same_lists s (Answer bytes) from (is_refused (act s.end.conn (Answer bytes)).answer) refl refl
goes_bodies s (Reject text) from h front =
    same_lists s (Reject text) from (is_refused (act s.end.conn (Reject text)).answer) refl refl
goes_bodies s (Unc bytes) from h front =
    same_lists s (Unc bytes) from (is_refused (act s.end.conn (Unc bytes)).answer) refl refl
goes_bodies s (Announce window) from h front =
    same_lists s (Announce window) from (is_refused (act s.end.conn (Announce window)).answer) refl refl
goes_bodies s (Close text) from h front =
    same_lists s (Close text) from (is_refused (act s.end.conn (Close text)).answer) refl refl
goes_bodies s (Tick now) from h front = record { read = refl; written = refl }

story_bodies : (o : Option Story) (conn : ConnView) (call : Call) (from : Option Name) → is_item_call call ≡ false
    → ((s : Story) → o ≡ Some s → is_requested s.end.conn.state ≡ true → is_request (front_of s.end.conn) ≡ true)
    → SameBodies o (story_after o conn call from)
story_bodies (Some s) conn call from h front = goes_bodies s call from h (front s refl)
story_bodies None conn (Request me peer contact start now) from h front = record { read = refl; written = refl }
story_bodies None conn (TakeRequest rfc me now) from h front = record { read = refl; written = refl }
story_bodies None conn (Accept start now) from h front = same_bodies None
story_bodies None conn (Answer bytes) from h front = same_bodies None
story_bodies None conn (Reject text) from h front = same_bodies None
story_bodies None conn (Deliver p now) from h front = same_bodies None
story_bodies None conn (Write op bytes now) from h front = same_bodies None
story_bodies None conn (Unc bytes) from h front = same_bodies None
story_bodies None conn Read from h front = same_bodies None
story_bodies None conn FinishRead from h front = same_bodies None
story_bodies None conn (Announce window) from h front = same_bodies None
story_bodies None conn (Close text) from h front = same_bodies None
story_bodies None conn (Tick now) from h front = same_bodies None

-- ---- a deed of a host

requested_is : (state : State) → is_requested state ≡ true → state ≡ st.RfcReceived
requested_is st.RfcReceived h = refl
requested_is st.Inactive h = shut h
requested_is st.RfcSent h = shut h
requested_is st.Open h = shut h
requested_is st.Answered h = shut h
requested_is st.ClsReceived h = shut h
requested_is st.LosReceived h = shut h
requested_is st.HostDown h = shut h
requested_is st.Forwarded h = shut h

abbrev pub IsQuiet : Deed → Type 0
IsQuiet Nothing = ⊤
IsQuiet (Does place call) = is_item_call call ≡ false

module _ (own far : Station) (h : IsStation own far) where
  -- a connection that was asked holds the request in front
  front_request : (place : ℕ) (slot : Slot) → slice_get own.host.slots place ≡ Some slot
      → (s : Story) → own.story (present own place) ≡ Some s → is_requested s.end.conn.state ≡ true
      → is_request (front_of s.end.conn) ≡ true
  front_request place slot there s story asked =
      let at = h.slots place slot there in
      ⊎_elim
      (λ (free : is_free slot ≡ true). let isnt : None ≡ Some s = sym (at.free free) ∙ story in absurd (cc))
      (λ (used : is_free slot ≡ false).
      let u = at.used used in
      let same : u.0 ≡ s = some_eq (sym u.1 ∙ story) in
      let conn : s.end.conn ≡ slot.conn = ap (λ z. z.end.conn) (sym same) ∙ u.2 in
      let holds = at_place (λ z. HoldsRequestAlone z.conn) own.host.slots place slot h.host.table.pending there
      (requested_is slot.conn.state (ap (λ v. is_requested v.state) (sym conn) ∙ asked)) in
      ap (λ v. is_request (front_of v)) conn ∙ holds.front)
      (cases_Bool (is_free slot))

  slot_bodies : (place : ℕ) (call : Call) (from : Option Name) (o : Option Slot) → slice_get own.host.slots place ≡ o
      → is_item_call call ≡ false → (c : Name) → SameBodies (own.story c) ((after_slot own place call from o).story c)
  slot_bodies place call from None there quiet c = same_bodies (own.story c)
  slot_bodies place call from (Some slot) there quiet c =
      let d : Name = present own place in
      let o : Option Story = story_after (own.story d) slot.conn call from in
      ⊎_elim
      (λ (same : c ≡ d).
      let new : (after_slot own place call from (Some slot)).story c ≡ o =
      ap (after_slot own place call from (Some slot)).story same ∙ look_own own.story d o in
      let b = story_bodies (own.story d) slot.conn call from quiet
      (λ s is. front_request place slot there s is) in
      record {
        read = ap (λ z. data_bodies (read_of z)) new ∙ b.read ∙ ap (λ z. data_bodies (read_of (own.story z))) (sym same);
        written =
            ap (λ z. data_bodies (written_of z)) new ∙ b.written
            ∙ ap (λ z. data_bodies (written_of (own.story z))) (sym same);
      })
      (λ (apart : c ≡ d → ⊥).
      let new : (after_slot own place call from (Some slot)).story c ≡ own.story c = look_other own.story d o c apart in
      record { read = ap (λ z. data_bodies (read_of z)) new; written = ap (λ z. data_bodies (written_of z)) new })
      (name_eq c d)

  pub deed_bodies : (d : Deed) (from : Option Name) → IsQuiet d → (c : Name)
      → SameBodies (own.story c) ((after_deed own d from).story c)
  deed_bodies Nothing from quiet c = same_bodies (own.story c)
  deed_bodies (Does place call) from quiet c =
      slot_bodies place call from (slice_get own.host.slots place) refl quiet c

-- ---- the deeds of events

abbrev pub IsQuietEvent : HostEvent → Type 0
IsQuietEvent (Calls id call) = is_item_call call ≡ false
IsQuietEvent (Ends id call) = ends call ≡ true
IsQuietEvent _ = ⊤

if_quiet : (b : Bool) (c d : Deed) → IsQuiet c → IsQuiet d → IsQuiet (if b then c else d)
if_quiet true c d p q = p
if_quiet false c d p q = q

ends_quiet : (call : Call) → ends call ≡ true → is_item_call call ≡ false
ends_quiet (Answer bytes) h = refl
ends_quiet (Reject text) h = refl
ends_quiet (Close text) h = refl
ends_quiet (Request me peer contact start now) h = refl
ends_quiet (TakeRequest rfc me now) h = refl
ends_quiet (Accept start now) h = refl
ends_quiet (Deliver p now) h = refl
ends_quiet (Write op bytes now) h = shut h
ends_quiet (Unc bytes) h = refl
ends_quiet Read h = shut h
ends_quiet FinishRead h = shut h
ends_quiet (Announce window) h = refl
ends_quiet (Tick now) h = refl

used_quiet : (place : ℕ) (call : Call) (o : Option Slot) → is_item_call call ≡ false → IsQuiet (by_used place call o)
used_quiet place call None h = tt
used_quiet place call (Some slot) h = if_quiet (is_used slot) (Does place call) Nothing h tt

free_quiet : (v : HostView) (p : PacketView) (now place : ℕ) (o : Option Slot) → IsQuiet (by_free v p now place o)
free_quiet v p now place None = tt
free_quiet v p now place (Some slot) = refl

route_quiet : (v : HostView) (p : PacketView) (now : ℕ) (r : Route) → IsQuiet (deed_by v p now r)
route_quiet v p now (to.Slot place) = used_quiet place (Deliver p now) (slice_get v.slots place) refl
route_quiet v p now (to.Request place) = free_quiet v p now place (slice_get v.slots place)
route_quiet v p now to.NotOurs = tt
route_quiet v p now to.NoSource = tt
route_quiet v p now to.NoServer = tt
route_quiet v p now to.TableFull = tt
route_quiet v p now to.SendLos = tt
route_quiet v p now to.DropSilently = tt

named_quiet : (id : ℕ) (call : Call) (o : Option Slot) → is_item_call call ≡ false → IsQuiet (by_named id call o)
named_quiet id call None h = tt
named_quiet id call (Some slot) h = h

ended_quiet : (id : ℕ) (o : Option Slot) → IsQuiet (by_ended id o)
ended_quiet id None = tt
ended_quiet id (Some slot) = if_quiet (is_ended slot.conn.state) (Does _ (Close [])) Nothing refl tt

asking_quiet : (v : HostView) (place peer : ℕ) (contact : List ℕ) (start now : ℕ) (o : Option Slot)
    → IsQuiet (by_asking v place peer contact start now o)
asking_quiet v place peer contact start now None = tt
asking_quiet v place peer contact start now (Some slot) = refl

lowest_quiet : (v : HostView) (peer : ℕ) (contact : List ℕ) (start now : ℕ) (o : Option ℕ)
    → IsQuiet (by_lowest v peer contact start now o)
lowest_quiet v peer contact start now None = tt
lowest_quiet v peer contact start now (Some place) =
    if_quiet (nat_lt MAX_DATA (length contact)) _ _ tt
    (if_quiet (peer == 0) _ _ tt (asking_quiet v place peer contact start now (slice_get v.slots place)))

pub quiet_deed : (v : HostView) (event : HostEvent) → IsQuietEvent event → IsQuiet (deed_of v event)
quiet_deed v (Comes p now) h = route_quiet v p now (route v p)
quiet_deed v (Calls id call) h = named_quiet id call (named_slot v.slots id) h
quiet_deed v (Ends id call) h = named_quiet id call (named_slot v.slots id) (ends_quiet call h)
quiet_deed v (Releases id) h = ended_quiet id (named_slot v.slots id)
quiet_deed v (Connects peer contact start now) h = lowest_quiet v peer contact start now (free_place v.slots)
quiet_deed v (Listens contact) h = tt
quiet_deed v (Ticks place now) h = used_quiet place (Tick now) (slice_get v.slots place) refl

-- ---- the net

event_bodies : (n : Net) (event : HostEvent) (from : Option Name) → ArePlayed n → IsQuietEvent event → (c : Name)
    → SameBodies ((n B).story c) ((after_event n B event from B).story c)
event_bodies n event from h quiet c =
    deed_bodies (n B) (n A) (h B).station (deed_of (n B).host event) from (quiet_deed (n B).host event quiet) c

comes_bodies : (n : Net) (x : Side) (now : ℕ) (o : Option Sent) → ArePlayed n → (c : Name)
    → SameBodies ((n B).story c) ((arrives n x now o B).story c)
comes_bodies n x now None h c = same_bodies ((n B).story c)
comes_bodies n A now (Some q) h c = same_bodies ((n B).story c)
comes_bodies n B now (Some q) h c = event_bodies n (Comes q.packet now) q.by h tt c

pub net_bodies : (n : Net) (event : NetEvent) → ArePlayed n → CanHappen n event → is_by_server event ≡ false
    → (c : Name) → SameBodies ((n B).story c) ((happens n event B).story c)
net_bodies n (At A event) h can not_server c = same_bodies ((n B).story c)
net_bodies n (At B (Comes p now)) h can not_server c = absurd can
net_bodies n (At B (Calls id call)) h can not_server c = event_bodies n (Calls id call) None h not_server c
net_bodies n (At B (Ends id call)) h can not_server c = event_bodies n (Ends id call) None h can c
net_bodies n (At B (Releases id)) h can not_server c = event_bodies n (Releases id) None h tt c
net_bodies n (At B (Connects peer contact start now)) h can not_server c =
    event_bodies n (Connects peer contact start now) None h tt c
net_bodies n (At B (Listens contact)) h can not_server c = event_bodies n (Listens contact) None h tt c
net_bodies n (At B (Ticks place now)) h can not_server c = event_bodies n (Ticks place now) None h tt c
net_bodies n (Arrives x number now) h can not_server c =
    comes_bodies n x now (slice_get (n (other x)).sent number) h c
