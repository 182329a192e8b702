-- Short runs: before event k no slot had more than k connections, and no story has more than k items; so up to 256 all
-- is fresh.
use Rattle.std.proofs.Common.{◌≡◌, ℕ, suc, ◌+◌, ◌<◌, ◌≤◌, ◌==◌, List, [], ◌∷◌, ◌++◌, length, map, Bool, true, false, if◌then◌else◌, Option, Some, None, refl, sym, ap, subst, arith}
use Rattle.std.specs.Prelude.{slice_get}
use Rattle.std.specs.List.{AllByRecursion}
use Rattle.chaos_packet.specs.Item.{ItemView}
use Rattle.chaos_packet.specs.Packet.{item_of}
use Rattle.chaos_conn.specs.State.{is_requested}
use Rattle.chaos_conn.specs.View.{ConnView, moment}
use Rattle.chaos_conn.specs.Acted.{Acted}
use Rattle.chaos_conn.specs.Opening.{Outcome, after_accepting, opn_item, with_opn, refusal}
use Rattle.chaos_conn.specs.declared.fault.ConnFault.TheVariants.{WrongState}
use Rattle.chaos_conn.specs.Act.{Call, act}
use Rattle.chaos_conn.specs.Act.Call.{Request, TakeRequest, Accept, Answer, Reject, Deliver, Write, Unc, Read, FinishRead, Announce, Close, Tick}
use Rattle.chaos_conn.specs.Names.{is_refused}
use Rattle.chaos_host.specs.declared.slot.Slot.{Slot}
use Rattle.chaos_host.specs.Slot.{is_free}
use Rattle.chaos_host.specs.Acted.{slot_after_call}
use Rattle.chaos_host.specs.Deeds.{HostEvent, Deed, deed_of}
use Rattle.chaos_host.specs.Deeds.HostEvent.{Comes}
use Rattle.chaos_host.specs.Deeds.Deed.{Nothing, Does}
use Rattle.chaos_lab.specs.declared.side.Side.{Side}
use Rattle.chaos_lab.specs.declared.side.Side.TheVariants.{A, B}
use Rattle.chaos_lab.specs.Machine.{other}
use Rattle.chaos_lab.specs.Laboratory.{with_written}
use Rattle.chaos_lab.proofs.Lists.{length-one_more}
use Rattle.chaos_net.specs.Net.{Name, Story, Sent, Station, Net, NetEvent, IsNew, IsFresh, CanHappen, Run, Near, present, is_name, story_of, story_after, as_read, length_of, after_slot, after_deed, after_event, arrives, happens, after_events}
use Rattle.chaos_net.specs.Net.NetEvent.{At, Arrives}
use Rattle.chaos_net.specs.Played.{HasPeer, ArePlayed}
use Rattle.chaos_net.specs.Short.{IsAnyAge, ShortLaw}
use Rattle.chaos_net.proofs.Network.{steps_are_played, start_is_played}

-- no slot of a station had more than k connections, and no story has more than k items
pub record IsWithin (k : ℕ) (st : Station) : Type 0 where
  pub turns : (place : ℕ) → st.turn place ≤ k
  pub lengths : (name : Name) → length_of (st.story name) ≤ k

-- ---- a story grows by at most one item

both_below : (b : Bool) (m n k : ℕ) → m ≤ k → n ≤ k → (if b then m else n) ≤ k
both_below true m n k p q = p
both_below false m n k p q = q

length_below : (b : Bool) (xs ys : List ItemView) (k : ℕ) → length xs ≤ k → length ys ≤ k
    → length (if b then xs else ys) ≤ k
length_below true xs ys k p q = p
length_below false xs ys k p q = q

accepted : (items : List ItemView) (b : Bool) (x y : Acted Outcome) (k : ℕ)
    → length (items ++ map item_of x.packets) ≤ k → length (items ++ map item_of y.packets) ≤ k
    → length (items ++ map item_of (if b then x else y).packets) ≤ k
accepted items true x y k p q = p
accepted items false x y k p q = q

append-nil : (xs : List ItemView) → length (xs ++ []) ≡ length xs
append-nil [] = refl
append-nil (x ∷ xs) = ap suc (append-nil xs)

wrote : (conn : ConnView) (call : Call) (items : List ItemView) (k : ℕ) → length items ≤ k
    → length (with_written call (act conn call).packets items) ≤ k + 1
wrote conn (Write op bytes now) items k h =
    let one = length-one_more items (record { op = op; body = bytes }) in omega (arith, one, h)
wrote conn (Accept start now) items k h =
    let opened : ConnView = after_accepting conn start (moment conn now) in
    let one = length-one_more items (opn_item opened) in
    let same = append-nil items in
    accepted items (is_requested conn.state) (with_opn opened) (refusal conn WrongState) (k + 1) (omega (arith, one, h))
    (omega (arith, same, h))
wrote conn (Request me peer contact start now) items k h = omega (arith, h)
wrote conn (TakeRequest rfc me now) items k h = omega (arith, h)
wrote conn (Answer bytes) items k h = omega (arith, h)
wrote conn (Reject text) items k h = omega (arith, h)
wrote conn (Deliver p now) items k h = omega (arith, h)
wrote conn (Unc bytes) items k h = omega (arith, h)
wrote conn Read items k h = omega (arith, h)
wrote conn FinishRead items k h = omega (arith, h)
wrote conn (Announce window) items k h = omega (arith, h)
wrote conn (Close text) items k h = omega (arith, h)
wrote conn (Tick now) items k h = omega (arith, h)

begun : (conn : ConnView) (call : Call) (from : Option Name) (k : ℕ) → length_of (story_of conn call from) ≤ k + 1
begun conn (Request me peer contact start now) from k = omega arith
begun conn (TakeRequest rfc me now) from k = omega arith
begun conn (Accept start now) from k = omega arith
begun conn (Answer bytes) from k = omega arith
begun conn (Reject text) from k = omega arith
begun conn (Deliver p now) from k = omega arith
begun conn (Write op bytes now) from k = omega arith
begun conn (Unc bytes) from k = omega arith
begun conn Read from k = omega arith
begun conn FinishRead from k = omega arith
begun conn (Announce window) from k = omega arith
begun conn (Close text) from k = omega arith
begun conn (Tick now) from k = omega arith

pub grown : (o : Option Story) (conn : ConnView) (call : Call) (from : Option Name) (k : ℕ) → length_of o ≤ k
    → length_of (story_after o conn call from) ≤ k + 1
grown None conn call from k h = begun conn call from k
grown (Some s) conn call from k h =
    length_below (is_refused (act s.end.conn (as_read call)).answer) s.end.written _ (k + 1) (omega (arith, h))
    (wrote s.end.conn (as_read call) s.end.written k h)

-- ---- an event

pub more_within : (k : ℕ) (st : Station) → IsWithin k st → IsWithin (k + 1) st
more_within k st h = record {
  turns = λ place. let t = h.turns place in omega (arith, t);
  lengths = λ name. let l = h.lengths name in omega (arith, l);
}

slot_within : (k : ℕ) (st : Station) (place : ℕ) (call : Call) (from : Option Name) (o : Option Slot) → IsWithin k st
    → IsWithin (k + 1) (after_slot st place call from o)
slot_within k st place call from None h = more_within k st h
slot_within k st place call from (Some slot) h = record {
  turns = λ one.
      let here = h.turns place in
      let there = h.turns one in
      both_below (one == place) _ _ (k + 1)
      (both_below (is_free (slot_after_call slot call)) _ _ (k + 1) (omega (arith, here)) (omega (arith, here)))
      (omega (arith, there));
  lengths = λ name. by name (is_name name (present st place));
}
  where
    by : (name : Name) (b : Bool)
        → length_of (if b then story_after (st.story (present st place)) slot.conn call from else st.story name) ≤ k + 1
    by name true = grown (st.story (present st place)) slot.conn call from k (h.lengths (present st place))
    by name false = let l = h.lengths name in omega (arith, l)

deed_within : (k : ℕ) (st : Station) (d : Deed) (from : Option Name) → IsWithin k st
    → IsWithin (k + 1) (after_deed st d from)
deed_within k st Nothing from h = more_within k st h
deed_within k st (Does place call) from h = slot_within k st place call from (slice_get st.host.slots place) h

abbrev pub AreWithin : ℕ → Net → Type 0
AreWithin k n = (x : Side) → IsWithin k (n x)

event_within : (k : ℕ) (n : Net) (x : Side) (event : HostEvent) (from : Option Name) → AreWithin k n
    → AreWithin (k + 1) (after_event n x event from)
event_within k n A event from h = both
  where
    both : AreWithin (k + 1) (after_event n A event from)
    both A =
        let d = deed_within k (n A) (deed_of (n A).host event) from
        (h A) in record { turns = d.turns; lengths = d.lengths }
    both B = more_within k (n B) (h B)
event_within k n B event from h = both
  where
    both : AreWithin (k + 1) (after_event n B event from)
    both A = more_within k (n A) (h A)
    both B =
        let d = deed_within k (n B) (deed_of (n B).host event) from
        (h B) in record { turns = d.turns; lengths = d.lengths }

arrives_within : (k : ℕ) (n : Net) (x : Side) (now : ℕ) (o : Option Sent) → AreWithin k n
    → AreWithin (k + 1) (arrives n x now o)
arrives_within k n x now None h = λ y. more_within k (n y) (h y)
arrives_within k n x now (Some q) h = event_within k n x (Comes q.packet now) q.by h

pub step_within : (k : ℕ) (n : Net) (event : NetEvent) → AreWithin k n → AreWithin (k + 1) (happens n event)
step_within k n (At x event) h = event_within k n x event None h
step_within k n (Arrives x number now) h = arrives_within k n x now (slice_get (n (other x)).sent number) h

-- ---- what comes is fresh

-- a peer is a connection of the other host
peer_turn : (n : Net) (x : Side) (k : ℕ) (name : Name) (s : Story) (peer : Name) → ArePlayed n → AreWithin k n
    → (n x).story name ≡ Some s → s.peer ≡ Some peer → peer.turn ≤ k
peer_turn n x k name s peer h w there is = by s.peer s.asked is ((h x).station.stories name s there).peer
  where
    of : (t : Story) → (n (other x)).story peer ≡ Some t → peer.turn ≤ k
    of t at =
        let last = ((h (other x)).station.stories peer t at).turn in
        let most = (w (other x)).turns peer.place in
        omega (arith, last, most)

    by : (o : Option Name) (asked : Bool) → o ≡ Some peer → HasPeer (n (other x)) name s o asked → peer.turn ≤ k
    by None asked is p = let no : None ≡ Some peer = is in absurd (cc)
    by (Some one) asked is p = at asked (subst (λ o. HasPeer (n (other x)) name s o asked) is p)
      where
        at : (asked : Bool) → HasPeer (n (other x)) name s (Some peer) asked → peer.turn ≤ k
        at true p = of p.0 p.1
        at false p = of p.0 p.1

own_turn : (n : Net) (x : Side) (k : ℕ) (name : Name) (s : Story) → ArePlayed n → AreWithin k n
    → (n x).story name ≡ Some s → name.turn ≤ k
own_turn n x k name s h w there =
    let last = ((h x).station.stories name s there).turn in
    let most = (w x).turns name.place in
    omega (arith, last, most)

near : (k : ℕ) (a b : Name) → k < 256 → a.turn ≤ k → b.turn ≤ k → Near a b
near k a b few p q = (omega (arith, few, p, q), omega (arith, few, p, q))

all_fresh : (n : Net) (x : Side) (k : ℕ) (q : Sent) → ArePlayed n → AreWithin k n → k < 256 → IsFresh n x q
all_fresh n x k q h w few ack c d s t by from now at index =
    let of_c = own_turn n (other x) k c s h w from in
    let of_d = own_turn n x k d t h w at in
    let wrote_c : length s.end.written ≤ k =
    subst (λ (o : Option Story). length_of o ≤ k) from ((w (other x)).lengths c) in
    let wrote_d : length t.end.written ≤ k = subst (λ (o : Option Story). length_of o ≤ k) at ((w x).lengths d) in
    record {
      meant = λ m is. near k d m few of_d (peer_turn n (other x) k c s m h w from is);
      peer = λ e is. near k c e few of_c (peer_turn n x k d t e h w at is);
      sender = omega (arith, wrote_c, few);
      receiver = omega (arith, wrote_d, few);
    }

pub can_happen : (n : Net) (k : ℕ) (event : NetEvent) → ArePlayed n → AreWithin k n → k < 256 → IsAnyAge event
    → CanHappen n event
can_happen n k (At x event) h w few own = own
can_happen n k (Arrives x number now) h w few own = λ q there. all_fresh n x k q h w few

-- ---- runs

runs_short : (events : List NetEvent) (k : ℕ) (n : Net) → ArePlayed n → AreWithin k n → k + length events ≤ 256
    → AllByRecursion IsAnyAge events → Run n events (after_events n events)
runs_short [] k n h w few all = refl
runs_short (event ∷ events) k n h w few all =
    let can = can_happen n k event h w (omega (arith, few)) all.0 in
    (can, runs_short events (k + 1) (happens n event) (steps_are_played n event h can) (step_within k n event w) (omega (arith, few)) all.1)

pub new_within : (st : Station) → IsNew st → IsWithin 0 st
new_within st new =
    subst (IsWithin 0) (sym new.is) (record { turns = λ place. omega arith; lengths = λ name. omega arith })

pub short_runs : ShortLaw
short_runs start events a b few all = record {
  start = start;
  a = a;
  b = b;
  events = events;
  run = runs_short events 0 start (start_is_played start a b) within (omega (arith, few)) all;
}
  where
    within : AreWithin 0 start
    within A = new_within (start A) a
    within B = new_within (start B) b
