-- An item that comes to its peer is held there.
use Rattle.std.proofs.Common.{◌≡◌, ℕ, ◌+◌, ◌-◌, ◌<◌, ◌≤◌, ◌==◌, ◌&&◌, List, length, Bool, true, false, not, Option, Some, None, refl, sym, ap, ◌∙◌, subst, inl, inr, arith, nat_lt}
use Rattle.std.specs.Prelude.{slice_get}
use Rattle.std.proofs.lemmas.Bool.{false≢true, cond-true, cond-false, eq-eqb, eqb-true, lt-ltb, and_parts}
use Rattle.chaos_packet.specs.Item.{ItemView}
use Rattle.chaos_packet.specs.Number.{num}
use Rattle.chaos_packet.specs.Opcode.{kind_of, is_rfc}
use Rattle.chaos_packet.specs.Packet.{PacketView, item_of}
use Rattle.chaos_conn.specs.declared.state.State.TheVariants as st
use Rattle.chaos_conn.specs.State.{is_inactive, is_live}
use Rattle.chaos_conn.specs.View.{ConnView}
use Rattle.chaos_conn.specs.Sending.{carries_ack}
use Rattle.chaos_conn.specs.Calls.{peer_of}
use Rattle.chaos_conn.specs.Arriving.{act_deliver, is_between_hosts, is_between_indices, may_be_index}
use Rattle.chaos_conn.specs.Act.Call.{Deliver}
use Rattle.chaos_conn.specs.Held.{held_at}
use Rattle.chaos_conn.specs.Names.{is_named, renamed_in}
use Rattle.chaos_conn.proofs.Alike.{comes_alike, not_rfc}
use Rattle.chaos_host.specs.declared.route.Route.TheVariants as to
use Rattle.chaos_host.specs.declared.slot.Slot.{Slot}
use Rattle.chaos_host.specs.Slot.{is_used, is_free, named_slot, place_of, comes_from, may_be_peer}
use Rattle.chaos_host.specs.View.{HostView}
use Rattle.chaos_host.specs.Route.{route, route_named}
use Rattle.chaos_host.specs.Deeds.{deed_of, deed_by, by_used}
use Rattle.chaos_host.specs.Deeds.HostEvent.{Comes}
use Rattle.chaos_host.specs.Deeds.Deed.{Does, Nothing}
use Rattle.chaos_host.proofs.Indices.{named_is}
use Rattle.chaos_host.proofs.Requests.{not_zero}
use Rattle.chaos_lab.specs.declared.side.Side.{Side}
use Rattle.chaos_lab.specs.declared.side.Side.TheVariants.{A, B}
use Rattle.chaos_lab.specs.Machine.{other}
use Rattle.chaos_lab.specs.Headline.{IsCopyOf}
use Rattle.chaos_lab.specs.Laboratory.{LabView, EndView, stamp}
use Rattle.chaos_lab.specs.Plays.{names_of, IsCopyTo}
use Rattle.chaos_lab.proofs.Held.{comes_held}
use Rattle.chaos_net.specs.Net.{Name, Story, Sent, Station, Net, Reached, index_of}
use Rattle.chaos_net.specs.Played.{IsEnd, IsSentOf, IsLinked, Takes, IsNamed, IsSide, lab_packet, plain}
use Rattle.chaos_net.specs.InTurn.{ComesInside}
use Rattle.chaos_net.proofs.Lists.{some_eq}
use Rattle.chaos_net.proofs.Holding.{end_written, end_first, twice}
use Rattle.chaos_net.proofs.Goes.{GoingOn, arrived, Arrived}
use Rattle.chaos_net.proofs.Pairs.{linked_to}
use Rattle.chaos_net.proofs.Network.{reached_is_played}

-- ---- the host takes it to the connection

-- the place of an index
place_back : (d : Name) → d.place < 255 → place_of (index_of d) ≡ d.place
place_back d few = omega (arith, few)

open_is_live : (v : ConnView) → v.state ≡ st.Open → is_live v.state ≡ true
open_is_live v state = ap is_live state

peer_is : (v : ConnView) → is_inactive v.state ≡ false → peer_of v ≡ Some (v.peer, v.peer_index)
peer_is v used = cond-false (is_inactive v.state) None (Some (v.peer, v.peer_index)) used

turn_eq : (a b : ℕ) → (a == b) ≡ true → (b == a) ≡ true
turn_eq a b h = eq-eqb b a (sym (eqb-true a b h))

both_true : (a b : Bool) → a ≡ true → b ≡ true → (a && b) ≡ true
both_true true true p q = refl
both_true true false p q = absurd (false≢true q)
both_true false b p q = absurd (false≢true p)

not_true : (b : Bool) → b ≡ true → not b ≡ false
not_true true h = refl
not_true false h = absurd (false≢true h)

-- a packet under the names of a connection in use goes to its slot
goes_to : (v : HostView) (p : PacketView) (now : ℕ) (slot : Slot) → named_slot v.slots p.dst_index ≡ Some slot
    → slot.conn.me.address ≡ v.address → is_named slot.conn p ≡ true → is_rfc (kind_of p.op) ≡ false → 1 ≤ p.src
    → deed_of v (Comes p now) ≡ Does (place_of p.dst_index) (Deliver p now)
goes_to v p now slot there mine named rfc source =
    let i = named_is p.dst_index (slice_get v.slots (place_of p.dst_index)) slot there in
    let n = and_parts (is_between_hosts slot.conn p) (is_between_indices slot.conn p) named in
    let hosts = and_parts (p.dst == slot.conn.me.address) (p.src == slot.conn.peer) n.0 in
    let indices = and_parts (p.dst_index == slot.conn.me.index) (may_be_index slot.conn.peer_index p.src_index) n.1 in
    let ours : (p.dst == v.address) ≡ true = ap (λ a. p.dst == a) (sym mine) ∙ hosts.0 in
    let used : is_inactive slot.conn.state ≡ false = not_free (is_inactive slot.conn.state) i.1 in
    let from : comes_from p slot ≡ true =
    ap (may_be_peer p.src p.src_index) (peer_is slot.conn used)
    ∙ both_true _ _ (turn_eq p.src slot.conn.peer hosts.1) indices.1 in
    let way : route v p ≡ to.Slot (place_of p.dst_index) =
    cond-false _ _ _ (not_true (p.dst == v.address) ours)
    ∙ cond-false _ _ _ (not_zero p.src source)
    ∙ cond-false _ _ _ rfc
    ∙ ap (route_named p) there
    ∙ cond-true _ _ _ from in
    ap (deed_by v p now) way ∙ ap (by_used (place_of p.dst_index) (Deliver p now)) i.0
    ∙ cond-true (is_used slot) (Does (place_of p.dst_index) (Deliver p now)) Nothing i.1
  where
    not_free : (b : Bool) → not b ≡ true → b ≡ false
    not_free false h = refl
    not_free true h = absurd (false≢true h)

-- ---- the laboratory of the pair holds it

fresh_lt : (n m : ℕ) → n < m + 32640 → nat_lt (n - m) 32640 ≡ true
fresh_lt n m h = lt-ltb (n - m) 32640 (omega (arith, h))

-- an open connection plays
not_past : (y : Side) (e lab : EndView) → e.conn.state ≡ st.Open → IsEnd y e lab → lab ≡ plain y e
not_past y e lab state (inl is) = is
not_past y e lab state (inr past) = absurd (false≢true (sym past.over.dead ∙ ap is_live state))

-- what comes under the names of a laboratory comes to the connection
names_back : (y : Side) (e lab : EndView) (p : PacketView) (now place : ℕ) (item : ItemView) → lab ≡ plain y e
    → is_named e.conn p ≡ true → carries_ack (kind_of p.op) ≡ true
    → held_at (act_deliver lab.conn (renamed_in (names_of y) p) now).view place ≡ Some item
    → held_at (act_deliver e.conn p now).view place ≡ Some item
names_back y e lab p now place item is named ack h =
    ap (λ a. held_at a.view place) (sym (comes_alike (names_of y) e.conn p now named ack))
    ∙ ap (λ (f : EndView). held_at (act_deliver f.conn (renamed_in (names_of y) p) now).view place) (sym is)
    ∙ h

-- what is known of both
record Pair (n : Net) (x : Side) (number : ℕ) (i : ℕ) (c d : Name) (s t : Story)
    (k : ComesInside n x number c d s t i) : Type 0 where
  side : IsSide x (n x) (n (other x))
  back : IsSide (other x) (n (other x)) (n x)
  came : Arrived x (n x) (n (other x)) d t k.packet.packet k.packet.by

is_index : (n : Net) (x : Side) (number i : ℕ) (c d : Name) (s t : Story) (k : ComesInside n x number c d s t i)
    → IsNamed (n x).host.address d t → k.packet.packet.dst_index ≡ index_of d
is_index n x number i c d s t k names =
    let p : PacketView = k.packet.packet in
    let parts = and_parts (is_between_hosts t.end.conn p) (is_between_indices t.end.conn p) k.named in
    eqb-true p.dst_index t.end.conn.me.index
    (and_parts (p.dst_index == t.end.conn.me.index) (may_be_index t.end.conn.peer_index p.src_index) parts.1).0
    ∙ ap (λ e. e.index) names.me

open_used : (t : Story) → t.end.conn.state ≡ st.Open → is_inactive t.end.conn.state ≡ false
open_used t state = ap is_inactive state

deliver_eq : (p q : PacketView) (m l : ℕ) → Deliver p m ≡ Deliver q l → p ≡ q
deliver_eq p q m l h = cc

pair_of : (n : Net) (x : Side) (number now i : ℕ) (c d : Name) (s t : Story) → Reached n
    → (k : ComesInside n x number c d s t i) → Pair n x number i c d s t k
pair_of n x number now i c d s t r k =
    let h = reached_is_played n r in
    let back : IsSide (other x) (n (other x)) (n x) =
    subst (λ y. IsSide (other x) (n (other x)) (n y)) (twice x) (h (other x)) in
    let p : PacketView = k.packet.packet in
    let g : GoingOn x (n x) (n (other x)) d t (Deliver p now) k.packet.by = record {
      side = h x;
      back = back;
      there = k.there;
      present = k.present;
      used = open_used t k.open_end;
      goes = refl;
      arrival =
          λ q at is.
          record { number = number; packet = k.packet; there = k.sent; is = deliver_eq p q now at is; by = refl; fresh = k.fresh };
    } in
    record {
      side = h x;
      back = back;
      came = arrived x (n x) (n (other x)) d t (Deliver p now) k.packet.by g p now refl k.of_item.ack k.named;
    }

-- the end that asked
held_a : (n : Net) (x : Side) (number now i place : ℕ) (c d : Name) (s t : Story) (k : ComesInside n x number c d s t i)
    → Pair n x number i c d s t k → t.asked ≡ true → length t.end.read + place ≡ i
    → held_at (act_deliver t.end.conn k.packet.packet now).view place ≡ Some (item_of k.packet.packet)
held_a n x number now i place c d s t k g asked at =
    let q : Sent = k.packet in
    let p : PacketView = q.packet in
    let own : Station = n x in
    let far : Station = n (other x) in
    let name : g.came.name ≡ c = some_eq (sym g.came.from_is ∙ k.of_item.by) in
    let story : g.came.story ≡ s = some_eq (sym g.came.known ∙ ap far.story name ∙ k.from) in
    let takes : Takes (Some s) d = (ap (λ z. z.asked) (sym story) ∙ g.came.asks asked, k.to) in
    let link : IsLinked t.peer c = linked t.peer (λ e is. sym (g.came.peer e is) ∙ name) in
    let pair = g.side.pairs d c t k.there asked in
    let l : LabView = pair.0 in
    let pl = pair.1 in
    let in_lab =
    pl.sent_b number q k.sent k.of_item.by k.of_item.ack (subst (λ o. Takes o d) (sym k.from) takes) link in
    let end_a = pl.linked link in
    let end_b = pl.taken s k.from takes in
    let wrote_a : length l.a.written ≡ length t.end.written = ap length (end_written A t.end l.a end_a) in
    let wrote_b : length l.b.written ≡ length s.end.written = ap length (end_written B s.end l.b end_b) in
    let fresh =
    k.fresh k.of_item.ack c d s t k.of_item.by k.from k.present k.there
    (is_index n x number i c d s t k ((g.side.station.stories d t k.there).named (open_used t k.open_end))) in
    let len_a : ℕ = q.lengths x d in
    let len_b : ℕ = q.lengths (other x) c in
    let copy : IsCopyTo l A (renamed_in (names_of A) p) = record {
      number = in_lab.0;
      copy = stamp B len_a len_b (lab_packet B p);
      there = in_lab.1;
      side = refl;
      packet = refl;
      fresh =
          both_true _ _ (fresh_lt (length l.a.written) len_a (let f = fresh.receiver in omega (arith, wrote_a, f)))
          (fresh_lt (length l.b.written) len_b (let f = fresh.sender in omega (arith, wrote_b, f)));
    } in
    let plays : l.a ≡ plain A t.end = not_past A t.end l.a k.open_end end_a in
    let of_item : IsCopyOf l (stamp B len_a len_b (lab_packet B p)) i = record {
      item = ap (λ (ws : List ItemView). slice_get ws i) (end_written B s.end l.b end_b) ∙ k.of_item.item;
      number = k.of_item.number ∙ ap (λ b. num b i) (sym (end_first B s.end l.b end_b));
      near = k.of_item.near;
    } in
    let inside : i < length l.a.read + l.a.conn.recv.window =
    subst (λ (f : EndView). i < length f.read + f.conn.recv.window) (sym plays) k.inside in
    let index : length l.a.read + place ≡ i = ap (λ (f : EndView). length f.read + place) plays ∙ at in
    names_back A t.end l.a p now place (item_of p) plays k.named k.of_item.ack
    (comes_held l A (renamed_in (names_of A) p) now i place pl.machine (not_rfc (kind_of p.op) k.of_item.ack) copy
    of_item (ap (λ f. f.conn.state) plays ∙ k.open_end) inside index)
  where
    linked : (o : Option Name) → ((e : Name) → o ≡ Some e → e ≡ c) → IsLinked o c
    linked None f = tt
    linked (Some e) f = f e refl

-- the end that was asked
held_b : (n : Net) (x : Side) (number now i place : ℕ) (c d : Name) (s t : Story) (k : ComesInside n x number c d s t i)
    → Pair n x number i c d s t k → t.asked ≡ false → length t.end.read + place ≡ i
    → held_at (act_deliver t.end.conn k.packet.packet now).view place ≡ Some (item_of k.packet.packet)
held_b n x number now i place c d s t k g asked at =
    let q : Sent = k.packet in
    let p : PacketView = q.packet in
    let own : Station = n x in
    let far : Station = n (other x) in
    let name : g.came.name ≡ c = some_eq (sym g.came.from_is ∙ k.of_item.by) in
    let story : g.came.story ≡ s = some_eq (sym g.came.known ∙ ap far.story name ∙ k.from) in
    let takes = g.came.takes asked in
    let asks : s.asked ≡ true = ap (λ z. z.asked) (sym story) ∙ takes.0 in
    let peer : t.peer ≡ Some c = takes.1 ∙ ap Some name in
    let pair = g.back.pairs c d s k.from asks in
    let l : LabView = pair.0 in
    let pl = pair.1 in
    let in_lab = pl.sent_a number q k.sent k.of_item.by k.of_item.ack k.to in
    let end_a = pl.linked (linked_to s.peer d k.to) in
    let end_b = pl.taken t k.there (asked, peer) in
    let wrote_a : length l.a.written ≡ length s.end.written = ap length (end_written A s.end l.a end_a) in
    let wrote_b : length l.b.written ≡ length t.end.written = ap length (end_written B t.end l.b end_b) in
    let fresh =
    k.fresh k.of_item.ack c d s t k.of_item.by k.from k.present k.there
    (is_index n x number i c d s t k ((g.side.station.stories d t k.there).named (open_used t k.open_end))) in
    let len_a : ℕ = q.lengths (other x) c in
    let len_b : ℕ = q.lengths (other (other x)) d in
    let same_b : len_b ≡ q.lengths x d = ap (λ y. q.lengths y d) (twice x) in
    let copy : IsCopyTo l B (renamed_in (names_of B) p) = record {
      number = in_lab.0;
      copy = stamp A len_a len_b (lab_packet A p);
      there = in_lab.1;
      side = refl;
      packet = refl;
      fresh =
          both_true _ _ (fresh_lt (length l.a.written) len_a (let f = fresh.sender in omega (arith, wrote_a, f)))
          (fresh_lt (length l.b.written) len_b (let f = fresh.receiver in omega (arith, wrote_b, same_b, f)));
    } in
    let plays : l.b ≡ plain B t.end = not_past B t.end l.b k.open_end end_b in
    let of_item : IsCopyOf l (stamp A len_a len_b (lab_packet A p)) i = record {
      item = ap (λ (ws : List ItemView). slice_get ws i) (end_written A s.end l.a end_a) ∙ k.of_item.item;
      number = k.of_item.number ∙ ap (λ b. num b i) (sym (end_first A s.end l.a end_a));
      near = k.of_item.near;
    } in
    let inside : i < length l.b.read + l.b.conn.recv.window =
    subst (λ (f : EndView). i < length f.read + f.conn.recv.window) (sym plays) k.inside in
    let index : length l.b.read + place ≡ i = ap (λ (f : EndView). length f.read + place) plays ∙ at in
    names_back B t.end l.b p now place (item_of p) plays k.named k.of_item.ack
    (comes_held l B (renamed_in (names_of B) p) now i place pl.machine (not_rfc (kind_of p.op) k.of_item.ack) copy
    of_item (ap (λ f. f.conn.state) plays ∙ k.open_end) inside index)

pub coming : (n : Net) (x : Side) (number now i place : ℕ) (c d : Name) (s t : Story) → Reached n
    → (k : ComesInside n x number c d s t i) → length t.end.read + place ≡ i
    → held_at (act_deliver t.end.conn k.packet.packet now).view place ≡ Some (item_of k.packet.packet)
coming n x number now i place c d s t r k at = by t.asked refl
  where
    by : (b : Bool) → t.asked ≡ b
        → held_at (act_deliver t.end.conn k.packet.packet now).view place ≡ Some (item_of k.packet.packet)
    by true asked = held_a n x number now i place c d s t k (pair_of n x number now i c d s t r k) asked at
    by false asked = held_b n x number now i place c d s t k (pair_of n x number now i c d s t r k) asked at

-- its slot
pub slot_at : (n : Net) (x : Side) (number i : ℕ) (c d : Name) (s t : Story) → Reached n
    → (k : ComesInside n x number c d s t i) → slice_get (n x).host.slots d.place ≡ Some k.slot
slot_at n x number i c d s t r k =
    let place = place_back d (((reached_is_played n r) x).station.stories d t k.there).place in
    let found = named_is (index_of d) (slice_get (n x).host.slots (place_of (index_of d))) k.slot k.held in
    ap (slice_get (n x).host.slots) (sym place) ∙ found.0

-- the deed of the host
pub comes_to : (n : Net) (x : Side) (number now i : ℕ) (c d : Name) (s t : Story) → Reached n
    → (k : ComesInside n x number c d s t i)
    → deed_of (n x).host (Comes k.packet.packet now) ≡ Does d.place (Deliver k.packet.packet now)
comes_to n x number now i c d s t r k =
    let h = reached_is_played n r in
    let p : PacketView = k.packet.packet in
    let story = (h x).station.stories d t k.there in
    let names = story.named (open_used t k.open_end) in
    let index = is_index n x number i c d s t k names in
    let place = place_back d story.place in
    let found = named_is (index_of d) (slice_get (n x).host.slots (place_of (index_of d))) k.slot k.held in
    let slots = (h x).station.slots d.place k.slot (slot_at n x number i c d s t r k) in
    let u = slots.used (not_free (is_free k.slot) found.1) in
    let same : u.0 ≡ t =
    some_eq (sym u.1 ∙ ap (n x).story (λ j. record { place = d.place; turn = k.present j }) ∙ k.there) in
    let conn : t.end.conn ≡ k.slot.conn = ap (λ (z : Story). z.end.conn) (sym same) ∙ u.2 in
    let sender = source k.packet.by refl ((h (other x)).station.sent number k.packet k.sent) in
    goes_to (n x).host p now k.slot (ap (named_slot (n x).host.slots) index ∙ k.held)
    (ap (λ v. v.me.address) (sym conn) ∙ ap (λ e. e.address) names.me)
    (subst (λ v. is_named v p ≡ true) conn k.named) (not_rfc (kind_of p.op) k.of_item.ack) sender
    ∙ ap (λ j. Does j (Deliver p now)) (ap place_of index ∙ place)
  where
    not_free : (b : Bool) → not b ≡ true → b ≡ false
    not_free false h = refl
    not_free true h = absurd (false≢true h)

    source : (o : Option Name) → k.packet.by ≡ o → IsSentOf (n (other x)) k.packet.packet o → 1 ≤ k.packet.packet.src
    source None is sent = let missing : None ≡ Some c = sym is ∙ k.of_item.by in absurd (cc)
    source (Some name) is sent =
        let from = sent.src in let host = ((reached_is_played n r) (other x)).station.host.address in omega
        (arith, from, host)
