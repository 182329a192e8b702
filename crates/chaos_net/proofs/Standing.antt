-- A running net stands for the net that the same events lead to.
use Rattle.std.proofs.Common.{◌≡◌, ℕ, suc, ◌+◌, ◌≤◌, ◌==◌, List, [], ◌∷◌, ◌++◌, length, map, Bool, true, false, if◌then◌else◌, Option, Some, None, refl, sym, ap, ◌∙◌, subst, ◌⊎◌, inl, inr, ⊎_elim, arith}
use Rattle.std.specs.Prelude.{slice_get}
use Rattle.std.proofs.lemmas.Bool.{eqb-true}
use Rattle.chaos_packet.specs.Packet.{PacketView}
use Rattle.chaos_conn.specs.Act.{Call}
use Rattle.chaos_host.specs.declared.slot.Slot.{Slot}
use Rattle.chaos_host.specs.Slot.{is_free}
use Rattle.chaos_host.specs.Acted.{slot_after_call}
use Rattle.chaos_host.specs.Deeds.{HostEvent, Deed, host_made, deed_of}
use Rattle.chaos_host.specs.Deeds.Deed.{Nothing, Does}
use Rattle.chaos_lab.specs.declared.side.Side.{Side}
use Rattle.chaos_lab.specs.declared.side.Side.TheVariants.{A, B}
use Rattle.chaos_lab.specs.Machine.{other}
use Rattle.chaos_net.specs.declared.kept_sent.KeptSent.{KeptSent}
use Rattle.chaos_net.specs.declared.mark.Mark.{Mark}
use Rattle.chaos_net.specs.declared.seat.Seat.{Seat}
use Rattle.chaos_net.specs.Net.{Name, Story, Sent, Station, Net, NetEvent, CanHappen, Run, Reached, present, sender, story_after, length_of, lengths_of, sent_by, with_station, moved, after_slot, after_deed, after_event, happens}
use Rattle.chaos_net.specs.Lasting.{LastsAs}
use Rattle.chaos_net.specs.Played.{IsSentOf}
use Rattle.chaos_net.specs.Kept.{StationView, NetView, at, before, after, alter, seat_in, by_of, meant_of, kept_by, station_after}
use Rattle.chaos_net.specs.Running.{turn_of, IsSeatOf, IsKept, AreKept, StandsAt, Stands}
use Rattle.chaos_net.proofs.Lists.{some_eq}
use Rattle.chaos_net.proofs.Holding.{name_eq}
use Rattle.chaos_net.proofs.Next.{look_own, look_other}
use Rattle.chaos_net.proofs.Network.{reached_is_played}
use Rattle.chaos_net.proofs.Short.{grown}
use Rattle.chaos_net.proofs.Lasting.{event_lasts}
use Rattle.chaos_net.proofs.Seats.{IsMarked, alter_length}

-- ---- a net after one more event is reached

run_on : (events : List NetEvent) (n m : Net) (event : NetEvent) → Run n events m → CanHappen m event
    → Run n (events ++ event ∷ []) (happens m event)
run_on [] n m event r can = subst (λ k. CanHappen k event × (happens m event ≡ happens k event)) r (can, refl)
run_on (one ∷ events) n m event r can = (r.0, run_on events (happens n one) m event r.1 can)

pub reached_on : (n : Net) (event : NetEvent) → Reached n → CanHappen n event → Reached (happens n event)
reached_on n event r can =
    record { start = r.start; a = r.a; b = r.b; events = r.events ++ event ∷ []; run = run_on r.events r.start n event r.run can }

-- ---- what grows

below : (b : Bool) (m k most : ℕ) → m ≤ most → k ≤ most → (if b then m else k) ≤ most
below true m k most p q = p
below false m k most p q = q

-- each slot has at most one more connection, and each story at most one more item
record IsGrown (st next : Station) : Type 0 where
  turns : (place : ℕ) → next.turn place ≤ st.turn place + 1
  lengths : (name : Name) → length_of (next.story name) ≤ length_of (st.story name) + 1

grown_same : (st : Station) → IsGrown st st
grown_same st = record { turns = λ place. omega arith; lengths = λ name. omega arith }

grown_slot : (st : Station) (place : ℕ) (call : Call) (from : Option Name) (o : Option Slot)
    → IsGrown st (after_slot st place call from o)
grown_slot st place call from None = grown_same st
grown_slot st place call from (Some slot) = record {
  turns = λ one. turn one (one == place) refl;
  lengths = λ name.
      let c : Name = present st place in
      let o : Option Story = story_after (st.story c) slot.conn call from in
      ⊎_elim
      (λ (same : name ≡ c).
      let here = ap (after_slot st place call from (Some slot)).story same ∙ look_own st.story c o in
      let more = grown (st.story c) slot.conn call from (length_of (st.story c)) (omega arith) in
      subst (λ (z : Option Story × Option Story). length_of z.0 ≤ length_of z.1 + 1)
      (λ j. (sym here j, ap st.story (sym same) j)) more)
      (λ (apart : name ≡ c → ⊥). let there = ap length_of (look_other st.story c o name apart) in omega (arith, there))
      (name_eq name c);
}
  where
    turn : (one : ℕ) (b : Bool) → (one == place) ≡ b
        → (if b then (if is_free (slot_after_call slot call) then st.turn place + 1 else st.turn place) else st.turn
        one)
        ≤ st.turn one + 1
    turn one true is =
        let same : st.turn place
        ≡ st.turn one = ap st.turn (sym (eqb-true one place is)) in below (is_free (slot_after_call slot call)) _ _
        _ (omega (arith, same)) (omega (arith, same))
    turn one false is = omega arith

grown_deed : (st : Station) (d : Deed) (from : Option Name) → IsGrown st (after_deed st d from)
grown_deed st Nothing from = grown_same st
grown_deed st (Does place call) from = grown_slot st place call from (slice_get st.host.slots place)

-- one net goes on to another
record GoesOn (n next : Net) : Type 0 where
  turns : (z : Side) (place : ℕ) → (next z).turn place ≤ (n z).turn place + 1
  lengths : (z : Side) (name : Name) → lengths_of next z name ≤ lengths_of n z name + 1
  lasts : (z : Side) (name : Name) (s : Story) → (n z).story name ≡ Some s
      → (t : Story) × ((next z).story name ≡ Some t) × LastsAs s t

goes_on : (n : Net) (x : Side) (event : HostEvent) (from : Option Name) → GoesOn n (after_event n x event from)
goes_on n A event from = record {
  turns = turns;
  lengths = lengths;
  lasts = λ z name s there. event_lasts n A event from z name s there;
}
  where
    turns : (z : Side) (place : ℕ) → ((after_event n A event from) z).turn place ≤ (n z).turn place + 1
    turns A place = (grown_deed (n A) (deed_of (n A).host event) from).turns place
    turns B place = omega arith

    lengths : (z : Side) (name : Name) → lengths_of (after_event n A event from) z name ≤ lengths_of n z name + 1
    lengths A name = (grown_deed (n A) (deed_of (n A).host event) from).lengths name
    lengths B name = omega arith
goes_on n B event from = record {
  turns = turns;
  lengths = lengths;
  lasts = λ z name s there. event_lasts n B event from z name s there;
}
  where
    turns : (z : Side) (place : ℕ) → ((after_event n B event from) z).turn place ≤ (n z).turn place + 1
    turns A place = omega arith
    turns B place = (grown_deed (n B) (deed_of (n B).host event) from).turns place

    lengths : (z : Side) (name : Name) → lengths_of (after_event n B event from) z name ≤ lengths_of n z name + 1
    lengths A name = omega arith
    lengths B name = (grown_deed (n B) (deed_of (n B).host event) from).lengths name

-- ---- what is kept

-- what was sent stands for what is kept, also after an event
kept_on : (n next : Net) (y : Side) (events : ℕ) (kept : KeptSent) (q : Sent) → GoesOn n next
    → IsSentOf (n y) q.packet q.by → IsKept n y events kept q → IsKept next y (events + 1) kept q
kept_on n next y events kept q g sent k = record {
  packet = k.packet;
  by = k.by;
  meant = λ ack c s by there.
      let of : IsSentOf (n y) q.packet (Some c) = subst (IsSentOf (n y) q.packet) by sent in
      let peer = of.ack ack in
      let t = g.lasts y c of.story of.there in
      let same : t.0 ≡ s = some_eq (sym t.1 ∙ there) in
      k.meant ack c of.story by of.there
      ∙ ap turn_of (peer.1 ∙ sym (t.2.peer peer.0 peer.1) ∙ ap (λ (z : Story). z.peer) same);
  lengths = λ z name. let old = k.lengths z name in let more = g.lengths z name in omega (arith, old, more);
  at = let old = k.at in omega (arith, old);
}

all_kept_on : (n next : Net) (y : Side) (events : ℕ) (ks : List KeptSent) (qs : List Sent) → GoesOn n next
    → ((k : ℕ) (q : Sent) → slice_get qs k ≡ Some q → IsSentOf (n y) q.packet q.by) → AreKept n y events ks qs
    → AreKept next y (events + 1) ks qs
all_kept_on n next y events [] [] g sent h = tt
all_kept_on n next y events [] (q ∷ qs) g sent h = absurd h
all_kept_on n next y events (kept ∷ ks) [] g sent h = absurd h
all_kept_on n next y events (kept ∷ ks) (q ∷ qs) g sent h =
    (kept_on n next y events kept q g (sent 0 q refl) h.0, all_kept_on n next y events ks qs g (λ k. sent (suc k)) h.1)

both_kept : (n : Net) (y : Side) (events : ℕ) (ks : List KeptSent) (qs : List Sent) (more : List KeptSent)
    (news : List Sent)
    → AreKept n y events ks qs → AreKept n y events more news → AreKept n y events (ks ++ more) (qs ++ news)
both_kept n y events [] [] more news h g = g
both_kept n y events [] (q ∷ qs) more news h g = absurd h
both_kept n y events (kept ∷ ks) [] more news h g = absurd h
both_kept n y events (kept ∷ ks) (q ∷ qs) more news h g = (h.0, both_kept n y events ks qs more news h.1 g)

new_kept : (n : Net) (y : Side) (events : ℕ) (f : PacketView → KeptSent) (g : PacketView → Sent) (ps : List PacketView)
    → ((p : PacketView) → IsKept n y events (f p) (g p)) → AreKept n y events (map f ps) (map g ps)
new_kept n y events f g [] h = tt
new_kept n y events f g (p ∷ ps) h = (h p, new_kept n y events f g ps h)

-- what an event sends is kept
sends : (next : Net) (x : Side) (events : ℕ) (seat : Option Seat) (by : Option Name) (lengths : Side → Name → ℕ)
    (ps : List PacketView)
    → ((z : Side) (name : Name) → lengths_of next z name ≡ lengths z name)
    → (ps ≡ []) ⊎ (by_of seat ≡ turn_of by)
    → ((c : Name) (s : Story) → by ≡ Some c → (next x).story c ≡ Some s → meant_of seat ≡ turn_of s.peer)
    → AreKept next x events (map (kept_by seat events) ps) (map (sent_by by lengths) ps)
sends next x events seat by lengths ps same (inl none) meant =
    subst (λ qs. AreKept next x events (map (kept_by seat events) qs) (map (sent_by by lengths) qs)) (sym none) tt
sends next x events seat by lengths ps same (inr told) meant =
    new_kept next x events (kept_by seat events) (sent_by by lengths) ps
    (λ p. record {
      packet = refl;
      by = told;
      meant = λ ack c s is there. meant c s is there;
      lengths = λ z name. let l = same z name in omega (arith, l);
      at = omega arith;
    })

-- ---- a station after an event

-- own: the station at x before, and its net; v: what was kept of it
same_stands : (n next : Net) (y : Side) (events : ℕ) (v : StationView) → Reached n → GoesOn n next → next y ≡ n y
    → StandsAt n y events v → StandsAt next y (events + 1) v
same_stands n next y events v r g same h = record {
  host = h.host ∙ ap (λ (st : Station). st.host) (sym same);
  size = h.size;
  seats = λ place seat there. subst (λ st. IsSeatOf st (present st place) seat) (sym same) (h.seats place seat there);
  sent =
      subst (AreKept next y (events + 1) v.sent) (ap (λ (st : Station). st.sent) (sym same))
      (all_kept_on n next y events v.sent (n y).sent g (((reached_is_played n r) y).station.sent) h.sent);
  turns = λ place. let old = h.turns place in let more = g.turns y place in omega (arith, old, more);
  lengths = λ name. let old = h.lengths name in let more = g.lengths y name in omega (arith, old, more);
}

-- the station at the side of the event
record IsAfter (n next : Net) (x : Side) (event : HostEvent) (from : Option Name) : Type 0 where
  host : (next x).host ≡ (host_made (n x).host event).view
  turn : (next x).turn ≡ (after_deed (n x) (deed_of (n x).host event) from).turn
  story : (next x).story ≡ (after_deed (n x) (deed_of (n x).host event) from).story
  sent : (lengths : Side → Name → ℕ)
      × ((next x).sent
      ≡ (n x).sent
      ++ map (sent_by (sender (n x) (deed_of (n x).host event)) lengths) (host_made (n x).host event).packets)
      × ((z : Side) (name : Name) → lengths_of next z name ≡ lengths z name)

after_stands : (n next : Net) (x : Side) (event : HostEvent) (from : Option Name) (events : ℕ) (v v' : StationView)
    (place : Option ℕ) (mark : Mark)
    → Reached n → GoesOn n next → IsAfter n next x event from
    → v' ≡ station_after v event place mark (events + 1) → length v'.host.slots ≡ length v.host.slots
    → StandsAt n x events v
    → IsMarked (n x) (deed_of (n x).host event) from place mark (host_made (n x).host event).packets v.seats
    → StandsAt next x (events + 1) v'
after_stands n next x event from events v v' place mark r g a is size h m =
    let seats : List Seat = alter (before mark) v.seats place in
    let made : (host_made v.host event).packets ≡ (host_made (n x).host event).packets =
    ap (λ w. (host_made w event).packets) h.host in
    let old = all_kept_on n next x events v.sent (n x).sent g (((reached_is_played n r) x).station.sent) h.sent in
    let new =
    sends next x (events + 1) (seat_in seats place) (sender (n x) (deed_of (n x).host event)) a.sent.0
    (host_made (n x).host event).packets a.sent.2 m.by
    (λ c s by there. m.meant c s by (ap (λ f. f c) (sym a.story) ∙ there)) in
    let all = both_kept next x (events + 1) v.sent (n x).sent _ _ old new in
    record {
      host = ap (λ (z : StationView). z.host) is ∙ ap (λ w. (host_made w event).view) h.host ∙ sym a.host;
      size =
          ap (λ (z : StationView). length z.seats) is ∙ altered (after mark) seats place
          ∙ altered (before mark) v.seats place ∙ h.size ∙ sym size;
      seats = λ one seat there.
          let told = m.seats one seat (ap (λ (z : StationView). slice_get z.seats one) (sym is) ∙ there) in
          let named : present (after_deed (n x) (deed_of (n x).host event) from) one ≡ present (next x) one =
          λ j. record { place = one; turn = sym a.turn j one } in
          let there_is = ap (λ f. f (present (next x) one)) a.story in
          let moved_to =
          subst (λ name. IsSeatOf (after_deed (n x) (deed_of (n x).host event) from) name seat) named told in
          record { turn = moved_to.turn; peer = λ s at. moved_to.peer s (sym there_is ∙ at) };
      sent = subst (λ (z : List KeptSent × List Sent). AreKept next x (events + 1) z.0 z.1)
          (λ j.
          ((ap (λ ps. v.sent ++ map (kept_by (seat_in seats place) (events + 1)) ps) (sym made) ∙ ap (λ (z : StationView). z.sent) (sym is)) j, sym a.sent.1 j))
          all;
      turns = λ one. let t = h.turns one in let more = g.turns x one in omega (arith, t, more);
      lengths = λ name. let l = h.lengths name in let more = g.lengths x name in omega (arith, l, more);
    }
  where
    altered : (f : Seat → Seat) (seats : List Seat) (place : Option ℕ) → length (alter f seats place) ≡ length seats
    altered f seats None = refl
    altered f seats (Some place) = alter_length f seats place

after_is : (n : Net) (x : Side) (event : HostEvent) (from : Option Name)
    → IsAfter n (after_event n x event from) x event from
after_is n A event from = record {
  host = refl;
  turn = refl;
  story = refl;
  sent = (lengths_of (with_station n A (moved (n A) event from)), refl, same);
}
  where
    same : (z : Side) (name : Name)
        → lengths_of (after_event n A event from) z name ≡ lengths_of (with_station n A (moved (n A) event from)) z name
    same A name = refl
    same B name = refl
after_is n B event from = record {
  host = refl;
  turn = refl;
  story = refl;
  sent = (lengths_of (with_station n B (moved (n B) event from)), refl, same);
}
  where
    same : (z : Side) (name : Name)
        → lengths_of (after_event n B event from) z name ≡ lengths_of (with_station n B (moved (n B) event from)) z name
    same A name = refl
    same B name = refl

-- What an event made of one side of a running net, and nothing of the other: it stands for the net after the event.
pub record IsMade (v v' : NetView) (x : Side) (event : HostEvent) (place : Option ℕ) (mark : Mark) : Type 0 where
  pub made : at v' x ≡ station_after (at v x) event place mark (v.events + 1)
  pub size : length (at v' x).host.slots ≡ length (at v x).host.slots
  pub rest : at v' (other x) ≡ at v (other x)
  pub events : v'.events ≡ v.events + 1

pub stands_after : (v v' : NetView) (n : Net) (x : Side) (event : HostEvent) (from : Option Name) (place : Option ℕ)
    (mark : Mark)
    → Stands v n → IsMade v v' x event place mark → Reached (after_event n x event from)
    → IsMarked (n x) (deed_of (n x).host event) from place mark (host_made (n x).host event).packets (at v x).seats
    → Stands v' (after_event n x event from)
stands_after v v' n x event from place mark h i reached m = record { reached = reached; stations = by x here there }
  where
    next : Net
    next = after_event n x event from

    here : StandsAt next x v'.events (at v' x)
    here =
        subst (λ e. StandsAt next x e (at v' x)) (sym i.events)
        (after_stands n next x event from v.events (at v x) (at v' x) place mark h.reached (goes_on n x event from)
        (after_is n x event from) i.made i.size (h.stations x) m)

    far_same : (y : Side) → (after_event n y event from) (other y) ≡ n (other y)
    far_same A = refl
    far_same B = refl

    there : StandsAt next (other x) v'.events (at v' (other x))
    there =
        subst (λ (z : ℕ × StationView). StandsAt next (other x) z.0 z.1) (λ j. (sym i.events j, sym i.rest j))
        (same_stands n next (other x) v.events (at v (other x)) h.reached (goes_on n x event from) (far_same x)
        (h.stations (other x)))

    by : (y : Side) → StandsAt next y v'.events (at v' y) → StandsAt next (other y) v'.events (at v' (other y))
        → (z : Side) → StandsAt next z v'.events (at v' z)
    by A p q A = p
    by A p q B = q
    by B p q A = q
    by B p q B = p
