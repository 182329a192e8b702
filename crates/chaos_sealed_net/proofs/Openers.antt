-- Each connection that was asked has opened the connection that asked, or is lonely: a laboratory plays it as B, and A of
-- that laboratory has read nothing. Nothing that comes to a lonely connection carries an acknowledgement.
use Rattle.std.proofs.Common.{◌≡◌, ℕ, ◌≤◌, List, [], ◌∷◌, length, Bool, true, false, Option, Some, None, refl, sym, ap, ◌∙◌, subst, inl, inr, ◌⊎◌, ⊎_elim, arith}
use Rattle.std.specs.Prelude.{slice_get}
use Rattle.std.proofs.lemmas.Bool.{false≢true}
use Rattle.chaos_packet.specs.Item.{ItemView}
use Rattle.chaos_packet.specs.Opcode.{kind_of}
use Rattle.chaos_packet.specs.Packet.{PacketView}
use Rattle.chaos_conn.specs.State.{is_inactive}
use Rattle.chaos_conn.specs.View.{ConnView}
use Rattle.chaos_conn.specs.Sending.{carries_ack}
use Rattle.chaos_conn.specs.Act.{Call}
use Rattle.chaos_conn.specs.Act.Call.{Request, TakeRequest, Deliver}
use Rattle.chaos_conn.specs.Names.{begins, is_named}
use Rattle.chaos_host.specs.declared.slot.Slot.{Slot}
use Rattle.chaos_host.specs.Slot.{is_free}
use Rattle.chaos_host.specs.View.{HostView}
use Rattle.chaos_host.specs.Deeds.{HostEvent, Deed, HostMade, IsEvent, IsDeed, FitsSlot, host_made, deed_of}
use Rattle.chaos_host.specs.Deeds.HostEvent.{Comes, Calls, Ends, Releases, Connects, Listens, Ticks}
use Rattle.chaos_host.specs.Deeds.Deed.{Nothing, Does}
use Rattle.chaos_host.proofs.Deeds.{has_deeds}
use Rattle.chaos_lab.specs.declared.side.Side.{Side}
use Rattle.chaos_lab.specs.declared.side.Side.TheVariants.{A, B}
use Rattle.chaos_lab.specs.Machine.{other}
use Rattle.chaos_lab.specs.Laboratory.{EndView}
use Rattle.chaos_lab.proofs.Lists.{begins_shorter}
use Rattle.chaos_lab.proofs.Plays.{reads_begin}
use Rattle.chaos_net.specs.Net.{Name, Story, Sent, Station, Net, NetEvent, IsOwn, CanHappen, Run, Reached, IsNew, present, goes_on, story_of, story_after, with_story, after_slot, after_deed, after_event, arrives, happens}
use Rattle.chaos_net.specs.Net.NetEvent.{At, Arrives}
use Rattle.chaos_net.specs.Lasting.{LastsAs}
use Rattle.chaos_net.specs.Played.{IsSlot, IsSide, HasPeer, ArePlayed}
use Rattle.chaos_net.proofs.Lists.{some_eq}
use Rattle.chaos_net.proofs.Holding.{name_eq, twice, end_written}
use Rattle.chaos_net.proofs.Moves.{CanMove, moves}
use Rattle.chaos_net.proofs.Next.{look_own, look_other}
use Rattle.chaos_net.proofs.Stories.{kept_peer}
use Rattle.chaos_net.proofs.Goes.{IsArrival, GoingOn, arrived}
use Rattle.chaos_net.proofs.Steps.{not_begins}
use Rattle.chaos_net.proofs.Lasting.{event_lasts}
use Rattle.chaos_net.proofs.Network.{steps_are_played, start_is_played}
use Rattle.chaos_sealed_net.proofs.Deeds.{Hands, DeedHands, own_hands, packet_hands}
use Rattle.chaos_sealed_net.proofs.Unread.{IsLonely, IsOpener, AreOpeners}

-- ---- what a deed makes of the story of a connection that was asked

-- the story went on by a call
record GoesOnBy (own : Station) (P : PacketView → Type 0) (from : Option Name) (c : Name) (t : Story) : Type 0 where
  story : Story
  there : own.story c ≡ Some story
  call : Call
  after : t ≡ goes_on story call from
  goes : begins call ≡ false
  hands : Hands P call
  present : own.turn c.place ≡ c.turn
  used : is_inactive story.end.conn.state ≡ false

-- a story that begins because it was asked has written nothing
begun_empty : (conn : ConnView) (call : Call) (from : Option Name) (t : Story) → begins call ≡ true
    → story_of conn call from ≡ Some t → t.asked ≡ false → t.end.written ≡ []
begun_empty conn (Request me peer contact start now) from t b is asked =
    absurd (false≢true (sym asked ∙ ap (λ (z : Story). z.asked) (sym (some_eq is))))
begun_empty conn (TakeRequest rfc me now) from t b is asked = ap (λ (z : Story). z.end.written) (sym (some_eq is))
begun_empty conn call from t b is asked = absurd (false≢true b)

fits_free : (v : HostView) (place : ℕ) (slot : Slot) (call : Call) → begins call ≡ true → FitsSlot v place slot call
    → is_free slot ≡ true
fits_free v place slot (Request me peer contact start now) b h = h.0
fits_free v place slot (TakeRequest rfc me now) b h = h.0
fits_free v place slot call b h = absurd (false≢true b)

module _ (own : Station) (P : PacketView → Type 0) (from : Option Name) (c : Name) (t : Story) where
  -- it stays, it begins and has written nothing, or it goes on
  abbrev Became : Type 0
  Became = (own.story c ≡ Some t) ⊎ ((t.end.written ≡ []) ⊎ GoesOnBy own P from c t)

  slot_became : (place : ℕ) (call : Call) (slot : Slot) → IsSlot own place slot → FitsSlot own.host place slot call
      → Hands P call → c ≡ present own place → story_after (own.story c) slot.conn call from ≡ Some t → t.asked ≡ false
      → (b : Bool) → begins call ≡ b → Became
  slot_became place call slot h fits hands same is asked true b =
      let none : own.story c ≡ None = ap own.story same ∙ h.free (fits_free own.host place slot call b fits) in
      inr
      (inl
      (begun_empty slot.conn call from t b (sym (ap (λ o. story_after o slot.conn call from) none) ∙ is) asked))
  slot_became place call slot h fits hands same is asked false b =
      let used = not_begins own.host place slot call b fits in
      let u = h.used used in
      let there : own.story c ≡ Some u.0 = ap own.story same ∙ u.1 in
      inr
      (inr
      (record {
        story = u.0;
        there = there;
        call = call;
        after = sym (some_eq (sym (ap (λ o. story_after o slot.conn call from) there) ∙ is));
        goes = b;
        hands = hands;
        present = ap (λ (z : Name). own.turn z.place) same ∙ sym (ap (λ (z : Name). z.turn) same);
        used = ap (λ v. is_inactive v.state) u.2 ∙ used;
      }))

  became : (d : Deed) (made : HostMade)
      → ((place : ℕ) (slot : Slot) → slice_get own.host.slots place ≡ Some slot → IsSlot own place slot)
      → IsDeed own.host d made → DeedHands P d → (after_deed own d from).story c ≡ Some t → t.asked ≡ false → Became
  became Nothing made slots k hands is asked = inl is
  became (Does place call) made slots k hands is asked =
      let c0 : Name = present own place in
      let next : Option Story = story_after (own.story c0) k.slot.conn call from in
      let after : with_story own.story c0 next c ≡ Some t =
      sym (ap (λ o. (after_slot own place call from o).story c) k.there) ∙ is in
      ⊎_elim
      (λ (same : c ≡ c0).
      let story : story_after (own.story c) k.slot.conn call from ≡ Some t =
      ap (λ z. story_after (own.story z) k.slot.conn call from) same
      ∙ sym (look_own own.story c0 next)
      ∙ ap (with_story own.story c0 next) (sym same)
      ∙ after in
      slot_became place call k.slot (slots place k.slot k.there) k.fits hands same story asked (begins call) refl)
      (λ (apart : c ≡ c0 → ⊥). inl (sym (look_other own.story c0 next c apart) ∙ after))
      (name_eq c c0)

-- ---- one that has written nothing is lonely

none : (xs : List ItemView) → length xs ≤ 0 → xs ≡ []
none [] h = refl
none (x ∷ xs) h = absurd (omega (arith, h))

lonely_at_first : (n : Net) (x : Side) (c : Name) (t : Story) → ArePlayed n → (n x).story c ≡ Some t → t.asked ≡ false
    → t.end.written ≡ [] → IsLonely t.end
lonely_at_first n x c t h there asked empty =
    by t.peer refl
    (subst (HasPeer (n (other x)) c t t.peer) asked ((h x).station.stories c t there).peer)
  where
    by : (peer : Option Name) → t.peer ≡ peer → HasPeer (n (other x)) c t peer false → IsLonely t.end
    by None is k = absurd (false≢true (k.0))
    by (Some asker) is k =
        let y = other x in
        let pair = (h y).pairs asker c k.0 k.1 k.2 in
        let here : (n (other y)).story c ≡ Some t = ap (λ z. (n z).story c) (twice x) ∙ there in
        let ends = pair.1.taken t here (asked, is) in
        let begins = reads_begin pair.0 B pair.1.machine in
        let shorter = begins_shorter pair.0.a.read pair.0.b.written begins in
        let written = ap length (end_written B t.end pair.0.b ends ∙ empty) in
        record {
          lab = pair.0;
          machine = pair.1.machine;
          ends = ends;
          unread = none pair.0.a.read (omega (arith, shorter, written));
        }

-- ---- a lonely one that goes on

moved_lonely : (s : Story) (call : Call) (from : Option Name) (alone : IsLonely s.end) → begins call ≡ false
    → CanMove alone.lab B s.end call → IsLonely (goes_on s call from).end
moved_lonely s call from alone b can =
    let m = moves alone.lab B s.end call alone.machine alone.ends b can in
    record {
      lab = m.lab;
      machine = m.machine;
      ends = m.ends;
      unread = ap (λ (e : EndView). e.read) m.rest ∙ alone.unread;
    }

-- it goes on alone, or what comes is of the connection that asked, which it has opened
record IsSentByAsker (far : Station) (c : Name) (s : Story) : Type 0 where
  name : Name
  story : Story
  peer : s.peer ≡ Some name
  there : far.story name ≡ Some story
  to : story.peer ≡ Some c

module _ (x : Side) (own far : Station) (c : Name) (s : Story) (from : Option Name) where
  lonely_on : (call : Call) → GoingOn x own far c s call from → s.asked ≡ false → IsLonely s.end
      → IsSentByAsker far c s ⊎ IsLonely (goes_on s call from).end
  lonely_on (Deliver p now) g asked alone =
      by (carries_ack (kind_of p.op)) (is_named s.end.conn p) refl refl
    where
      by : (a b : Bool) → carries_ack (kind_of p.op) ≡ a → is_named s.end.conn p ≡ b
          → IsSentByAsker far c s ⊎ IsLonely (goes_on s (Deliver p now) from).end
      by true true ack named =
          let a = arrived x own far c s (Deliver p now) from g p now refl ack named in
          inl (record { name = a.name; story = a.story; peer = (a.takes asked).1; there = a.known; to = a.to })
      by true false ack named =
          inr
          (moved_lonely s (Deliver p now) from alone g.goes (λ yes it. absurd (false≢true (sym named ∙ it))))
      by false b ack named =
          inr
          (moved_lonely s (Deliver p now) from alone g.goes (λ yes it. absurd (false≢true (sym ack ∙ yes))))
  lonely_on call g asked alone = inr (moved_lonely s call from alone g.goes tt)

-- ---- an event

is_event : (event : HostEvent) → IsOwn event → IsEvent event
is_event (Comes p now) h = absurd h
is_event (Connects peer contact start now) h = tt
is_event (Calls id call) h = h
is_event (Ends id call) h = h
is_event (Releases id) h = tt
is_event (Listens contact) h = tt
is_event (Ticks place now) h = tt

-- at the host of a connection: the other station stays
own_openers : (n m : Net) (x : Side) (event : HostEvent) (from : Option Name) → ArePlayed n → ArePlayed m
    → AreOpeners n → m (other x) ≡ n (other x)
    → ((c : Name) → (m x).story c ≡ (after_deed (n x) (deed_of (n x).host event) from).story c) → IsEvent event
    → DeedHands (λ p. IsArrival x (n x) (n (other x)) p from) (deed_of (n x).host event)
    → (c : Name) (t : Story) → (m x).story c ≡ Some t → t.asked ≡ false → IsOpener m x c t ⊎ IsLonely t.end
own_openers n m x event from h k o far after is hands c t there asked =
    by
    (became own P from c t (deed_of own.host event) (host_made own.host event) (h x).station.slots
    (has_deeds own.host event (h x).station.host is) hands (sym (after c) ∙ there) asked)
  where
    own : Station
    own = n x

    P : PacketView → Type 0
    P p = IsArrival x (n x) (n (other x)) p from

    stays : (s : Story) → IsOpener n x c s → ((peer : Name) → s.peer ≡ Some peer → t.peer ≡ Some peer)
        → IsOpener m x c t
    stays s one peer = record {
      name = one.name;
      story = one.story;
      peer = peer one.name one.peer;
      there = ap (λ (st : Station). st.story one.name) far ∙ one.there;
      to = one.to;
    }

    goes : (g : GoesOnBy own P from c t) → IsOpener m x c t ⊎ IsLonely t.end
    goes g =
        let s : Story = g.story in
        let same : s.asked ≡ false = ap (λ (z : Story). z.asked) (sym g.after) ∙ asked in
        let peer : (peer : Name) → s.peer ≡ Some peer → t.peer ≡ Some peer =
        λ peer is. ap (λ (z : Story). z.peer) g.after ∙ kept_peer s g.call from peer is ∙ is in
        ⊎_elim (λ (one : IsOpener n x c s). inl (stays s one peer))
        (λ (alone : IsLonely s.end).
        let on : GoingOn x own (n (other x)) c s g.call from = record {
          side = h x;
          back = subst (λ y. IsSide (other x) (n (other x)) (n y)) (twice x) (h (other x));
          there = g.there;
          present = g.present;
          used = g.used;
          goes = g.goes;
          arrival = λ p now is. subst (Hands P) is g.hands;
        } in
        ⊎_elim
        (λ (one : IsSentByAsker (n (other x)) c s).
        inl
        (stays s
        (record { name = one.name; story = one.story; peer = one.peer; there = one.there; to = one.to }) peer))
        (λ (alone : IsLonely (goes_on s g.call from).end).
        inr (subst (λ (z : Story). IsLonely z.end) (sym g.after) alone))
        (lonely_on x own (n (other x)) c s from g.call on same alone))
        (o x c s g.there same)

    by : Became own P from c t → IsOpener m x c t ⊎ IsLonely t.end
    by (inl same) =
        ⊎_elim (λ (one : IsOpener n x c t). inl (stays t one (λ peer is. is)))
        (λ (alone : IsLonely t.end). inr alone)
        (o x c t same asked)
    by (inr (inl empty)) = inr (lonely_at_first m x c t k there asked empty)
    by (inr (inr g)) = goes g

-- at the other host: this station stays
far_openers : (n m : Net) (x : Side) → AreOpeners n → m x ≡ n x
    → ((name : Name) (s : Story) → (n (other x)).story name ≡ Some s
    → (t : Story) × ((m (other x)).story name ≡ Some t) × LastsAs s t)
    → (c : Name) (t : Story) → (m x).story c ≡ Some t → t.asked ≡ false → IsOpener m x c t ⊎ IsLonely t.end
far_openers n m x o same lasts c t there asked =
    ⊎_elim
    (λ (one : IsOpener n x c t).
    let l = lasts one.name one.story one.there in
    inl (record { name = one.name; story = l.0; peer = one.peer; there = l.1; to = l.2.peer c one.to }))
    (λ (alone : IsLonely t.end). inr alone)
    (o x c t (sym (ap (λ (st : Station). st.story c) same) ∙ there) asked)

event_openers : (n : Net) (x : Side) (event : HostEvent) (from : Option Name) → ArePlayed n
    → ArePlayed (after_event n x event from) → AreOpeners n → IsEvent event
    → DeedHands (λ p. IsArrival x (n x) (n (other x)) p from) (deed_of (n x).host event)
    → AreOpeners (after_event n x event from)
event_openers n A event from h k o is hands = both
  where
    m : Net
    m = after_event n A event from

    both : AreOpeners (after_event n A event from)
    both A = own_openers n m A event from h k o refl (λ c. refl) is hands
    both B = far_openers n m B o refl (λ name s there. event_lasts n A event from A name s there)
event_openers n B event from h k o is hands = both
  where
    m : Net
    m = after_event n B event from

    both : AreOpeners (after_event n B event from)
    both A = far_openers n m A o refl (λ name s there. event_lasts n B event from B name s there)
    both B = own_openers n m B event from h k o refl (λ c. refl) is hands

arrives_openers : (n : Net) (x : Side) (number now : ℕ) (q : Option Sent) → slice_get (n (other x)).sent number ≡ q
    → CanHappen n (Arrives x number now) → ArePlayed n → ArePlayed (arrives n x now q) → AreOpeners n
    → AreOpeners (arrives n x now q)
arrives_openers n x number now None is can h k o = o
arrives_openers n x number now (Some q) is can h k o =
    event_openers n x (Comes q.packet now) q.by h k o tt
    (packet_hands (λ p. IsArrival x (n x) (n (other x)) p q.by) (n x).host q.packet now
    (record { number = number; packet = q; there = is; is = refl; by = refl; fresh = can q is }))

step_openers : (n : Net) (event : NetEvent) → CanHappen n event → ArePlayed n → AreOpeners n
    → AreOpeners (happens n event)
step_openers n (At x event) can h o =
    event_openers n x event None h (steps_are_played n (At x event) h can) o (is_event event can)
    (own_hands (λ p. IsArrival x (n x) (n (other x)) p None) (n x).host event can)
step_openers n (Arrives x number now) can h o =
    arrives_openers n x number now (slice_get (n (other x)).sent number) refl can h
    (steps_are_played n (Arrives x number now) h can) o

-- ---- every run

runs_openers : (events : List NetEvent) (n m : Net) → ArePlayed n → AreOpeners n → Run n events m → AreOpeners m
runs_openers [] n m h o run = subst AreOpeners (sym run) o
runs_openers (event ∷ events) n m h o run =
    runs_openers events (happens n event) m (steps_are_played n event h run.0) (step_openers n event run.0 h o) run.1

new_openers : (n : Net) → ((x : Side) → IsNew (n x)) → AreOpeners n
new_openers n new x c s there asked =
    let missing : None ≡ Some s = sym (ap (λ (st : Station). st.story c) (new x).is) ∙ there in absurd (cc)

pub reached_openers : (n : Net) → Reached n → AreOpeners n
reached_openers n r =
    runs_openers r.events r.start n (start_is_played r.start r.a r.b) (new_openers r.start new) r.run
  where
    new : (x : Side) → IsNew (r.start x)
    new A = r.a
    new B = r.b
