-- A connection in use does a call that doesn't begin it: what comes to it, and the laboratories that go on to play it.
use Rattle.std.proofs.Common.{◌≡◌, ℕ, length, Bool, true, false, Option, Some, None, option_map, refl, sym, ap, ◌∙◌, subst, inl, inr, ◌⊎◌, ⊎_elim, arith}
use Rattle.std.specs.Prelude.{slice_get}
use Rattle.std.proofs.lemmas.Bool.{false≢true, cases_Bool}
use Rattle.chaos_packet.specs.Opcode.{kind_of}
use Rattle.chaos_packet.specs.Packet.{PacketView}
use Rattle.chaos_conn.specs.State.{is_inactive, is_live}
use Rattle.chaos_conn.specs.Sending.{carries_ack}
use Rattle.chaos_conn.specs.declared.state.State.TheVariants as st
use Rattle.chaos_conn.specs.Act.{Call}
use Rattle.chaos_conn.specs.Act.Call.{Request, TakeRequest, Accept, Answer, Reject, Deliver, Write, Unc, Read, FinishRead, Announce, Close, Tick}
use Rattle.chaos_conn.specs.Names.{begins, is_delivery, is_named, renamed_in, known_as}
use Rattle.chaos_lab.specs.declared.side.Side.{Side}
use Rattle.chaos_lab.specs.declared.side.Side.TheVariants.{A, B}
use Rattle.chaos_lab.specs.Machine.{other}
use Rattle.chaos_lab.specs.Laboratory.{LabView, EndView, lab_end}
use Rattle.chaos_lab.specs.Tied.{HasMachine}
use Rattle.chaos_lab.specs.Plays.{names_of, IsCopyTo}
use Rattle.chaos_lab.proofs.Plays.{asking_waits, knows_sides}
use Rattle.chaos_net.specs.Net.{Name, Story, Sent, Station, IsFreshFor, index_of}
use Rattle.chaos_net.specs.Played.{plain, IsEnd, IsLinked, Takes, IsPlayed, IsNamed, HasPeer, IsStory, IsSentOf, IsSide}
use Rattle.chaos_net.proofs.Lists.{some_eq}
use Rattle.chaos_net.proofs.Moves.{Moved, CanMove, moves}
use Rattle.chaos_net.proofs.Holding.{end_written, twice}
use Rattle.chaos_net.proofs.Pairs.{copy_to, linked_to}
use Rattle.chaos_net.proofs.Stories.{same_index, named_for, named_from}

-- ---- what comes

-- freshness, of two stations
abbrev pub IsFreshAt : Side → Station → Station → Sent → Type 0
IsFreshAt x own far q =
    carries_ack (kind_of q.packet.op) ≡ true →
    (c d : Name) (s t : Story) → q.by ≡ Some c → far.story c ≡ Some s → own.turn d.place ≡ d.turn → own.story d ≡ Some t
    → q.packet.dst_index ≡ index_of d → IsFreshFor x q c d s t

-- the other host sent this packet, and it is fresh
pub record IsArrival (x : Side) (own far : Station) (p : PacketView) (from : Option Name) : Type 0 where
  pub number : ℕ
  pub packet : Sent
  pub there : slice_get far.sent number ≡ Some packet
  pub is : packet.packet ≡ p
  pub by : packet.by ≡ from
  pub fresh : IsFreshAt x own far packet

pub record GoingOn (x : Side) (own far : Station) (c : Name) (s : Story) (call : Call) (from : Option Name) : Type 0
  where
    pub side : IsSide x own far
    pub back : IsSide (other x) far own
    pub there : own.story c ≡ Some s
    pub present : own.turn c.place ≡ c.turn
    pub used : is_inactive s.end.conn.state ≡ false
    pub goes : begins call ≡ false
    pub arrival : (p : PacketView) (now : ℕ) → call ≡ Deliver p now → IsArrival x own far p from

-- a packet with an acknowledgement that is under the names of c was sent by its peer, or by one that took its request
pub record Arrived (x : Side) (own far : Station) (c : Name) (s : Story) (p : PacketView) (from : Option Name) : Type 0
  where
    pub number : ℕ
    pub packet : Sent
    pub there : slice_get far.sent number ≡ Some packet
    pub is : packet.packet ≡ p
    pub name : Name
    pub story : Story
    pub known : far.story name ≡ Some story
    pub by : packet.by ≡ Some name
    pub from_is : from ≡ Some name
    pub to : story.peer ≡ Some c
    pub src : p.src_index ≡ index_of name
    pub peer : (e : Name) → s.peer ≡ Some e → name ≡ e
    pub asks : s.asked ≡ true → story.asked ≡ false
    pub takes : s.asked ≡ false → (story.asked ≡ true) × (s.peer ≡ Some name)
    pub fresh : IsFreshFor x packet name c story s

has_story : (far : Station) (name : Name) (s : Story) (peer : Name) (asked : Bool)
    → HasPeer far name s (Some peer) asked → (t : Story) × (far.story peer ≡ Some t)
has_story far name s peer false h = (h.0, h.1)
has_story far name s peer true h = (h.0, h.1)

peer_at : (far : Station) (name : Name) (s : Story) (peer : Option Name) → s.peer ≡ peer
    → HasPeer far name s s.peer s.asked → HasPeer far name s peer s.asked
peer_at far name s peer is h = subst (λ o. HasPeer far name s o s.asked) is h

-- which of both asked
roles : (own : Station) (name c : Name) (t s : Story) (asked : Bool) → own.story c ≡ Some s → t.asked ≡ asked
    → HasPeer own name t (Some c) asked
    → (s.asked ≡ true → t.asked ≡ false) × (s.asked ≡ false → (t.asked ≡ true) × (s.peer ≡ Some name))
roles own name c t s true there is h =
    let same : h.0 ≡ s = some_eq (sym h.1 ∙ there) in
    (λ asked. absurd (false≢true (sym h.2 ∙ ap (λ z. z.asked) same ∙ asked)), λ _. (is, ap (λ z. z.peer) (sym same) ∙ h.3))
roles own name c t s false there is h =
    let same : h.0 ≡ s = some_eq (sym h.1 ∙ there) in
    (λ _. is, λ taken. absurd (false≢true (sym taken ∙ ap (λ z. z.asked) (sym same) ∙ h.2)))

pub arrived : (x : Side) (own far : Station) (c : Name) (s : Story) (call : Call) (from : Option Name)
    → GoingOn x own far c s call from → (p : PacketView) (now : ℕ) → call ≡ Deliver p now
    → carries_ack (kind_of p.op) ≡ true → is_named s.end.conn p ≡ true → Arrived x own far c s p from
arrived x own far c s call from g p now is ack named =
    by (g.arrival p now is).packet.by refl
    (g.back.station.sent (g.arrival p now is).number (g.arrival p now is).packet (g.arrival p now is).there)
  where
    by : (o : Option Name) → (g.arrival p now is).packet.by ≡ o → IsSentOf far (g.arrival p now is).packet.packet o
        → Arrived x own far c s p from
    by None q h =
        absurd
        (false≢true (sym h.0 ∙ ap (λ (z : PacketView). carries_ack (kind_of z.op)) (g.arrival p now is).is ∙ ack))
    by (Some name) q h =
        let a = g.arrival p now is in
        let acks : carries_ack (kind_of a.packet.packet.op) ≡ true =
        ap (λ (z : PacketView). carries_ack (kind_of z.op)) a.is ∙ ack in
        let m = h.ack acks in
        let mine : IsStory own far c s = g.side.station.stories c s g.there in
        let named_c = mine.named g.used in
        let theirs : IsStory far own name h.story = g.back.station.stories name h.story h.there in
        let dst : p.dst_index ≡ index_of c = named_for own.host.address c s p named_c named in
        let fresh : IsFreshFor x a.packet name c h.story s =
        a.fresh acks name c h.story s q h.there g.present g.there
        (ap (λ (z : PacketView). z.dst_index) a.is ∙ dst) in
        let peer = peer_at own name h.story (Some m.0) m.1 theirs.peer in
        let meant = has_story own name h.story m.0 h.story.asked peer in
        let same : c ≡ m.0 =
        same_index c m.0 mine.place (g.side.station.stories m.0 meant.0 meant.1).place
        (sym dst ∙ ap (λ (z : PacketView). z.dst_index) (sym a.is) ∙ m.2) (fresh.meant m.0 m.1) in
        let to : h.story.peer ≡ Some c = m.1 ∙ ap Some (sym same) in
        let src : p.src_index ≡ index_of name = ap (λ (z : PacketView). z.src_index) (sym a.is) ∙ h.src_index in
        let both =
        roles own name c h.story s h.story.asked g.there refl (peer_at own name h.story (Some c) to theirs.peer) in
        record {
          number = a.number;
          packet = a.packet;
          there = a.there;
          is = a.is;
          name = name;
          story = h.story;
          known = h.there;
          by = q;
          from_is = sym a.by ∙ q;
          to = to;
          src = src;
          peer = λ e known.
              let theirs_e = has_story far c s e s.asked (peer_at far c s (Some e) known mine.peer) in
              same_index name e theirs.place (g.back.station.stories e theirs_e.0 theirs_e.1).place
              (sym src ∙ named_from own.host.address c e s p named_c known named) (fresh.peer e known);
          asks = both.0;
          takes = both.1;
          fresh = fresh;
        }

-- ---- what a laboratory can play

pub deliver_or_not : (call : Call)
    → ((p : PacketView) × (now : ℕ) × (call ≡ Deliver p now)) ⊎ (is_delivery call ≡ false)
deliver_or_not (Deliver p now) = inl (p, now, refl)
deliver_or_not (Request me peer contact start now) = inr refl
deliver_or_not (TakeRequest rfc me now) = inr refl
deliver_or_not (Accept start now) = inr refl
deliver_or_not (Answer bytes) = inr refl
deliver_or_not (Reject text) = inr refl
deliver_or_not (Write op bytes now) = inr refl
deliver_or_not (Unc bytes) = inr refl
deliver_or_not Read = inr refl
deliver_or_not FinishRead = inr refl
deliver_or_not (Announce window) = inr refl
deliver_or_not (Close text) = inr refl
deliver_or_not (Tick now) = inr refl

can_by : (l : LabView) (y : Side) (e : EndView) (call : Call)
    → ((p : PacketView) (now : ℕ) → call ≡ Deliver p now → carries_ack (kind_of p.op) ≡ true → is_named e.conn p ≡ true
    → IsCopyTo l y (renamed_in (names_of y) p))
    → CanMove l y e call
can_by l y e (Deliver p now) f = f p now refl
can_by l y e (Request me peer contact start now) f = tt
can_by l y e (TakeRequest rfc me now) f = tt
can_by l y e (Accept start now) f = tt
can_by l y e (Answer bytes) f = tt
can_by l y e (Reject text) f = tt
can_by l y e (Write op bytes now) f = tt
can_by l y e (Unc bytes) f = tt
can_by l y e Read f = tt
can_by l y e FinishRead f = tt
can_by l y e (Announce window) f = tt
can_by l y e (Close text) f = tt
can_by l y e (Tick now) f = tt

-- the end that asked, where what comes is of this taker
pub can_a : (x : Side) (own far : Station) (c taker : Name) (s : Story) (call : Call) (from : Option Name) (l : LabView)
    → GoingOn x own far c s call from → s.asked ≡ true
    → IsPlayed x c taker s (far.story taker) own.sent far.sent far.host.config l → IsLinked s.peer taker
    → ((p : PacketView) (now : ℕ) → call ≡ Deliver p now → carries_ack (kind_of p.op) ≡ true
    → is_named s.end.conn p ≡ true → from ≡ Some taker)
    → CanMove l A s.end call
can_a x own far c taker s call from l g asked pl link sender = can_by l A s.end call copy
  where
    copy : (p : PacketView) (now : ℕ) → call ≡ Deliver p now → carries_ack (kind_of p.op) ≡ true
        → is_named s.end.conn p ≡ true → IsCopyTo l A (renamed_in (names_of A) p)
    copy p now is ack named =
        let a = arrived x own far c s call from g p now is ack named in
        let same : a.name ≡ taker = some_eq (sym a.from_is ∙ sender p now is ack named) in
        let story : far.story taker ≡ Some a.story = ap far.story (sym same) ∙ a.known in
        let takes : Takes (Some a.story) c = (a.asks asked, a.to) in
        let acks : carries_ack (kind_of a.packet.packet.op) ≡ true =
        ap (λ (z : PacketView). carries_ack (kind_of z.op)) a.is ∙ ack in
        let in_lab =
        pl.sent_b a.number a.packet a.there (a.by ∙ ap Some same) acks (subst (λ o. Takes o c) (sym story) takes)
        link in
        let wrote_a : length l.a.written ≡ length s.end.written =
        ap length (end_written A s.end l.a (pl.linked link)) in
        let wrote_b : length l.b.written ≡ length a.story.end.written =
        ap length (end_written B a.story.end l.b (pl.taken a.story story takes)) in
        let len_b : a.packet.lengths (other x) a.name ≡ a.packet.lengths (other x) taker =
        ap (a.packet.lengths (other x)) same in
        subst (λ (z : PacketView). IsCopyTo l A (renamed_in (names_of A) z)) a.is
        (copy_to l A a.packet.packet (a.packet.lengths x c) (a.packet.lengths (other x) taker) in_lab
        (omega (arith, wrote_a, a.fresh.receiver)) (omega (arith, wrote_b, len_b, a.fresh.sender)))

-- the end that was asked
pub can_b : (x : Side) (own far : Station) (c asker : Name) (s r : Story) (call : Call) (from : Option Name)
    (l : LabView)
    → GoingOn x own far c s call from → s.asked ≡ false → s.peer ≡ Some asker → far.story asker ≡ Some r
    → IsPlayed (other x) asker c r (Some s) far.sent own.sent own.host.config l → CanMove l B s.end call
can_b x own far c asker s r call from l g asked peer there pl = can_by l B s.end call copy
  where
    copy : (p : PacketView) (now : ℕ) → call ≡ Deliver p now → carries_ack (kind_of p.op) ≡ true
        → is_named s.end.conn p ≡ true → IsCopyTo l B (renamed_in (names_of B) p)
    copy p now is ack named =
        let a = arrived x own far c s call from g p now is ack named in
        let t = a.takes asked in
        let same : a.name ≡ asker = some_eq (sym t.1 ∙ peer) in
        let story : a.story ≡ r = some_eq (sym a.known ∙ ap far.story same ∙ there) in
        let to : r.peer ≡ Some c = ap (λ z. z.peer) (sym story) ∙ a.to in
        let acks : carries_ack (kind_of a.packet.packet.op) ≡ true =
        ap (λ (z : PacketView). carries_ack (kind_of z.op)) a.is ∙ ack in
        let in_lab = pl.sent_a a.number a.packet a.there (a.by ∙ ap Some same) acks to in
        let wrote_a : length l.a.written ≡ length r.end.written =
        ap length (end_written A r.end l.a (pl.linked (linked_to r.peer c to))) in
        let wrote_b : length l.b.written ≡ length s.end.written =
        ap length (end_written B s.end l.b (pl.taken s refl (asked, peer))) in
        let len_r : length a.story.end.written ≡ length r.end.written =
        ap (λ (z : Story). length z.end.written) story in
        let len_a : a.packet.lengths (other x) a.name ≡ a.packet.lengths (other x) asker =
        ap (a.packet.lengths (other x)) same in
        let len_b : a.packet.lengths (other (other x)) c ≡ a.packet.lengths x c =
        ap (λ y. a.packet.lengths y c) (twice x) in
        subst (λ (z : PacketView). IsCopyTo l B (renamed_in (names_of B) z)) a.is
        (copy_to l B a.packet.packet (a.packet.lengths (other x) asker) (a.packet.lengths (other (other x)) c) in_lab
        (omega (arith, wrote_a, len_r, len_a, a.fresh.sender)) (omega (arith, wrote_b, len_b, a.fresh.receiver)))

-- ---- the asker of one that was asked

pub record HasAsker (far : Station) (s : Story) : Type 0 where
  pub asker : Name
  pub peer : s.peer ≡ Some asker
  pub story : Story
  pub there : far.story asker ≡ Some story
  pub asked : story.asked ≡ true

pub asker_of : (far : Station) (c : Name) (s : Story) → s.asked ≡ false → HasPeer far c s s.peer s.asked
    → HasAsker far s
asker_of far c s asked h = by s.peer refl
  where
    by : (o : Option Name) → s.peer ≡ o → HasAsker far s
    by None is =
        let k : HasPeer far c s None s.asked = subst (λ o. HasPeer far c s o s.asked) is h in absurd
        (false≢true (sym asked ∙ k.0))
    by (Some peer) is =
        let k : HasPeer far c s (Some peer) false = subst (λ (z : Option Name × Bool). HasPeer far c s z.0 z.1)
        (λ j. (is j, asked j)) h in record { asker = peer; peer = is; story = k.0; there = k.1; asked = k.2 }

-- the pair of one that was asked
pub record AskedPair (x : Side) (own far : Station) (c : Name) (s : Story) (a : HasAsker far s) : Type 0 where
  pub lab : LabView
  pub pair : IsPlayed (other x) a.asker c a.story (Some s) far.sent own.sent own.host.config lab

pub asked_pair : (x : Side) (own far : Station) (c : Name) (s : Story) → IsSide (other x) far own → own.story c ≡ Some s
    → (a : HasAsker far s) → AskedPair x own far c s a
asked_pair x own far c s back there a =
    let p = back.pairs a.asker c a.story a.there a.asked in
    record { lab = p.0; pair = subst (λ o. IsPlayed (other x) a.asker c a.story o far.sent own.sent own.host.config p.0) there p.1 }

-- ---- a taker that what comes is of

pub record Chosen (x : Side) (own far : Station) (c : Name) (s : Story) (call : Call) (from : Option Name) : Type 0
  where
    pub taker : Name
    pub link : IsLinked s.peer taker
    pub sender : (p : PacketView) (now : ℕ) → call ≡ Deliver p now → carries_ack (kind_of p.op) ≡ true
        → is_named s.end.conn p ≡ true → from ≡ Some taker

deliver_eq : (p q : PacketView) (m n : ℕ) → Deliver p m ≡ Deliver q n → p ≡ q
deliver_eq p q m n h = cc

pub choose : (x : Side) (own far : Station) (c : Name) (s : Story) (call : Call) (from : Option Name)
    → GoingOn x own far c s call from → Chosen x own far c s call from
choose x own far c s call from g = by s.peer refl
  where
    free : IsLinked None c → s.peer ≡ None → Chosen x own far c s call from
    free link is =
        ⊎_elim
        (λ (d : (p : PacketView) × (now : ℕ) × (call ≡ Deliver p now)).
        ⊎_elim
        (λ (ack : carries_ack (kind_of d.0.op) ≡ true).
        ⊎_elim
        (λ (named : is_named s.end.conn d.0 ≡ true).
        let a = arrived x own far c s call from g d.0 d.1 d.2 ack named in
        let r : Chosen x own far c s call from =
        record { taker = a.name; link = subst (λ o. IsLinked o a.name) (sym is) tt; sender = λ p now q ack named. a.from_is } in r)
        (λ (foreign : is_named s.end.conn d.0 ≡ false).
        record { taker = c; link = subst (λ o. IsLinked o c) (sym is) tt; sender = λ p now q ack named. absurd (false≢true (sym foreign ∙ ap (is_named s.end.conn) (deliver_eq d.0 p d.1 now (sym d.2 ∙ q)) ∙ named)) })
        (cases_Bool (is_named s.end.conn d.0)))
        (λ (bare : carries_ack (kind_of d.0.op) ≡ false).
        record { taker = c; link = subst (λ o. IsLinked o c) (sym is) tt; sender = λ p now q ack named. absurd (false≢true (sym bare ∙ ap (λ (z : PacketView). carries_ack (kind_of z.op)) (deliver_eq d.0 p d.1 now (sym d.2 ∙ q)) ∙ ack)) })
        (cases_Bool (carries_ack (kind_of d.0.op))))
        (λ (n : is_delivery call ≡ false).
        record { taker = c; link = subst (λ o. IsLinked o c) (sym is) tt; sender = λ p now q ack named. absurd (false≢true (sym n ∙ ap is_delivery q)) })
        (deliver_or_not call)

    by : (o : Option Name) → s.peer ≡ o → Chosen x own far c s call from
    by (Some peer) is = record {
      taker = peer;
      link = subst (λ o. IsLinked o peer) (sym is) refl;
      sender =
          λ p now q ack named. let a = arrived x own far c s call from g p now q ack named in a.from_is
          ∙ ap Some (a.peer peer is);
    }
    by None is = free tt is

-- ---- the move of the connection itself

pub record Main (s : Story) (call : Call) : Type 0 where
  pub y : Side
  pub lab : LabView
  pub machine : HasMachine lab
  pub ends : IsEnd y s.end (lab_end lab y)
  pub move : Moved lab y s.end call
  pub asker : y ≡ A → s.asked ≡ true
  pub taker : y ≡ B → s.asked ≡ false

pub main_move : (x : Side) (own far : Station) (c : Name) (s : Story) (call : Call) (from : Option Name)
    → GoingOn x own far c s call from → Main s call
main_move x own far c s call from g = by s.asked refl
  where
    by : (b : Bool) → s.asked ≡ b → Main s call
    by true asked =
        let h = choose x own far c s call from g in
        let p = g.side.pairs c h.taker s g.there asked in
        record {
          y = A;
          lab = p.0;
          machine = p.1.machine;
          ends = p.1.linked h.link;
          move =
              moves p.0 A s.end call p.1.machine (p.1.linked h.link) g.goes
              (can_a x own far c h.taker s call from p.0 g asked p.1 h.link h.sender);
          asker = λ _. asked;
          taker = λ is. absurd (cc);
        }
    by false asked =
        let a = asker_of far c s asked (g.side.station.stories c s g.there).peer in
        let p = asked_pair x own far c s g.back g.there a in
        let ends = p.pair.taken s refl (asked, a.peer) in
        record {
          y = B;
          lab = p.lab;
          machine = p.pair.machine;
          ends = ends;
          move =
              moves p.lab B s.end call p.pair.machine ends g.goes
              (can_b x own far c a.asker s a.story call from p.lab g asked a.peer a.there p.pair);
          asker = λ is. absurd (cc);
          taker = λ _. asked;
        }

-- ---- one that is opened had no peer

known_some : (o : Option Name) (peer : Name) → o ≡ Some peer → known_as 1 (option_map index_of o) ≡ Some 1
known_some o peer is = ap (λ z. known_as 1 (option_map index_of z)) is

pub unopened : (x : Side) (own far : Station) (c : Name) (s : Story) (call : Call) (from : Option Name)
    → GoingOn x own far c s call from → s.end.conn.state ≡ st.RfcSent → (s.peer ≡ None) × (s.asked ≡ true)
unopened x own far c s call from g asks = by (main_move x own far c s call from g)
  where
    named : IsNamed own.host.address c s
    named = (g.side.station.stories c s g.there).named g.used

    none : (lab : LabView) → HasMachine lab → lab.a ≡ plain A s.end → (o : Option Name) → s.peer ≡ o → s.peer ≡ None
    none lab h is None q = q
    none lab h is (Some peer) q =
        let w = (asking_waits lab h (ap (λ f. f.conn.state) is ∙ asks)).index in
        let known : lab.a.conn.peer_index ≡ Some 1 =
        ap (λ f. f.conn.peer_index) is ∙ ap (known_as 1) named.peer_index ∙ known_some s.peer peer q in
        let no : None ≡ Some 1 = sym w ∙ known in absurd (cc)

    at : (y : Side) (lab : LabView) → HasMachine lab → IsEnd y s.end (lab_end lab y) → (y ≡ A → s.asked ≡ true)
        → (s.peer ≡ None) × (s.asked ≡ true)
    at y lab h (inr past) asker = absurd (false≢true (sym past.over.dead ∙ ap is_live asks))
    at A lab h (inl is) asker = (none lab h is s.peer refl, asker refl)
    at B lab h (inl is) asker = absurd ((knows_sides lab h).1 (ap (λ f. f.conn.state) is ∙ asks))

    by : Main s call → (s.peer ≡ None) × (s.asked ≡ true)
    by m = at m.y m.lab m.machine m.ends m.asker
