-- A connection in use has done a call that doesn't begin it: its story, what it sent, and all its pairs.
use Rattle.std.proofs.Common.{◌≡◌, ℕ, ◌≤◌, List, [], ◌∷◌, ◌++◌, length, map, Bool, true, false, if◌then◌else◌, Option, Some, None, option_map, refl, sym, ap, ◌∙◌, subst, inl, inr, ◌⊎◌, ⊎_elim, arith}
use Rattle.std.specs.Prelude.{slice_get, unwrap_or}
use Rattle.std.proofs.lemmas.Bool.{false≢true, cases_Bool}
use Rattle.chaos_packet.specs.Begins.{Begins}
use Rattle.chaos_packet.specs.Item.{ItemView}
use Rattle.chaos_packet.specs.Number.{num}
use Rattle.chaos_packet.specs.Opcode.{kind_of, is_rfc}
use Rattle.chaos_packet.specs.Packet.{PacketView, item_of}
use Rattle.chaos_conn.specs.State.{is_inactive}
use Rattle.chaos_conn.specs.Acted.{Acted}
use Rattle.chaos_conn.specs.Sending.{carries_ack}
use Rattle.chaos_conn.specs.Arriving.{act_deliver}
use Rattle.chaos_conn.specs.Act.{Call, Reply, act}
use Rattle.chaos_conn.specs.Act.Call.{Request, TakeRequest, Accept, Answer, Reject, Deliver, Write, Unc, Read, FinishRead, Announce, Close, Tick}
use Rattle.chaos_conn.specs.Names.{IsBare, IsFrom, Opens, Stays, begins, ends, is_delivery, is_named, is_opened, is_refused, renamed_acted, renamed_packet, known_as}
use Rattle.chaos_conn.proofs.Alike.{acts_alike, not_rfc}
use Rattle.chaos_conn.proofs.Foreign.{ends_are_over}
use Rattle.chaos_conn.proofs.PutNames.{puts_its_names}
use Rattle.chaos_conn.proofs.NamesStay.{names_stay, opens_or_stays}
use Rattle.chaos_host.proofs.InUse.{stays_in_use}
use Rattle.chaos_lab.specs.declared.side.Side.{Side}
use Rattle.chaos_lab.specs.declared.side.Side.TheVariants.{A}
use Rattle.chaos_lab.specs.Machine.{other}
use Rattle.chaos_lab.specs.Laboratory.{LabView, EndView, lab_end, stamp, call_at, with_read}
use Rattle.chaos_lab.specs.Tied.{HasMachine}
use Rattle.chaos_lab.specs.Plays.{names_of}
use Rattle.chaos_lab.proofs.Plays.{keeps_play, rfc_is_first, knows_sides, others_name_index}
use Rattle.chaos_lab.proofs.Lists.{begins_through}
use Rattle.chaos_net.specs.Net.{Name, Story, Sent, Station, index_of, end_of_call, goes_on, length_of, sent_by, peer_after}
use Rattle.chaos_net.specs.Played.{plain, IsEnd, IsLinked, IsParted, Takes, IsPlayed, IsNamed, HasPeer, IsStory, IsSentBy, IsSentOf, IsSide}
use Rattle.chaos_net.proofs.Lists.{some_eq, all_at, either_same}
use Rattle.chaos_net.proofs.Moves.{delivery_keeps, over_keeps}
use Rattle.chaos_net.proofs.Holding.{end_written, end_first, name_eq, linked_or_parted, twice}
use Rattle.chaos_net.proofs.Pairs.{pair_a, pair_b, pair_parted, pair_other, pair_untaken, first_stays, end_grows, linked_to, accept_keeps}
use Rattle.chaos_net.proofs.Stories.{Opening, peer_cases, kept_peer, view_of, named_on, still_used}
use Rattle.chaos_net.proofs.Next.{Lasts}
use Rattle.chaos_net.proofs.Goes.{GoingOn, Arrived, arrived, can_a, can_b, Main, main_move, unopened, deliver_or_not}

-- ---- what lasts

-- the first item stays
first_item : (xs ys : List ItemView) (item : ItemView) → Begins xs ys → slice_get xs 0 ≡ Some item
    → slice_get ys 0 ≡ Some item
first_item [] ys item b h = absurd (cc)
first_item (x ∷ xs) [] item b h = absurd (cc)
first_item (x ∷ xs) (y ∷ ys) item b h = let e : y ≡ x = cc in ap Some e ∙ h

-- the asker's end in some laboratory
pub record AskerLab (s : Story) : Type 0 where
  pub lab : LabView
  pub machine : HasMachine lab
  pub ends : IsEnd A s.end lab.a

pub asker_lab : (x : Side) (own far : Station) (c : Name) (s : Story) → IsSide x own far → own.story c ≡ Some s
    → s.asked ≡ true → AskerLab s
asker_lab x own far c s side there asked = by s.peer refl
  where
    by : (o : Option Name) → s.peer ≡ o → AskerLab s
    by None is =
        let p = side.pairs c c s there
        asked in record { lab = p.0; machine = p.1.machine; ends = p.1.linked (subst (λ o. IsLinked o c) (sym is) tt) }
    by (Some peer) is =
        let p = side.pairs c peer s there
        asked in record { lab = p.0; machine = p.1.machine; ends = p.1.linked (subst (λ o. IsLinked o peer) (sym is) refl) }

pub lasts_on : (x : Side) (own far : Station) (c : Name) (s : Story) (call : Call) (from : Option Name)
    → GoingOn x own far c s call from → Lasts s (goes_on s call from)
lasts_on x own far c s call from g = record {
  asked = refl;
  peer = λ peer is. kept_peer s call from peer is ∙ is;
  first =
      λ asked. let l = asker_lab x own far c s g.side g.there asked in first_stays l.lab s.end call l.machine l.ends
      g.goes;
  item = λ item is. first_item s.end.written (end_of_call s.end call).written item (end_grows s.end call) is;
}

-- ---- its names

pub opened_from : (x : Side) (own far : Station) (c : Name) (s : Story) (call : Call) (from : Option Name)
    → GoingOn x own far c s call from → (o : Opening s call from) → Arrived x own far c s o.packet from
opened_from x own far c s call from g o =
    arrived x own far c s call from g o.packet o.now o.is o.opens.ack o.opens.named

pub named_then : (x : Side) (own far : Station) (c : Name) (s : Story) (call : Call) (from : Option Name)
    → GoingOn x own far c s call from → is_inactive (goes_on s call from).end.conn.state ≡ false
    → IsNamed own.host.address c (goes_on s call from)
named_then x own far c s call from g used =
    named_on own.host.address c s call from ((g.side.station.stories c s g.there).named g.used) g.goes
    (λ o. let a = opened_from x own far c s call from g o in (a.name, a.from_is, a.src))
    (λ p now is o. (unopened x own far c s call from g o.asked).0) used

-- ---- what was read, where it wasn't opened

-- A's end that knows no index reads nothing
read_unread : (l : LabView) (e : EndView) → HasMachine l → l.a ≡ plain A e → e.read ≡ [] → e.conn.peer_index ≡ None
    → is_inactive e.conn.state ≡ false → (end_of_call e Read).read ≡ []
read_unread l e h is none index used =
    let n = names_of A in
    let k : HasMachine (call_at l A Read).lab = keeps_play l A Read h tt in
    let does : act l.a.conn Read ≡ renamed_acted n (act e.conn Read) =
    ap (λ (f : EndView). act f.conn Read) is ∙ acts_alike n e.conn Read refl in
    let stays = names_stay e.conn Read refl refl refl in
    let state : is_inactive (act l.a.conn Read).view.state ≡ false =
    ap (λ (a : Acted Reply). is_inactive a.view.state) does ∙ stays_in_use e.conn Read refl used in
    let known : (act l.a.conn Read).view.peer_index ≡ None =
    ap (λ (a : Acted Reply). a.view.peer_index) does ∙ ap (known_as 1) (stays.2 ∙ index) in
    let read : with_read l.a.conn Read (act l.a.conn Read).answer l.a.read ≡ [] =
    (knows_sides (call_at l A Read).lab k).2 state known in
    let same : with_read l.a.conn Read (act l.a.conn Read).answer l.a.read
    ≡ with_read e.conn Read (act e.conn Read).answer e.read =
    (λ j. with_read (is j).conn Read (act (is j).conn Read).answer (is j).read)
    ∙ ap (λ (a : Acted Reply). with_read e.conn Read a.answer e.read) (acts_alike n e.conn Read refl) in
    sym same ∙ read

unread_by : (l : LabView) (e : EndView) (call : Call) → HasMachine l → IsEnd A e l.a → begins call ≡ false → e.read ≡ []
    → e.conn.peer_index ≡ None → is_inactive e.conn.state ≡ false
    → ((p : PacketView) (now : ℕ) → call ≡ Deliver p now → is_opened (act_deliver e.conn p now).answer ≡ false)
    → (end_of_call e call).read ≡ []
unread_by l e call h (inr past) b none index used shut = (over_keeps e call b past.over).read ∙ none
unread_by l e Read h (inl is) b none index used shut = read_unread l e h is none index used
unread_by l e FinishRead h (inl is) b none index used shut = read_unread l e h is none index used
unread_by l e (Deliver p now) h (inl is) b none index used shut = (delivery_keeps e p now (shut p now refl)).read ∙ none
unread_by l e (Accept start now) h (inl is) b none index used shut = (accept_keeps l e start now h is).read ∙ none
unread_by l e (Request me peer contact start now) h (inl is) b none index used shut = absurd (false≢true (sym b))
unread_by l e (TakeRequest rfc me now) h (inl is) b none index used shut = absurd (false≢true (sym b))
unread_by l e (Answer bytes) h (inl is) b none index used shut = either_same _ _ ∙ none
unread_by l e (Reject text) h (inl is) b none index used shut = either_same _ _ ∙ none
unread_by l e (Write op bytes now) h (inl is) b none index used shut =
    either_same (is_refused (act e.conn (Write op bytes now)).answer) e.read ∙ none
unread_by l e (Unc bytes) h (inl is) b none index used shut = either_same _ _ ∙ none
unread_by l e (Announce window) h (inl is) b none index used shut = either_same _ _ ∙ none
unread_by l e (Close text) h (inl is) b none index used shut = either_same _ _ ∙ none
unread_by l e (Tick now) h (inl is) b none index used shut = none

-- ---- its story

pub peer_then : (x : Side) (own far : Station) (c : Name) (s : Story) (call : Call) (from : Option Name)
    → GoingOn x own far c s call from → HasPeer far c (goes_on s call from) (goes_on s call from).peer s.asked
peer_then x own far c s call from g =
    ⊎_elim
    (λ (same : (goes_on s call from).peer ≡ s.peer). kept s.peer refl same)
    (λ (o : Opening s call from).
    let a = opened_from x own far c s call from g o in
    let asked = (unopened x own far c s call from g o.opens.asked).1 in
    subst (λ (z : Option Name × Bool). HasPeer far c (goes_on s call from) z.0 z.1)
    (λ j. (sym (o.peer ∙ a.from_is) j, sym asked j)) (a.story, a.known, a.asks asked, a.to))
    (peer_cases s call from)
  where
    mine : IsStory own far c s
    mine = g.side.station.stories c s g.there

    some : (f : Story) (peer : Name) (b : Bool) → HasPeer far c s (Some peer) b → HasPeer far c f (Some peer) b
    some f peer true h = h
    some f peer false h = h

    kept : (o : Option Name) → s.peer ≡ o → (goes_on s call from).peer ≡ s.peer
        → HasPeer far c (goes_on s call from) (goes_on s call from).peer s.asked
    kept (Some peer) is same =
        subst (λ o. HasPeer far c (goes_on s call from) o s.asked) (sym (same ∙ is))
        (some (goes_on s call from) peer s.asked (subst (λ o. HasPeer far c s o s.asked) is mine.peer))
    kept None is same =
        let h : HasPeer far c s None s.asked = subst (λ o. HasPeer far c s o s.asked) is mine.peer in
        let l = asker_lab x own far c s g.side g.there h.0 in
        let named = mine.named g.used in
        let index : s.end.conn.peer_index ≡ None = named.peer_index ∙ ap (option_map index_of) is in
        subst (λ o. HasPeer far c (goes_on s call from) o s.asked) (sym (same ∙ is)) (
          h.0,
          unread_by l.lab s.end call l.machine l.ends g.goes h.1 index g.used
              (λ p now q. ⊎_elim
              (λ (o : Opens s.end.conn p (act_deliver s.end.conn p now)).
              -- it would have its sender as peer
              let a = arrived x own far c s call from g p now q o.ack o.named in
              let peer : (goes_on s call from).peer ≡ from =
              ap (λ k. (goes_on s k from).peer) q
              ∙ ap (λ z. peer_after z (act s.end.conn (Deliver p now)).answer from) is
              ∙ ap (λ (b : Bool). if b then from else None) o.opened in
              let no : Some a.name ≡ None = sym (peer ∙ a.from_is) ∙ same ∙ is in absurd (cc))
              (λ (k : Stays s.end.conn p (act_deliver s.end.conn p now)). k.opened)
              (opens_or_stays s.end.conn p now)),
        )

-- next: the station after it
pub story_then : (x : Side) (own far next : Station) (c : Name) (s : Story) (call : Call) (from : Option Name)
    → GoingOn x own far c s call from → next.host.address ≡ own.host.address → own.turn c.place ≤ next.turn c.place
    → IsStory next far c (goes_on s call from)
story_then x own far next c s call from g address later =
    let mine = g.side.station.stories c s g.there in
    let before = mine.turn in
    record {
      named =
          λ used. let k = named_then x own far c s call from g
          used in record { me = k.me ∙ (λ j. record { address = sym address j; index = index_of c }); peer_index = k.peer_index };
      peer = peer_then x own far c s call from g;
      place = mine.place;
      turn = omega (arith, before, later);
    }

-- ---- what it sent

-- a packet that carries an acknowledgement names the peer's index, which is known
ack_known : (x : Side) (own far : Station) (c : Name) (s : Story) (call : Call) (from : Option Name)
    → GoingOn x own far c s call from → (j : ℕ) (p : PacketView) → slice_get (act s.end.conn call).packets j ≡ Some p
    → carries_ack (kind_of p.op) ≡ true
    → (act s.end.conn call).view.peer_index ≡ None → ⊥
ack_known x own far c s call from g j p at ack none = by (main_move x own far c s call from g)
  where
    by : Main s call → ⊥
    by m =
        ⊎_elim
        (λ (bare : IsBare p). false≢true (sym bare.0 ∙ ack))
        (λ
        (k : (k : ℕ)
        × (slice_get m.move.lab.copies k
        ≡ Some
        (stamp m.y (length m.move.lab.a.written) (length m.move.lab.b.written)
        (renamed_packet (names_of m.y) (act s.end.conn call).view.peer_index p)))).
        let shut = not_rfc (kind_of p.op) ack in
        let one : (renamed_packet (names_of m.y) (act s.end.conn call).view.peer_index p).dst_index ≡ 1 =
        others_name_index m.move.lab k.0 _ m.move.machine k.1 shut in
        let zero_is : (renamed_packet (names_of m.y) (act s.end.conn call).view.peer_index p).dst_index ≡ 0 =
        (λ i. if shut i then 0 else unwrap_or (known_as (names_of m.y).peer.index (none i)) 0) in
        absurd (omega (arith, one, zero_is)))
        (m.move.sent j p at)

pub sent_then : (x : Side) (own far next : Station) (c : Name) (s : Story) (call : Call) (from : Option Name)
    → GoingOn x own far c s call from → next.host.address ≡ own.host.address → next.story c ≡ Some (goes_on s call from)
    → (j : ℕ) (p : PacketView) → slice_get (act s.end.conn call).packets j ≡ Some p → IsSentBy next p c
sent_then x own far next c s call from g address there j p at =
    let f : Story = goes_on s call from in
    let named = (g.side.station.stories c s g.there).named g.used in
    let puts : IsFrom s.end.conn (act s.end.conn call).view.peer_index p =
    all_at (IsFrom s.end.conn (act s.end.conn call).view.peer_index) (act s.end.conn call).packets j p
    (puts_its_names s.end.conn call g.goes) at in
    record {
      story = f;
      there = there;
      src_index = puts.src_index ∙ ap (λ e. e.index) named.me;
      src = puts.src ∙ ap (λ e. e.address) named.me ∙ sym address;
      ack = λ ack. peer_by f.peer refl ack puts;
      rfc = λ rfc. request (main_move x own far c s call from g) rfc;
    }
  where
    -- it didn't end, since its packet isn't bare
    used_then : carries_ack (kind_of p.op) ≡ true → is_inactive (goes_on s call from).end.conn.state ≡ false
    used_then ack =
        ⊎_elim
        (λ (ending : ends call ≡ true). absurd
        (false≢true
        (sym (all_at IsBare (act s.end.conn call).packets j p (ends_are_over s.end.conn call ending).1 at).0
        ∙ ack)))
        (λ (goes : ends call ≡ false). still_used s call from goes g.used)
        (cases_Bool (ends call))

    peer_by : (o : Option Name) → (goes_on s call from).peer ≡ o → carries_ack (kind_of p.op) ≡ true
        → IsFrom s.end.conn (act s.end.conn call).view.peer_index p
        → (peer : Name) × ((goes_on s call from).peer ≡ Some peer) × (p.dst_index ≡ index_of peer)
    peer_by (Some peer) is ack puts =
        let k = named_then x own far c s call from g (used_then ack) in
        (peer, is, puts.dst_index ack ∙ ap (λ o. unwrap_or o 0) (ap (λ v. v.peer_index) (sym (view_of s call from)) ∙ k.peer_index ∙ ap (option_map index_of) is))
    peer_by None is ack puts =
        let k = named_then x own far c s call from g (used_then ack) in
        absurd
        (ack_known x own far c s call from g j p at ack
        (ap (λ v. v.peer_index) (sym (view_of s call from)) ∙ k.peer_index ∙ ap (option_map index_of) is))

    request : Main s call → is_rfc (kind_of p.op) ≡ true
        → ((goes_on s call from).asked ≡ true) × (p.num ≡ num (goes_on s call from).end.first 0)
        × (slice_get (goes_on s call from).end.written 0 ≡ Some (item_of p))
    request m rfc =
        ⊎_elim
        (λ (bare : IsBare p). absurd (false≢true (sym bare.1 ∙ rfc)))
        (λ
        (k : (k : ℕ)
        × (slice_get m.move.lab.copies k
        ≡ Some
        (stamp m.y (length m.move.lab.a.written) (length m.move.lab.b.written)
        (renamed_packet (names_of m.y) (act s.end.conn call).view.peer_index p)))).
        let q = rfc_is_first m.move.lab k.0 _ m.move.machine k.1 rfc in
        let ends : IsEnd A (end_of_call s.end call) m.move.lab.a =
        subst (λ y. IsEnd y (end_of_call s.end call) (lab_end m.move.lab y)) q.side m.move.ends in
        (m.asker q.side, q.number ∙ ap (λ b. num b 0) (end_first A (end_of_call s.end call) m.move.lab.a ends), ap (λ ws. slice_get ws 0) (sym (end_written A (end_of_call s.end call) m.move.lab.a ends)) ∙ q.item))
        (m.move.sent j p at)

-- ---- the pairs of one that asked

pub pair_then : (x : Side) (own far : Station) (c : Name) (s : Story) (call : Call) (from : Option Name)
    (lengths : Side → Name → ℕ)
    → GoingOn x own far c s call from → s.asked ≡ true
    → lengths x c ≡ length (goes_on s call from).end.written
    → ((name : Name) → lengths (other x) name ≡ length_of (far.story name))
    → (taker : Name)
    → (l : LabView)
    × IsPlayed x c taker (goes_on s call from) (far.story taker)
    (own.sent ++ map (sent_by (Some c) lengths) (act s.end.conn call).packets) far.sent far.host.config l
pair_then x own far c s call from lengths g asked len_own len_far taker =
    ⊎_elim linked parted (linked_or_parted s.peer taker)
  where
    mine : IsStory own far c s
    mine = g.side.station.stories c s g.there

    pair : (l : LabView) × IsPlayed x c taker s (far.story taker) own.sent far.sent far.host.config l
    pair = g.side.pairs c taker s g.there asked

    -- what was sent with an acknowledgement was sent to a peer
    old : (k : ℕ) (q : Sent) → slice_get own.sent k ≡ Some q → q.by ≡ Some c → carries_ack (kind_of q.packet.op) ≡ true
        → (peer : Name) × (s.peer ≡ Some peer)
    old k q at by ack =
        let h : IsSentBy own q.packet c = subst (IsSentOf own q.packet) by (g.side.station.sent k q at) in
        let a = h.ack ack in
        (a.0, ap (λ z. z.peer) (some_eq (sym g.there ∙ h.there)) ∙ a.1)

    met_by : (o : Option Name) → s.peer ≡ o → s.peer ≡ Some taker → Takes (far.story taker) c
    met_by o is to =
        let h : HasPeer far c s (Some taker) true =
        subst (λ (z : Option Name × Bool). HasPeer far c s z.0 z.1) (λ j. (to j, asked j)) mine.peer in
        subst (λ o. Takes o c) (sym h.1) (h.2, h.3)

    way_a : IsLinked s.peer taker
        → ((p : PacketView) (now : ℕ) → call ≡ Deliver p now → carries_ack (kind_of p.op) ≡ true
        → is_named s.end.conn p ≡ true → from ≡ Some taker)
        → (l : LabView)
        × IsPlayed x c taker (goes_on s call from) (far.story taker)
        (own.sent ++ map (sent_by (Some c) lengths) (act s.end.conn call).packets) far.sent far.host.config l
    way_a link sender =
        pair_a x c taker s (far.story taker) own.sent far.sent far.host.config pair.0 call from lengths pair.1 link
        (⊎_elim (λ (same : (goes_on s call from).peer ≡ s.peer). subst (λ o. IsLinked o taker) (sym same) link)
        (λ (o : Opening s call from). linked_to (goes_on s call from).peer taker
        (o.peer ∙ sender o.packet o.now o.is o.opens.ack o.opens.named))
        (peer_cases s call from))
        g.goes (can_a x own far c taker s call from pair.0 g asked pair.1 link sender) len_own (len_far taker)
        (λ to. ⊎_elim (λ (same : (goes_on s call from).peer ≡ s.peer). met_by s.peer refl (sym same ∙ to))
        (λ (o : Opening s call from).
        let a = opened_from x own far c s call from g o in
        let same : a.name ≡ taker = some_eq (sym a.from_is ∙ sender o.packet o.now o.is o.opens.ack o.opens.named) in
        subst (λ o. Takes o c) (sym a.known ∙ ap far.story same) (a.asks asked, a.to))
        (peer_cases s call from))
        old

    -- a packet of another taker comes to one that has no peer
    of_other : (p : PacketView) (now : ℕ) → call ≡ Deliver p now → carries_ack (kind_of p.op) ≡ true
        → (a : Arrived x own far c s p from) → (a.name ≡ taker → ⊥) → s.peer ≡ None
        → (l : LabView)
        × IsPlayed x c taker (goes_on s call from) (far.story taker)
        (own.sent ++ map (sent_by (Some c) lengths) (act s.end.conn call).packets) far.sent far.host.config l
    of_other p now is ack a apart none =
        let h : HasPeer far c s None s.asked = subst (λ o. HasPeer far c s o s.asked) none mine.peer in
        let r =
        pair_other x c taker a.name s (far.story taker) own.sent far.sent far.host.config pair.0 p now lengths
        pair.1 none h.1 ack apart in
        (pair.0, subst (λ (z : Call × Option Name). IsPlayed x c taker (goes_on s z.0 z.1) (far.story taker) (own.sent ++ map (sent_by (Some c) lengths) (act s.end.conn z.0).packets) far.sent far.host.config pair.0) (λ j. (sym is j, sym a.from_is j)) r)

    linked : IsLinked s.peer taker
        → (l : LabView)
        × IsPlayed x c taker (goes_on s call from) (far.story taker)
        (own.sent ++ map (sent_by (Some c) lengths) (act s.end.conn call).packets) far.sent far.host.config l
    linked link =
        ⊎_elim
        (λ (d : (p : PacketView) × (now : ℕ) × (call ≡ Deliver p now)).
        ⊎_elim
        (λ (ack : carries_ack (kind_of d.0.op) ≡ true).
        ⊎_elim
        (λ (named : is_named s.end.conn d.0 ≡ true).
        let a = arrived x own far c s call from g d.0 d.1 d.2 ack named in
        ⊎_elim
        (λ (same : a.name ≡ taker). way_a link (λ p now q ack named. a.from_is ∙ ap Some same))
        (λ (apart : a.name ≡ taker → ⊥). of_other d.0 d.1 d.2 ack a apart (no_peer a apart s.peer refl))
        (name_eq a.name taker))
        (λ (foreign : is_named s.end.conn d.0 ≡ false).
        way_a link
        (λ p now q ack named. absurd
        (false≢true (sym foreign ∙ ap (is_named s.end.conn) (deliver_eq d.0 p d.1 now (sym d.2 ∙ q)) ∙ named))))
        (cases_Bool (is_named s.end.conn d.0)))
        (λ (bare : carries_ack (kind_of d.0.op) ≡ false).
        way_a link
        (λ p now q ack named. absurd
        (false≢true
        (sym bare
        ∙ ap (λ (z : PacketView). carries_ack (kind_of z.op)) (deliver_eq d.0 p d.1 now (sym d.2 ∙ q))
        ∙ ack))))
        (cases_Bool (carries_ack (kind_of d.0.op))))
        (λ (n : is_delivery call ≡ false). way_a link
        (λ p now q ack named. absurd (false≢true (sym n ∙ ap is_delivery q))))
        (deliver_or_not call)
      where
        deliver_eq : (p q : PacketView) (m n : ℕ) → Deliver p m ≡ Deliver q n → p ≡ q
        deliver_eq p q m n h = cc

        no_peer : {p : PacketView} (a : Arrived x own far c s p from) → (a.name ≡ taker → ⊥) → (o : Option Name)
            → s.peer ≡ o → s.peer ≡ None
        no_peer a apart None q = q
        no_peer a apart (Some peer) q = absurd (apart (a.peer peer q ∙ subst (λ o. IsLinked o taker) q link))

    parted : IsParted s.peer taker
        → (l : LabView)
        × IsPlayed x c taker (goes_on s call from) (far.story taker)
        (own.sent ++ map (sent_by (Some c) lengths) (act s.end.conn call).packets) far.sent far.host.config l
    parted apart =
        let f : Story = goes_on s call from in
        let short = pair.1.parted apart in (
          pair.0,
          pair_parted x c taker s f (far.story taker) own.sent far.sent _ far.host.config pair.0 pair.1
              ((lasts_on x own far c s call from g).first asked) (still s.peer refl apart) short.0
              (begins_through pair.0.a.written s.end.written f.end.written short.1 (end_grows s.end call)),
        )
      where
        still : (o : Option Name) → s.peer ≡ o → IsParted s.peer taker → IsParted (goes_on s call from).peer taker
        still None is k = absurd (subst (λ o. IsParted o taker) is k)
        still (Some peer) is k = subst (λ o. IsParted o taker) (sym (kept_peer s call from peer is)) k

-- ---- the pairs of one that may have been asked

pub back_then : (x : Side) (own far : Station) (c : Name) (s : Story) (call : Call) (from : Option Name)
    (lengths : Side → Name → ℕ)
    → GoingOn x own far c s call from
    → lengths x c ≡ length (goes_on s call from).end.written
    → ((name : Name) → lengths (other x) name ≡ length_of (far.story name))
    → (asker : Name) (r : Story) → far.story asker ≡ Some r → r.asked ≡ true
    → (l : LabView)
    × IsPlayed (other x) asker c r (Some (goes_on s call from)) far.sent
    (own.sent ++ map (sent_by (Some c) lengths) (act s.end.conn call).packets) own.host.config l
back_then x own far c s call from lengths g len_own len_far asker r there asks =
    ⊎_elim
    (λ (is : (s.asked ≡ false) × (s.peer ≡ Some asker)).
    pair_b (other x) asker c r s far.sent own.sent own.host.config pair.0 call from lengths here is.0 is.1
    (kept_peer s call from asker is.1 ∙ is.1) g.goes
    (can_b x own far c asker s r call from pair.0 g is.0 is.1 there here)
    (len_far asker ∙ ap length_of there) (ap (λ y. lengths y c) (twice x) ∙ len_own))
    (λ (apart : (s.asked ≡ false) × (s.peer ≡ Some asker) → ⊥). (
      pair.0,
      pair_untaken (other x) asker c r (Some s) (Some (goes_on s call from)) far.sent own.sent _ own.host.config pair.0
          here
          apart
          (λ takes. apart (takes.0, still takes.1 s.peer refl takes.0))
          (λ k q at by to.
          let h : HasPeer own asker r (Some c) true =
          subst (λ (z : Option Name × Bool). HasPeer own asker r z.0 z.1) (λ j. (to j, asks j))
          (g.back.station.stories asker r there).peer in
          let same : h.0 ≡ s = some_eq (sym h.1 ∙ g.there) in
          apart (ap (λ z. z.asked) (sym same) ∙ h.2, ap (λ z. z.peer) (sym same) ∙ h.3)),
    ))
    (takes_or_not s.asked refl s.peer refl)
  where
    pair : (l : LabView) × IsPlayed (other x) asker c r (own.story c) far.sent own.sent own.host.config l
    pair = g.back.pairs asker c r there asks

    here : IsPlayed (other x) asker c r (Some s) far.sent own.sent own.host.config pair.0
    here = subst (λ o. IsPlayed (other x) asker c r o far.sent own.sent own.host.config pair.0) g.there pair.1

    takes_or_not : (b : Bool) → s.asked ≡ b → (o : Option Name) → s.peer ≡ o
        → ((s.asked ≡ false) × (s.peer ≡ Some asker)) ⊎ ((s.asked ≡ false) × (s.peer ≡ Some asker) → ⊥)
    takes_or_not true is o q = inr (λ t. false≢true (sym t.0 ∙ is))
    takes_or_not false is None q = inr (λ t. let no : None ≡ Some asker = sym q ∙ t.1 in absurd (cc))
    takes_or_not false is (Some peer) q =
        ⊎_elim (λ (same : peer ≡ asker). inl (is, q ∙ ap Some same))
        (λ (apart : peer ≡ asker → ⊥). inr (λ t. apart (some_eq (sym q ∙ t.1)))) (name_eq peer asker)

    -- one that was asked has a peer, and keeps it
    still : (goes_on s call from).peer ≡ Some asker → (o : Option Name) → s.peer ≡ o → s.asked ≡ false
        → s.peer ≡ Some asker
    still to (Some peer) q taken = sym (kept_peer s call from peer q) ∙ to
    still to None q taken =
        let h : HasPeer far c s None s.asked = subst (λ o. HasPeer far c s o s.asked) q
        (g.side.station.stories c s g.there).peer in absurd (false≢true (sym taken ∙ h.0))
