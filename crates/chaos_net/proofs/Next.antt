-- The stations after one connection's call.
use Rattle.std.proofs.Common.{◌≡◌, ℕ, zero, suc, ◌≤◌, ◌==◌, ◌&&◌, List, [], ◌∷◌, ◌++◌, map, Bool, true, false, slice_set, Option, Some, None, refl, sym, ap, ◌∙◌, subst, ⊎_elim, arith}
use Rattle.std.specs.Prelude.{slice_get}
use Rattle.std.proofs.lemmas.Bool.{false≢true, cond-true, cond-false, eq-eqb, eqb-true}
use Rattle.chaos_packet.specs.Item.{ItemView}
use Rattle.chaos_packet.specs.Number.{num}
use Rattle.chaos_packet.specs.Packet.{PacketView, item_of}
use Rattle.chaos_conn.specs.Config.{ConfigView, IsConfig}
use Rattle.chaos_host.specs.declared.slot.Slot.{Slot}
use Rattle.chaos_host.specs.View.{IsHost}
use Rattle.chaos_lab.specs.declared.side.Side.{Side}
use Rattle.chaos_lab.specs.Laboratory.{LabView}
use Rattle.chaos_net.specs.Net.{Name, Story, Sent, Station, index_of, is_name, with_story, sent_by}
use Rattle.chaos_net.specs.Played.{IsPlayed, IsSlot, IsStory, IsStation, IsSentOf, HasPeer, ArePairs}
use Rattle.chaos_net.proofs.Lists.{some_eq, get_split, get_unmap}
use Rattle.chaos_net.proofs.Holding.{name_eq}
use Rattle.chaos_net.proofs.Pairs.{OfOther, pair_waits}

-- ---- lookups

pub same_name : (a : Name) → is_name a a ≡ true
same_name a = both (a.place == a.place) (a.turn == a.turn) (eq-eqb a.place a.place refl) (eq-eqb a.turn a.turn refl)
  where
    both : (x y : Bool) → x ≡ true → y ≡ true → (x && y) ≡ true
    both true true p q = refl
    both true false p q = absurd (false≢true q)
    both false y p q = absurd (false≢true p)

pub other_name : (a b : Name) → (a ≡ b → ⊥) → is_name a b ≡ false
other_name a b apart = by (a.place == b.place) (a.turn == b.turn) refl refl
  where
    by : (x y : Bool) → (a.place == b.place) ≡ x → (a.turn == b.turn) ≡ y → (x && y) ≡ false
    by true true p q =
        let place = eqb-true a.place b.place p in
        let turn = eqb-true a.turn b.turn q in
        absurd (apart (λ j. record { place = place j; turn = turn j }))
    by true false p q = refl
    by false y p q = refl

pub look_own : (stories : Name → Option Story) (c : Name) (o : Option Story) → with_story stories c o c ≡ o
look_own stories c o = cond-true (is_name c c) o (stories c) (same_name c)

pub look_other : (stories : Name → Option Story) (c : Name) (o : Option Story) (d : Name) → (d ≡ c → ⊥)
    → with_story stories c o d ≡ stories d
look_other stories c o d apart = cond-false (is_name d c) o (stories d) (other_name d c apart)

-- ---- what stays true of a story

pub record Lasts (s f : Story) : Type 0 where
  pub asked : f.asked ≡ s.asked
  pub peer : (peer : Name) → s.peer ≡ Some peer → f.peer ≡ Some peer
  pub first : s.asked ≡ true → f.end.first ≡ s.end.first
  pub item : (item : ItemView) → slice_get s.end.written 0 ≡ Some item → slice_get f.end.written 0 ≡ Some item

-- own goes on to next, in which the story of c is f, and new was sent
pub record Next (own next : Station) (c : Name) (f : Story) (new : List Sent) : Type 0 where
  pub story_own : next.story c ≡ Some f
  pub story_other : (d : Name) → (d ≡ c → ⊥) → next.story d ≡ own.story d
  pub turns : (place : ℕ) → own.turn place ≤ next.turn place
  pub sent : next.sent ≡ own.sent ++ new
  pub address : next.host.address ≡ own.host.address
  pub config : next.host.config ≡ own.host.config
  pub host : IsHost next.host
  pub slots : (place : ℕ) (slot : Slot) → slice_get next.host.slots place ≡ Some slot → IsSlot next place slot
  pub lasts : (s : Story) → own.story c ≡ Some s → Lasts s f

-- a story of own is one of next, which lasts
pub lasting : (own next : Station) (c : Name) (f : Story) (new : List Sent) → Next own next c f new
    → (d : Name) (s : Story) → own.story d ≡ Some s → (g : Story) × (next.story d ≡ Some g) × Lasts s g
lasting own next c f new n d s there =
    ⊎_elim
    (λ (same : d ≡ c). (f, ap next.story same ∙ n.story_own, n.lasts s (ap own.story (sym same) ∙ there)))
    (λ (apart : d ≡ c → ⊥).
    (s, n.story_other d apart ∙ there, record { asked = refl; peer = λ p is. is; first = λ _. refl; item = λ i is. is }))
    (name_eq d c)

-- the other host's peers last
pub peer_lasts : (own next : Station) (c : Name) (f : Story) (new : List Sent) → Next own next c f new
    → (name : Name) (s : Story) (peer : Option Name) (asked : Bool) → HasPeer own name s peer asked
    → HasPeer next name s peer asked
peer_lasts own next c f new n name s None asked h = h
peer_lasts own next c f new n name s (Some peer) false h =
    let g = lasting own next c f new n peer h.0 h.1 in (g.0, g.1, g.2.asked ∙ h.2)
peer_lasts own next c f new n name s (Some peer) true h =
    let g = lasting own next c f new n peer h.0 h.1 in (g.0, g.1, g.2.asked ∙ h.2, g.2.peer name h.3)

-- what was sent stays true
sent_lasts : (own next : Station) (c : Name) (f : Story) (new : List Sent) → Next own next c f new
    → (p : PacketView) (by : Option Name) → IsSentOf own p by → IsSentOf next p by
sent_lasts own next c f new n p None h = h
sent_lasts own next c f new n p (Some d) h =
    let g = lasting own next c f new n d h.story h.there in
    record {
      story = g.0;
      there = g.1;
      src_index = h.src_index;
      src = h.src ∙ sym n.address;
      ack = λ ack. let a = h.ack ack in (a.0, g.2.peer a.0 a.1, a.2);
      rfc =
          λ rfc. let r = h.rfc
          rfc in (g.2.asked ∙ r.0, r.1 ∙ ap (λ b. num b 0) (sym (g.2.first r.0)), g.2.item (item_of p) r.2);
    }

-- ---- both stations

pub station_next : (own far next : Station) (c : Name) (f : Story) (new : List Sent) → IsStation own far
    → Next own next c f new → IsStory next far c f
    → ((j : ℕ) (q : Sent) → slice_get new j ≡ Some q → IsSentOf next q.packet q.by) → IsStation next far
station_next own far next c f new h n story fresh = record {
  host = n.host;
  config = subst IsConfig (sym n.config) h.config;
  slots = n.slots;
  stories = λ name s there.
      ⊎_elim
      (λ (same : name ≡ c). let is : f
      ≡ s = some_eq (sym n.story_own ∙ ap next.story (sym same) ∙ there) in subst
      (λ (z : Name × Story). IsStory next far z.0 z.1) (λ j. (sym same j, is j)) story)
      (λ (apart : name ≡ c → ⊥).
      let o = h.stories name s (sym (n.story_other name apart) ∙ there) in
      let later = n.turns name.place in
      let before = o.turn in
      record {
        named =
            λ used. let k = o.named
            used in record { me = k.me ∙ (λ j. record { address = sym n.address j; index = index_of name }); peer_index = k.peer_index };
        peer = o.peer;
        place = o.place;
        turn = omega (arith, later, before);
      })
      (name_eq name c);
  sent = λ k q at.
      ⊎_elim
      (λ (old : slice_get own.sent k ≡ Some q). sent_lasts own next c f new n q.packet q.by (h.sent k q old))
      (λ (now : (j : ℕ) × (slice_get new j ≡ Some q)). fresh now.0 q now.1)
      (get_split own.sent new k q (ap (λ qs. slice_get qs k) (sym n.sent) ∙ at));
}

pub station_back : (own far next : Station) (c : Name) (f : Story) (new : List Sent) → IsStation far own
    → Next own next c f new → IsStation far next
station_back own far next c f new h n = record {
  host = h.host;
  config = h.config;
  slots = h.slots;
  stories = λ name s there.
      let o = h.stories name s there in
      record {
        named = λ used. let k = o.named used in record { me = k.me; peer_index = k.peer_index };
        peer = peer_lasts own next c f new n name s s.peer s.asked o.peer;
        place = o.place;
        turn = o.turn;
      };
  sent = h.sent;
}

-- ---- all pairs

append-nil : {X : Type 0} (xs : List X) → xs ++ [] ≡ xs
append-nil [] = refl
append-nil (x ∷ xs) = ap (λ ys. x ∷ ys) (append-nil xs)

none_new : (name : Name) → OfOther [] name
none_new name j q at by = absurd (cc)

-- what c sends is of another than d
pub of_other : (c d : Name) (lengths : Side → Name → ℕ) (ps : List PacketView) → (d ≡ c → ⊥)
    → OfOther (map (sent_by (Some c) lengths) ps) d
of_other c d lengths ps apart j q at by =
    let u = get_unmap (sent_by (Some c) lengths) ps j q at in
    apart (some_eq (sym by ∙ sym (ap (λ (z : Sent). z.by) u.2)))

pub pairs_next : (x : Side) (own far next : Station) (c : Name) (f : Story) (new : List Sent) → ArePairs x own far
    → Next own next c f new → ((d : Name) → (d ≡ c → ⊥) → OfOther new d)
    → (f.asked ≡ true → (taker : Name)
    → (l : LabView) × IsPlayed x c taker f (far.story taker) (own.sent ++ new) far.sent far.host.config l)
    → ArePairs x next far
pairs_next x own far next c f new h n others mine asker taker r there asked =
    ⊎_elim
    (λ (same : asker ≡ c).
    let is : f ≡ r = some_eq (sym n.story_own ∙ ap next.story (sym same) ∙ there) in
    let p = mine (ap (λ s. s.asked) is ∙ asked) taker in
    (p.0, subst (λ (z : Name × Story × List Sent). IsPlayed x z.0 taker z.1 (far.story taker) z.2 far.sent far.host.config p.0) (λ j. (sym same j, is j, sym n.sent j)) p.1))
    (λ (apart : asker ≡ c → ⊥).
    let p = h asker taker r (sym (n.story_other asker apart) ∙ there) asked in
    let q =
    pair_waits x asker taker r (far.story taker) own.sent far.sent new [] far.host.config p.0 p.1
    (others asker apart) (none_new taker) in
    (p.0, subst (λ (z : List Sent × List Sent). IsPlayed x asker taker r (far.story taker) z.0 z.1 far.host.config p.0) (λ j. (sym n.sent j, append-nil far.sent j)) q))
    (name_eq asker c)

pub pairs_back : (y : Side) (own far next : Station) (c : Name) (f : Story) (new : List Sent) → ArePairs y far own
    → Next own next c f new → ((d : Name) → (d ≡ c → ⊥) → OfOther new d)
    → ((asker : Name) (r : Story) → far.story asker ≡ Some r → r.asked ≡ true
    → (l : LabView) × IsPlayed y asker c r (Some f) far.sent (own.sent ++ new) own.host.config l)
    → ArePairs y far next
pairs_back y own far next c f new h n others mine asker taker r there asked =
    ⊎_elim
    (λ (same : taker ≡ c).
    let p = mine asker r there asked in
    let is : Some f ≡ next.story taker = sym n.story_own ∙ ap next.story (sym same) in
    (p.0, subst (λ (z : Name × Option Story × List Sent × ConfigView). IsPlayed y asker z.0 r z.1 far.sent z.2 z.3 p.0) (λ j. (sym same j, is j, sym n.sent j, sym n.config j)) p.1))
    (λ (apart : taker ≡ c → ⊥).
    let p = h asker taker r there asked in
    let q =
    pair_waits y asker taker r (own.story taker) far.sent own.sent [] new own.host.config p.0 p.1 (none_new asker)
    (others taker apart) in
    (p.0, subst (λ (z : List Sent × Option Story × List Sent × ConfigView). IsPlayed y asker taker r z.1 z.0 z.2 z.3 p.0) (λ j. (append-nil far.sent j, sym (n.story_other taker apart) j, sym n.sent j, sym n.config j)) q))
    (name_eq taker c)

-- ---- slots

pub set_same : {X : Type 0} (xs : List X) (i : ℕ) (x y : X) → slice_get xs i ≡ Some y
    → slice_get (slice_set xs i x) i ≡ Some x
set_same [] i x y h = absurd (cc)
set_same (z ∷ xs) zero x y h = refl
set_same (z ∷ xs) (suc i) x y h = set_same xs i x y h

pub set_other : {X : Type 0} (xs : List X) (i j : ℕ) (x : X) → (j ≡ i → ⊥)
    → slice_get (slice_set xs i x) j ≡ slice_get xs j
set_other [] i j x apart = refl
set_other (z ∷ xs) zero zero x apart = absurd (apart refl)
set_other (z ∷ xs) zero (suc j) x apart = refl
set_other (z ∷ xs) (suc i) zero x apart = refl
set_other (z ∷ xs) (suc i) (suc j) x apart = set_other xs i j x (λ h. apart (ap suc h))
