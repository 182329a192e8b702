-- A connection begins: it asks for one, or takes a request.
use Rattle.std.proofs.Common.{◌≡◌, ℕ, zero, suc, ◌+◌, ◌*◌, ◌%◌, ◌<◌, ◌≤◌, ◌==◌, List, [], ◌++◌, length, Bool, true, false, Option, Some, None, refl, sym, ap, ◌∙◌, subst, ⊎_elim, arith, Ok}
use Rattle.std.specs.Prelude.{slice_get, nat_lt}
use Rattle.std.proofs.lemmas.Bool.{false≢true}
use Rattle.std.proofs.lemmas.Bool.Decides.{nat_tests}
use Rattle.std.proofs.lemmas.Option.{slice_get_within}
use Rattle.chaos_packet.specs.Number.{num, off}
use Rattle.chaos_packet.specs.Opcode.{kind_of, is_rfc}
use Rattle.chaos_packet.specs.Packet.{PacketView}
use Rattle.chaos_packet.specs.declared.limits.TheConstants.{MAX_DATA}
use Rattle.chaos_conn.specs.Config.{ConfigView, IsConfig}
use Rattle.chaos_conn.specs.View.{moment}
use Rattle.chaos_conn.specs.Acted.{Acted, map_answer, quietly}
use Rattle.chaos_conn.specs.Sending.{with_item}
use Rattle.chaos_conn.specs.Opening.{Outcome, closed_conn, rfc_item, after_asking, after_taking_rfc}
use Rattle.chaos_conn.specs.Act.{Reply, act}
use Rattle.chaos_conn.specs.Act.Call.{Request, TakeRequest}
use Rattle.chaos_conn.specs.Act.Reply.{Did}
use Rattle.chaos_host.specs.declared.slot.Slot.{Slot}
use Rattle.chaos_host.specs.Slot.{is_free, IsBlank, HasConfig}
use Rattle.chaos_host.specs.View.{own_end}
use Rattle.chaos_host.proofs.Table.{at_place}
use Rattle.chaos_host.proofs.Requests.{not_zero}
use Rattle.chaos_lab.specs.declared.side.Side.{Side}
use Rattle.chaos_lab.specs.Machine.{other}
use Rattle.chaos_lab.specs.Laboratory.{LabView}
use Rattle.chaos_lab.specs.Plays.{begun_lab}
use Rattle.chaos_net.specs.Net.{Name, Story, Sent, Station, index_of}
use Rattle.chaos_net.specs.Played.{Takes, IsPlayed, HasPeer, IsStory, IsSentBy, IsSentOf, IsSide}
use Rattle.chaos_net.proofs.Lists.{some_eq, get_split, none_at}
use Rattle.chaos_net.proofs.Holding.{name_eq}
use Rattle.chaos_net.proofs.Pairs.{taken_story, asked_story, takes_rfc, asks_rfc, pair_taken, pair_asks, pair_untaken}
use Rattle.chaos_net.proofs.Goes.{IsArrival}

-- a free slot, whose next connection is c
pub record Beginning (x : Side) (own far : Station) (c : Name) (slot : Slot) : Type 0 where
  pub side : IsSide x own far
  pub back : IsSide (other x) far own
  pub there : slice_get own.host.slots c.place ≡ Some slot
  pub present : own.turn c.place ≡ c.turn
  pub free : is_free slot ≡ true
  pub none : own.story c ≡ None

-- what stands in the slot
blank_at : (x : Side) (own far : Station) (c : Name) (slot : Slot) → Beginning x own far c slot
    → slot.conn ≡ closed_conn slot.conn
blank_at x own far c slot g =
    at_place (λ (s : Slot). IsBlank s.conn) own.host.slots c.place slot g.side.station.host.table.blank g.there g.free

config_at : (x : Side) (own far : Station) (c : Name) (slot : Slot) → Beginning x own far c slot
    → slot.conn.config ≡ own.host.config
config_at x own far c slot g =
    at_place (HasConfig own.host.config) own.host.slots c.place slot g.side.station.host.table.alike g.there

place_at : (x : Side) (own far : Station) (c : Name) (slot : Slot) → Beginning x own far c slot → c.place < 255
place_at x own far c slot g =
    let within = slice_get_within own.host.slots c.place slot
    g.there in let few = g.side.station.host.table.few in omega (arith, within, few)

-- the index of its own end
index_at : (x : Side) (own far : Station) (c : Name) (slot : Slot) → Beginning x own far c slot
    → (own_end own.host c.place slot).index ≡ index_of c
index_at x own far c slot g =
    let generation = (g.side.station.slots c.place slot g.there).generation in
    let same : slot.generation ≡ c.turn % 256 = generation ∙ ap (λ t. t % 256) g.present in
    ap (λ n. 256 * n + (c.place + 1)) same

-- nobody of the other host has it as peer
not_peer : (x : Side) (own far : Station) (c : Name) (slot : Slot) → Beginning x own far c slot → (d : Name) (r : Story)
    → far.story d ≡ Some r → r.peer ≡ Some c → ⊥
not_peer x own far c slot g d r there to =
    by r.asked (subst (λ o. HasPeer own d r o r.asked) to (g.back.station.stories d r there).peer)
  where
    by : (b : Bool) → HasPeer own d r (Some c) b → ⊥
    by true h = let no : None ≡ Some h.0 = sym g.none ∙ h.1 in absurd (cc)
    by false h = let no : None ≡ Some h.0 = sym g.none ∙ h.1 in absurd (cc)

-- nor sent anything
not_sender : (x : Side) (own far : Station) (c : Name) (slot : Slot) → Beginning x own far c slot → (k : ℕ) (q : Sent)
    → slice_get own.sent k ≡ Some q → q.by ≡ Some c → ⊥
not_sender x own far c slot g k q at by =
    let h : IsSentBy own q.packet c = subst (IsSentOf own q.packet) by (g.side.station.sent k q at) in
    let no : None ≡ Some h.story = sym g.none ∙ h.there in absurd (cc)

untaken : (x : Side) (own far : Station) (c : Name) (slot : Slot) → Beginning x own far c slot → (taker : Name)
    → Takes (far.story taker) c → ⊥
untaken x own far c slot g taker = by (far.story taker) refl
  where
    by : (o : Option Story) → far.story taker ≡ o → Takes o c → ⊥
    by None is takes = takes
    by (Some t) is takes = not_peer x own far c slot g taker t is takes.1

-- ---- it asks

pub record Asking (x : Side) (own far : Station) (c : Name) (slot : Slot) (peer : ℕ) (contact : List ℕ)
    (start now : ℕ) : Type 0 where
  pub begins : Beginning x own far c slot
  pub short : nat_lt MAX_DATA (length contact) ≡ false
  pub far_is : (peer == 0) ≡ false
  pub fits : start < 65536

fits_data : (n : ℕ) → nat_lt MAX_DATA n ≡ false → n ≤ MAX_DATA
fits_data n h = grind (arith, nat_tests)

-- what the request makes
asks_at : (x : Side) (own far : Station) (c : Name) (slot : Slot) (peer : ℕ) (contact : List ℕ) (start now : ℕ)
    → Asking x own far c slot peer contact start now →
    act slot.conn (Request (own_end own.host c.place slot) peer contact start now)
    ≡ map_answer Did
    (with_item (after_asking slot.conn (own_end own.host c.place slot) peer start (moment slot.conn now))
    (rfc_item contact) (Ok tt))
asks_at x own far c slot peer contact start now a =
    ap (map_answer Did)
    (asks_rfc slot.conn (own_end own.host c.place slot) peer contact start now a.begins.free
    (not_zero own.host.address a.begins.side.station.host.address) a.far_is a.short)

pub asked_then : (x : Side) (own far next : Station) (c : Name) (slot : Slot) (peer : ℕ) (contact : List ℕ)
    (start now : ℕ)
    → Asking x own far c slot peer contact start now → next.host.address ≡ own.host.address
    → own.turn c.place ≤ next.turn c.place
    → IsStory next far c (asked_story slot.conn (own_end own.host c.place slot) peer contact start now)
asked_then x own far next c slot peer contact start now a address later =
    let view = ap (λ (z : Acted Reply). z.view) (asks_at x own far c slot peer contact start now a) in
    let present = a.begins.present in
    record {
      named = λ used. record {
        me =
            ap (λ v. v.me) view
            ∙ (λ j. record { address = sym address j; index = index_at x own far c slot a.begins j });
        peer_index = ap (λ v. v.peer_index) view;
      };
      peer = (refl, refl);
      place = place_at x own far c slot a.begins;
      turn = omega (arith, present, later);
    }

pub asked_sent : (x : Side) (own far next : Station) (c : Name) (slot : Slot) (peer : ℕ) (contact : List ℕ)
    (start now : ℕ)
    → Asking x own far c slot peer contact start now → next.host.address ≡ own.host.address
    → next.story c ≡ Some (asked_story slot.conn (own_end own.host c.place slot) peer contact start now)
    → (j : ℕ) (p : PacketView)
    → slice_get (act slot.conn (Request (own_end own.host c.place slot) peer contact start now)).packets j ≡ Some p
    → IsSentBy next p c
asked_sent x own far next c slot peer contact start now a address there j p at =
    let made =
    with_item {A = Outcome}
    (after_asking slot.conn (own_end own.host c.place slot) peer start (moment slot.conn now))
    (rfc_item contact) (Ok tt) in
    by j p
    (ap (λ (z : Acted Reply). slice_get z.packets j) (sym (asks_at x own far c slot peer contact start now a)) ∙ at)
  where
    by : (j : ℕ) (p : PacketView)
        → slice_get
        (with_item {A = Outcome}
        (after_asking slot.conn (own_end own.host c.place slot) peer start (moment slot.conn now))
        (rfc_item contact) (Ok tt)).packets
        j
        ≡ Some p
        → IsSentBy next p c
    by zero p at =
        let same = some_eq at in
        let first : num (num (off start 1) 1) 0 ≡ num start 0 = omega arith in
        let number : num (off start 1) 1 ≡ num start 0 = omega arith in
        subst (λ z. IsSentBy next z c) same
        (record {
          story = asked_story slot.conn (own_end own.host c.place slot) peer contact start now;
          there = there;
          src_index = index_at x own far c slot a.begins;
          src = sym address;
          ack = λ ack. absurd (false≢true ack);
          rfc = λ _. (refl, number, refl);
        })
    by (suc j) p at = absurd (cc)

pub asked_pairs : (x : Side) (own far : Station) (c : Name) (slot : Slot) (peer : ℕ) (contact : List ℕ) (start now : ℕ)
    (new : List Sent)
    → Asking x own far c slot peer contact start now
    → (taker : Name)
    → (l : LabView)
    × IsPlayed x c taker (asked_story slot.conn (own_end own.host c.place slot) peer contact start now)
    (far.story taker) (own.sent ++ new) far.sent far.host.config l
asked_pairs x own far c slot peer contact start now new a taker =
    let g = a.begins in (
      begun_lab contact slot.conn far.host.config start now,
      pair_asks x c taker (far.story taker) (own.sent ++ new) far.sent far.host.config slot.conn
          (own_end own.host c.place slot) peer contact start now
          (blank_at x own far c slot g) g.free (not_zero own.host.address g.side.station.host.address) a.far_is a.short
          (fits_data (length contact) a.short) a.fits
          (subst IsConfig (sym (config_at x own far c slot g)) g.side.station.config) g.back.station.config
          (untaken x own far c slot g taker),
    )

-- one that asks takes nobody's request
pub asked_back : (x : Side) (own far : Station) (c : Name) (slot : Slot) (peer : ℕ) (contact : List ℕ) (start now : ℕ)
    (new : List Sent)
    → Asking x own far c slot peer contact start now
    → (asker : Name) (r : Story) → far.story asker ≡ Some r → r.asked ≡ true
    → (l : LabView)
    × IsPlayed (other x) asker c r
    (Some (asked_story slot.conn (own_end own.host c.place slot) peer contact start now)) far.sent
    (own.sent ++ new) own.host.config l
asked_back x own far c slot peer contact start now new a asker r there asked =
    let g = a.begins in
    let p = g.back.pairs asker c r there asked in
    let here : IsPlayed (other x) asker c r None far.sent own.sent own.host.config p.0 =
    subst (λ o. IsPlayed (other x) asker c r o far.sent own.sent own.host.config p.0) g.none p.1 in
    (p.0, pair_untaken (other x) asker c r None _ far.sent own.sent (own.sent ++ new) own.host.config p.0 here (λ h. h) (λ takes. false≢true (sym takes.0)) (λ k q at by to. not_peer x own far c slot g asker r there to))

-- ---- it takes a request

pub record Taking (x : Side) (own far : Station) (c : Name) (slot : Slot) (p : PacketView) (now : ℕ)
    (from : Option Name) : Type 0 where
  pub begins : Beginning x own far c slot
  pub arrival : IsArrival x own far p from
  pub src : (p.src == 0) ≡ false
  pub rfc : is_rfc (kind_of p.op) ≡ true

-- which connection asked
pub record Asker (far : Station) (p : PacketView) (from : Option Name) : Type 0 where
  pub name : Name
  pub from_is : from ≡ Some name
  pub sent : IsSentBy far p name

pub asker_is : (x : Side) (own far : Station) (c : Name) (slot : Slot) (p : PacketView) (now : ℕ) (from : Option Name)
    → Taking x own far c slot p now from → Asker far p from
asker_is x own far c slot p now from t =
    by from refl
    (subst (λ (z : PacketView × Option Name). IsSentOf far z.0 z.1) (λ j. (t.arrival.is j, t.arrival.by j))
    (t.begins.back.station.sent t.arrival.number t.arrival.packet t.arrival.there))
  where
    by : (o : Option Name) → from ≡ o → IsSentOf far p o → Asker far p from
    by None is h = absurd (false≢true (sym h.1 ∙ t.rfc))
    by (Some name) is h = record { name = name; from_is = is; sent = h }

takes_at : (x : Side) (own far : Station) (c : Name) (slot : Slot) (p : PacketView) (now : ℕ) (from : Option Name)
    → Taking x own far c slot p now from →
    act slot.conn (TakeRequest p (own_end own.host c.place slot) now)
    ≡ map_answer Did
    (quietly (after_taking_rfc slot.conn p (own_end own.host c.place slot) (moment slot.conn now)) (Ok tt))
takes_at x own far c slot p now from t =
    takes_rfc slot.conn p (own_end own.host c.place slot) now t.begins.free
    (not_zero own.host.address t.begins.side.station.host.address) t.src t.rfc

pub taken_then : (x : Side) (own far next : Station) (c : Name) (slot : Slot) (p : PacketView) (now : ℕ)
    (from : Option Name)
    → (t : Taking x own far c slot p now from) → (a : Asker far p from) → next.host.address ≡ own.host.address
    → own.turn c.place ≤ next.turn c.place
    → IsStory next far c (taken_story slot.conn p (own_end own.host c.place slot) now a.name)
taken_then x own far next c slot p now from t a address later =
    let view = ap (λ (z : Acted Reply). z.view) (takes_at x own far c slot p now from t) in
    let present = t.begins.present in
    record {
      named = λ used. record {
        me =
            ap (λ v. v.me) view
            ∙ (λ j. record { address = sym address j; index = index_at x own far c slot t.begins j });
        peer_index = ap (λ v. v.peer_index) view ∙ ap Some a.sent.src_index;
      };
      peer = (a.sent.story, a.sent.there, (a.sent.rfc t.rfc).0);
      place = place_at x own far c slot t.begins;
      turn = omega (arith, present, later);
    }

pub taken_sent : (x : Side) (own far : Station) (c : Name) (slot : Slot) (p : PacketView) (now : ℕ) (from : Option Name)
    → Taking x own far c slot p now from
    → (act slot.conn (TakeRequest p (own_end own.host c.place slot) now)).packets ≡ []
taken_sent x own far c slot p now from t = ap (λ (z : Acted Reply). z.packets) (takes_at x own far c slot p now from t)

pub taken_back : (x : Side) (own far : Station) (c : Name) (slot : Slot) (p : PacketView) (now : ℕ) (from : Option Name)
    (t : Taking x own far c slot p now from) (a : Asker far p from)
    → (asker : Name) (r : Story) → far.story asker ≡ Some r → r.asked ≡ true
    → (l : LabView)
    × IsPlayed (other x) asker c r (Some (taken_story slot.conn p (own_end own.host c.place slot) now a.name))
    far.sent (own.sent ++ []) own.host.config l
taken_back x own far c slot p now from t a asker r there asked =
    ⊎_elim
    (λ (same : asker ≡ a.name).
    let rfc = a.sent.rfc t.rfc in
    let story : a.sent.story ≡ r = some_eq (sym a.sent.there ∙ ap far.story (sym same) ∙ there) in
    let mine : IsPlayed (other x) asker c r None far.sent own.sent slot.conn.config pair.0 =
    subst (λ k. IsPlayed (other x) asker c r None far.sent own.sent k pair.0)
    (sym (config_at x own far c slot t.begins)) here in
    let m =
    pair_taken (other x) asker c r far.sent own.sent pair.0 slot.conn p (own_end own.host c.place slot) now [] mine
    (blank_at x own far c slot t.begins) t.begins.free (not_zero own.host.address t.begins.side.station.host.address)
    t.src t.rfc
    (rfc.1 ∙ ap (λ (z : Story). num z.end.first 0) story)
    (ap (λ (z : Story). slice_get z.end.written 0) (sym story) ∙ rfc.2)
    (not_peer x own far c slot t.begins asker r there)
    (λ k q at by. ⊎_elim (λ (old : slice_get own.sent k ≡ Some q). not_sender x own far c slot t.begins k q old by)
    (λ (new : (j : ℕ) × (slice_get [] j ≡ Some q)). none_at [] new.0 q refl new.1)
    (get_split own.sent [] k q at)) in
    (m.0, subst (λ (z : Name × ConfigView). IsPlayed (other x) asker c r (Some (taken_story slot.conn p (own_end own.host c.place slot) now z.0)) far.sent (own.sent ++ []) z.1 m.0) (λ j. (same j, config_at x own far c slot t.begins j)) m.1))
    (λ (apart : asker ≡ a.name → ⊥). (
      pair.0,
      pair_untaken (other x) asker c r None _ far.sent own.sent (own.sent ++ []) own.host.config pair.0 here (λ h. h)
          (λ takes. apart (sym (some_eq takes.1)))
          (λ k q at by to. not_peer x own far c slot t.begins asker r there to),
    ))
    (name_eq asker a.name)
  where
    pair : (l : LabView) × IsPlayed (other x) asker c r (own.story c) far.sent own.sent own.host.config l
    pair = t.begins.back.pairs asker c r there asked

    here : IsPlayed (other x) asker c r None far.sent own.sent own.host.config pair.0
    here = subst (λ o. IsPlayed (other x) asker c r o far.sent own.sent own.host.config pair.0) t.begins.none pair.1
