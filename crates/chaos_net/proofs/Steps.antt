-- Each event keeps what holds of a net, and the start has it.
use Rattle.std.proofs.Common.{◌≡◌, ℕ, ◌+◌, ◌%◌, ◌<◌, ◌≤◌, ◌==◌, List, [], ◌∷◌, ◌++◌, length, map, Bool, true, false, if◌then◌else◌, slice_set, Option, Some, None, refl, sym, ap, ◌∙◌, subst, inl, inr, ◌⊎◌, ⊎_elim, arith}
use Rattle.std.specs.Prelude.{slice_get}
use Rattle.std.proofs.lemmas.Bool.{false≢true, cond-true, cond-false, cases_Bool, eq-eqb, eqb-true}
use Rattle.chaos_packet.specs.Packet.{PacketView}
use Rattle.chaos_conn.specs.Config.{ConfigView, IsConfig}
use Rattle.chaos_conn.specs.State.{is_inactive}
use Rattle.chaos_conn.specs.Act.{Call, act}
use Rattle.chaos_conn.specs.Act.Call.{Request, TakeRequest, Accept, Answer, Reject, Deliver, Write, Unc, Read, FinishRead, Announce, Close, Tick}
use Rattle.chaos_conn.specs.Names.{IsBare, begins}
use Rattle.chaos_host.specs.declared.slot.Slot.{Slot}
use Rattle.chaos_host.specs.Slot.{is_free, after_ending}
use Rattle.chaos_host.specs.View.{HostView, IsHost, own_end}
use Rattle.chaos_host.specs.Acted.{with_slot, slot_after_call}
use Rattle.chaos_host.specs.Deeds.{HostMade, Deed, IsDeed, IsDone, IsNothing, FitsSlot}
use Rattle.chaos_host.specs.Deeds.Deed.{Nothing, Does}
use Rattle.chaos_lab.specs.declared.side.Side.{Side}
use Rattle.chaos_lab.specs.Machine.{other}
use Rattle.chaos_lab.specs.Laboratory.{LabView}
use Rattle.chaos_net.specs.Net.{Name, Story, Sent, Station, index_of, present, with_turn, with_story, story_after, story_of, goes_on, after_slot, after_deed, sender, length_of, sent_by}
use Rattle.chaos_net.specs.Played.{IsPlayed, HasPeer, IsSlot, IsStory, IsStation, IsSentBy, IsSentOf, IsSide}
use Rattle.chaos_net.proofs.Lists.{some_eq, all_at, get_split, get_unmap, none_at}
use Rattle.chaos_net.proofs.Pairs.{OfOther, pair_waits, taken_story, asked_story}
use Rattle.chaos_net.proofs.Stories.{view_of}
use Rattle.chaos_net.proofs.Next.{Next, Lasts, look_own, look_other, station_next, station_back, pairs_next, pairs_back, of_other, set_same, set_other}
use Rattle.chaos_net.proofs.Goes.{IsArrival, GoingOn}
use Rattle.chaos_net.proofs.Gone.{lasts_on, story_then, sent_then, pair_then, back_then}
use Rattle.chaos_net.proofs.Begun.{Asking, Taking, asker_is, asked_then, asked_sent, asked_pairs, asked_back, taken_then, taken_sent, taken_back}

-- ---- the next station

-- own after a call of the connection in the slot at a place: its story is f
abbrev pub after_call : Station → HostView → ℕ → Slot → Call → Story → List Sent → Station
after_call own host place slot call f new = record {
  host = host;
  turn = with_turn own.turn place (if is_free (slot_after_call slot call) then own.turn place + 1 else own.turn place);
  story = with_story own.story (present own place) (Some f);
  sent = own.sent ++ new;
}

turn_own : (turns : ℕ → ℕ) (place turn : ℕ) → with_turn turns place turn place ≡ turn
turn_own turns place turn = cond-true (place == place) turn (turns place) (eq-eqb place place refl)

ne_eqb : (a b : ℕ) → (a ≡ b → ⊥) → (a == b) ≡ false
ne_eqb a b apart = by (a == b) refl
  where
    by : (x : Bool) → (a == b) ≡ x → (a == b) ≡ false
    by true h = absurd (apart (eqb-true a b h))
    by false h = h

turn_other : (turns : ℕ → ℕ) (place turn one : ℕ) → (one ≡ place → ⊥) → with_turn turns place turn one ≡ turns one
turn_other turns place turn one apart = cond-false (one == place) turn (turns one) (ne_eqb one place apart)

nat_cases : (a b : ℕ) → (a ≡ b) ⊎ (a ≡ b → ⊥)
nat_cases a b = by (a == b) refl
  where
    by : (x : Bool) → (a == b) ≡ x → (a ≡ b) ⊎ (a ≡ b → ⊥)
    by true h = inl (eqb-true a b h)
    by false h = inr (λ same. false≢true (sym h ∙ eq-eqb a b same))

-- a story that isn't there yet
not_yet : (own far : Station) (place turn : ℕ) → IsStation own far → own.turn place < turn
    → own.story (record { place = place; turn = turn }) ≡ None
not_yet own far place turn h later = by (own.story (record { place = place; turn = turn })) refl
  where
    by : (o : Option Story) → own.story (record { place = place; turn = turn }) ≡ o → o ≡ None
    by None is = refl
    by (Some s) is =
        let t = (h.stories (record { place = place; turn = turn }) s is).turn in absurd (omega (arith, t, later))

-- the slot that did the call
slot_then : (own far : Station) (host : HostView) (place : ℕ) (slot : Slot) (call : Call) (f : Story) (new : List Sent)
    → IsStation own far → slice_get own.host.slots place ≡ Some slot → f.end.conn ≡ (act slot.conn call).view
    → IsSlot (after_call own host place slot call f new) place (after_ending (slot_after_call slot call))
slot_then own far host place slot call f new h there conn = by (is_free (slot_after_call slot call)) refl
  where
    s : Slot
    s = slot_after_call slot call

    next : Station
    next = after_call own host place slot call f new

    generation : slot.generation ≡ own.turn place % 256
    generation = (h.slots place slot there).generation

    by : (b : Bool) → is_free (slot_after_call slot call) ≡ b → IsSlot (after_call own host place slot call f new) place (after_ending (slot_after_call slot call))
    by true free =
        let turn : (after_call own host place slot call f new).turn place ≡ own.turn place + 1 = turn_own own.turn place _ ∙ cond-true _ _ _ free in
        let is : after_ending (slot_after_call slot call) ≡ record slot { generation = (slot.generation + 1) % 256; conn = (act slot.conn call).view } = cond-true _ _ _ free in
        subst (IsSlot (after_call own host place slot call f new) place) (sym is)
        (record {
          generation = let before = generation in omega (arith, before, turn);
          used = λ used. absurd (false≢true (sym used ∙ free));
          free = λ _.
              let name : present (after_call own host place slot call f new) place ≡ record { place = place; turn = own.turn place + 1 } = λ j. record { place = place; turn = turn j } in
              ap (after_call own host place slot call f new).story name
              ∙ look_other own.story (present own place) (Some f) (record { place = place; turn = own.turn place + 1 }) (λ same. let t = ap (λ (n : Name). n.turn) same in absurd (omega (arith, t)))
              ∙ not_yet own far place (own.turn place + 1) h (omega arith);
        })
    by false used =
        let turn : (after_call own host place slot call f new).turn place ≡ own.turn place = turn_own own.turn place _ ∙ cond-false _ _ _ used in
        let is : after_ending (slot_after_call slot call) ≡ slot_after_call slot call = cond-false _ _ _ used in
        subst (IsSlot (after_call own host place slot call f new) place) (sym is)
        (record {
          generation = generation ∙ ap (λ t. t % 256) (sym turn);
          used = λ _.
              let name : present (after_call own host place slot call f new) place ≡ present own place = λ j. record { place = place; turn = turn j } in
              (f, ap (after_call own host place slot call f new).story name ∙ look_own own.story (present own place) (Some f), conn);
          free = λ free. absurd (false≢true (sym used ∙ free));
        })

-- each other slot
slot_kept : (own : Station) (host : HostView) (place one : ℕ) (slot other_slot : Slot) (call : Call) (f : Story)
    (new : List Sent)
    → (one ≡ place → ⊥) → IsSlot own one other_slot → IsSlot (after_call own host place slot call f new) one other_slot
slot_kept own host place one slot other_slot call f new apart h =
    let turn : (after_call own host place slot call f new).turn one ≡ own.turn one =
    turn_other own.turn place _ one apart in
    let name : present (after_call own host place slot call f new) one ≡ present own one =
    λ j. record { place = one; turn = turn j } in
    let story : (after_call own host place slot call f new).story
    (present (after_call own host place slot call f new) one)
    ≡ own.story (present own one) =
    ap (after_call own host place slot call f new).story name
    ∙ look_other own.story (present own place) (Some f) (present own one)
    (λ same. apart (ap (λ (n : Name). n.place) same)) in
    record {
      generation = h.generation ∙ ap (λ t. t % 256) (sym turn);
      used = λ used. let u = h.used used in (u.0, story ∙ u.1, u.2);
      free = λ free. story ∙ h.free free;
    }

pub next_is : (own far : Station) (host : HostView) (place : ℕ) (slot : Slot) (call : Call) (f : Story)
    (new : List Sent)
    → IsStation own far → slice_get own.host.slots place ≡ Some slot
    → host ≡ with_slot own.host place (after_ending (slot_after_call slot call)) → IsHost host
    → f.end.conn ≡ (act slot.conn call).view → ((s : Story) → own.story (present own place) ≡ Some s → Lasts s f)
    → Next own (after_call own host place slot call f new) (present own place) f new
next_is own far host place slot call f new h there is sound conn lasts = record {
  story_own = look_own own.story (present own place) (Some f);
  story_other = look_other own.story (present own place) (Some f);
  turns = λ one. ⊎_elim
      (λ (same : one ≡ place). subst (λ z. own.turn z ≤ (after_call own host place slot call f new).turn z) (sym same)
      (grows (is_free (slot_after_call slot call)) refl))
      (λ (apart : one ≡ place → ⊥). let t = turn_other own.turn place
      (if is_free (slot_after_call slot call) then own.turn place + 1 else own.turn place) one apart in omega
      (arith, t))
      (nat_cases one place);
  sent = refl;
  address = ap (λ v. v.address) is;
  config = ap (λ v. v.config) is;
  host = sound;
  slots = λ one one_slot at.
      let now : slice_get (slice_set own.host.slots place (after_ending (slot_after_call slot call))) one
      ≡ Some one_slot =
      ap (λ (v : HostView). slice_get v.slots one) (sym is) ∙ at in
      ⊎_elim
      (λ (same : one ≡ place).
      let what : after_ending (slot_after_call slot call) ≡ one_slot =
      some_eq
      (sym (set_same own.host.slots place (after_ending (slot_after_call slot call)) slot there)
      ∙ ap (slice_get (slice_set own.host.slots place (after_ending (slot_after_call slot call))))
      (sym same)
      ∙ now) in
      subst (λ (z : ℕ × Slot). IsSlot (after_call own host place slot call f new) z.0 z.1) (λ j. (sym same j, what j))
      (slot_then own far host place slot call f new h there conn))
      (λ (apart : one ≡ place → ⊥).
      slot_kept own host place one slot one_slot call f new apart
      (h.slots one one_slot
      (sym (set_other own.host.slots place one (after_ending (slot_after_call slot call)) apart) ∙ now)))
      (nat_cases one place);
  lasts = lasts;
}
  where
    grows : (b : Bool) → is_free (slot_after_call slot call) ≡ b
        → own.turn place ≤ (after_call own host place slot call f new).turn place
    grows true free =
        let t = turn_own own.turn place
        (if is_free (slot_after_call slot call) then own.turn place + 1 else own.turn place)
        ∙ cond-true _ _ _ free in omega (arith, t)
    grows false used =
        let t = turn_own own.turn place
        (if is_free (slot_after_call slot call) then own.turn place + 1 else own.turn place)
        ∙ cond-false _ _ _ used in omega (arith, t)

-- ---- both sides of a step

pub record AreSides (x : Side) (own far : Station) : Type 0 where
  pub side : IsSide x own far
  pub back : IsSide (other x) far own

-- one connection's step
sides_by : (x : Side) (own far next : Station) (c : Name) (f : Story) (lengths : Side → Name → ℕ) (ps : List PacketView)
    → AreSides x own far → Next own next c f (map (sent_by (Some c) lengths) ps) → IsStory next far c f
    → ((j : ℕ) (p : PacketView) → slice_get ps j ≡ Some p → IsSentBy next p c)
    → (f.asked ≡ true → (taker : Name)
    → (l : LabView)
    × IsPlayed x c taker f (far.story taker) (own.sent ++ map (sent_by (Some c) lengths) ps) far.sent
    far.host.config l)
    → ((asker : Name) (r : Story) → far.story asker ≡ Some r → r.asked ≡ true
    → (l : LabView)
    × IsPlayed (other x) asker c r (Some f) far.sent (own.sent ++ map (sent_by (Some c) lengths) ps)
    own.host.config l)
    → AreSides x next far
sides_by x own far next c f lengths ps h n story sent pairs back = record {
  side = record {
    station = station_next own far next c f (map (sent_by (Some c) lengths) ps) h.side.station n story
        (λ j q at. let u = get_unmap (sent_by (Some c) lengths) ps j q at in subst
        (λ (z : Sent). IsSentOf next z.packet z.by) u.2 (sent j u.0 u.1));
    pairs =
        pairs_next x own far next c f (map (sent_by (Some c) lengths) ps) h.side.pairs n
        (λ d apart. of_other c d lengths ps apart) pairs;
  };
  back = record {
    station = station_back own far next c f (map (sent_by (Some c) lengths) ps) h.back.station n;
    pairs =
        pairs_back (other x) own far next c f (map (sent_by (Some c) lengths) ps) h.back.pairs n
        (λ d apart. of_other c d lengths ps apart) back;
  };
}

-- where its call comes from
abbrev pub CallFrom : Side → Station → Station → Option Name → Call → Type 0
CallFrom x own far from (Deliver p now) = IsArrival x own far p from
CallFrom x own far from (TakeRequest p me now) = IsArrival x own far p from
CallFrom x own far from (Request me peer contact start now) = start < 65536
CallFrom x own far from call = Unit {0}

abbrev pub DeedFrom : Side → Station → Station → Option Name → Deed → Type 0
DeedFrom x own far from Nothing = Unit {0}
DeedFrom x own far from (Does place call) = CallFrom x own far from call

-- what a deed makes of a station
abbrev pub station_by : Station → Deed → HostMade → Option Name → (Side → Name → ℕ) → Station
station_by own d made from lengths =
    record (after_deed own d from)
    { host = made.view; sent = own.sent ++ map (sent_by (sender own d) lengths) made.packets }

-- how many items each has written then
pub record AreLengths (x : Side) (own far : Station) (d : Deed) (from : Option Name) (lengths : Side → Name → ℕ) : Type
    0 where
  pub own_is : (name : Name) → lengths x name ≡ length_of ((after_deed own d from).story name)
  pub far_is : (name : Name) → lengths (other x) name ≡ length_of (far.story name)

-- ---- a connection in use

arrival_by : (x : Side) (own far : Station) (from : Option Name) (call : Call) → CallFrom x own far from call
    → (p : PacketView) (now : ℕ) → call ≡ Deliver p now → IsArrival x own far p from
arrival_by x own far from call h p now is = subst (CallFrom x own far from) is h

goes_by : (x : Side) (own far : Station) (place : ℕ) (call : Call) (made : HostMade) (from : Option Name)
    (lengths : Side → Name → ℕ)
    → AreSides x own far → (d : IsDone own.host place call made) → IsHost made.view → CallFrom x own far from call
    → AreLengths x own far (Does place call) from lengths
    → begins call ≡ false → is_free d.slot ≡ false → AreSides x (station_by own (Does place call) made from lengths) far
goes_by x own far place call made from lengths h d sound comes len b used =
    let c : Name = present own place in
    let u = (h.side.station.slots place d.slot d.there).used used in
    let s : Story = u.0 in
    let f : Story = goes_on s call from in
    let ps = (act s.end.conn call).packets in
    let new = map (sent_by (Some c) lengths) ps in
    let next : Station = after_call own made.view place d.slot call f new in
    let g : GoingOn x own far c s call from = record {
      side = h.side;
      back = h.back;
      there = u.1;
      present = refl;
      used = ap (λ v. is_inactive v.state) u.2 ∙ used;
      goes = b;
      arrival = arrival_by x own far from call comes;
    } in
    let conn : f.end.conn ≡ (act d.slot.conn call).view = view_of s call from ∙ ap (λ v. (act v call).view) u.2 in
    let n : Next own next c f new =
    next_is own far made.view place d.slot call f new h.side.station d.there d.view sound conn
    (λ t there. subst (λ z. Lasts z f) (some_eq (sym u.1 ∙ there)) (lasts_on x own far c s call from g)) in
    let story : (after_deed own (Does place call) from).story ≡ with_story own.story c (Some f) =
    ap (λ o. (after_slot own place call from o).story) d.there
    ∙ ap (λ o. with_story own.story c (story_after o d.slot.conn call from)) u.1 in
    let turn : (after_deed own (Does place call) from).turn ≡ next.turn =
    ap (λ o. (after_slot own place call from o).turn) d.there in
    let packets : made.packets ≡ ps = d.packets ∙ ap (λ v. (act v call).packets) (sym u.2) in
    let len_c : lengths x c ≡ length f.end.written =
    len.own_is c ∙ ap (λ stories. length_of (stories c)) story ∙ ap length_of (look_own own.story c (Some f)) in
    let sides : AreSides x next far = sides_by x own far next c f lengths ps h n
    (story_then x own far next c s call from g n.address (n.turns place))
    (sent_then x own far next c s call from g n.address n.story_own)
    (λ asked. pair_then x own far c s call from lengths g asked len_c len.far_is)
    (back_then x own far c s call from lengths g len_c len.far_is) in
    subst (λ z. AreSides x z far)
    (λ j.
    record { host = made.view; turn = sym turn j; story = sym story j; sent = own.sent ++ map (sent_by (Some c) lengths) (sym packets j) })
    sides

-- ---- a connection that begins

begun_sides : (x : Side) (own far : Station) (place : ℕ) (call : Call) (made : HostMade) (from : Option Name)
    (lengths : Side → Name → ℕ) (f : Story)
    → AreSides x own far → (d : IsDone own.host place call made) → IsHost made.view
    → own.story (present own place) ≡ None → story_of d.slot.conn call from ≡ Some f
    → f.end.conn ≡ (act d.slot.conn call).view
    → ((next : Station) → next.host.address ≡ own.host.address → own.turn place ≤ next.turn place
    → IsStory next far (present own place) f)
    → ((next : Station) → next.host.address ≡ own.host.address → next.story (present own place) ≡ Some f
    → (j : ℕ) (p : PacketView) → slice_get (act d.slot.conn call).packets j ≡ Some p
    → IsSentBy next p (present own place))
    → (f.asked ≡ true → (taker : Name)
    → (l : LabView)
    × IsPlayed x (present own place) taker f (far.story taker)
    (own.sent ++ map (sent_by (Some (present own place)) lengths) (act d.slot.conn call).packets) far.sent
    far.host.config l)
    → ((asker : Name) (r : Story) → far.story asker ≡ Some r → r.asked ≡ true
    → (l : LabView)
    × IsPlayed (other x) asker (present own place) r (Some f) far.sent
    (own.sent ++ map (sent_by (Some (present own place)) lengths) (act d.slot.conn call).packets)
    own.host.config l)
    → AreSides x (station_by own (Does place call) made from lengths) far
begun_sides x own far place call made from lengths f h d sound none begins_as conn story_f sent pairs back =
    let c : Name = present own place in
    let ps = (act d.slot.conn call).packets in
    let new = map (sent_by (Some c) lengths) ps in
    let next : Station = after_call own made.view place d.slot call f new in
    let n : Next own next c f new =
    next_is own far made.view place d.slot call f new h.side.station d.there d.view sound conn
    (λ t there. let no : None ≡ Some t = sym none ∙ there in absurd (cc)) in
    let story : (after_deed own (Does place call) from).story ≡ with_story own.story c (Some f) =
    ap (λ o. (after_slot own place call from o).story) d.there
    ∙ ap (λ o. with_story own.story c (story_after o d.slot.conn call from)) none
    ∙ ap (with_story own.story c) begins_as in
    let turn : (after_deed own (Does place call) from).turn ≡ next.turn =
    ap (λ o. (after_slot own place call from o).turn) d.there in
    let sides : AreSides x next far =
    sides_by x own far next c f lengths ps h n (story_f next n.address (n.turns place))
    (sent next n.address n.story_own) pairs back in
    subst (λ z. AreSides x z far)
    (λ j.
    record { host = made.view; turn = sym turn j; story = sym story j; sent = own.sent ++ map (sent_by (Some c) lengths) (sym d.packets j) })
    sides

begins_by : (x : Side) (own far : Station) (place : ℕ) (call : Call) (made : HostMade) (from : Option Name)
    (lengths : Side → Name → ℕ)
    → AreSides x own far → (d : IsDone own.host place call made) → IsHost made.view → CallFrom x own far from call
    → begins call ≡ true → AreSides x (station_by own (Does place call) made from lengths) far
begins_by x own far place (Request me peer contact start now) made from lengths h d sound comes b =
    let c : Name = present own place in
    let fits = d.fits in
    let none = (h.side.station.slots place d.slot d.there).free fits.0 in
    let a : Asking x own far c d.slot peer contact start now = record {
      begins = record { side = h.side; back = h.back; there = d.there; present = refl; free = fits.0; none = none };
      short = fits.2;
      far_is = fits.3;
      fits = comes;
    } in
    let call : Call = Request (own_end own.host place d.slot) peer contact start now in
    let e : IsDone own.host place call made =
    subst (λ m. IsDone own.host place (Request m peer contact start now) made) fits.1 d in
    let q : AreSides x (station_by own (Does place call) made from lengths) far =
    begun_sides x own far place call made from lengths
    (asked_story d.slot.conn (own_end own.host place d.slot) peer contact start now) h
    (record
    { slot = d.slot; there = d.there; fits = (fits.0, refl, fits.2, fits.3); view = d.view ∙ ap (λ m. with_slot own.host place (after_ending (slot_after_call d.slot (Request m peer contact start now)))) fits.1; packets = d.packets ∙ ap (λ m. (act d.slot.conn (Request m peer contact start now)).packets) fits.1 })
    sound none refl refl
    (λ next address later. asked_then x own far next c d.slot peer contact start now a address later)
    (λ next address there. asked_sent x own far next c d.slot peer contact start now a address there)
    (λ _ taker. asked_pairs x own far c d.slot peer contact start now _ a taker)
    (asked_back x own far c d.slot peer contact start now _ a) in
    subst (λ m. AreSides x (station_by own (Does place (Request m peer contact start now)) made from lengths) far)
    (sym fits.1) q
begins_by x own far place (TakeRequest p me now) made from lengths h d sound comes b =
    let c : Name = present own place in
    let fits = d.fits in
    let none = (h.side.station.slots place d.slot d.there).free fits.0 in
    let t : Taking x own far c d.slot p now from = record {
      begins = record { side = h.side; back = h.back; there = d.there; present = refl; free = fits.0; none = none };
      arrival = comes;
      src = fits.2;
      rfc = fits.3;
    } in
    let a = asker_is x own far c d.slot p now from t in
    let call : Call = TakeRequest p (own_end own.host place d.slot) now in
    let empty = taken_sent x own far c d.slot p now from t in
    let q : AreSides x (station_by own (Does place call) made from lengths) far =
    begun_sides x own far place call made from lengths
    (taken_story d.slot.conn p (own_end own.host place d.slot) now a.name) h
    (record
    { slot = d.slot; there = d.there; fits = (fits.0, refl, fits.2, fits.3); view = d.view ∙ ap (λ m. with_slot own.host place (after_ending (slot_after_call d.slot (TakeRequest p m now)))) fits.1; packets = d.packets ∙ ap (λ m. (act d.slot.conn (TakeRequest p m now)).packets) fits.1 })
    sound none (ap (λ o. story_of d.slot.conn call o) a.from_is) refl
    (λ next address later. taken_then x own far next c d.slot p now from t a address later)
    (λ next address there j pk at. none_at (act d.slot.conn call).packets j pk empty at)
    (λ asked. absurd (false≢true asked))
    (λ asker r there asked.
    let m = taken_back x own far c d.slot p now from t a asker r there asked in
    (m.0, subst (λ ps. IsPlayed (other x) asker c r (Some (taken_story d.slot.conn p (own_end own.host place d.slot) now a.name)) far.sent (own.sent ++ map (sent_by (Some c) lengths) ps) own.host.config m.0) (sym empty) m.1)) in
    subst (λ m. AreSides x (station_by own (Does place (TakeRequest p m now)) made from lengths) far) (sym fits.1) q
begins_by x own far place (Accept start now) made from lengths h d sound comes b = absurd (false≢true b)
begins_by x own far place (Answer bytes) made from lengths h d sound comes b = absurd (false≢true b)
begins_by x own far place (Reject text) made from lengths h d sound comes b = absurd (false≢true b)
begins_by x own far place (Deliver p now) made from lengths h d sound comes b = absurd (false≢true b)
begins_by x own far place (Write op bytes now) made from lengths h d sound comes b = absurd (false≢true b)
begins_by x own far place (Unc bytes) made from lengths h d sound comes b = absurd (false≢true b)
begins_by x own far place Read made from lengths h d sound comes b = absurd (false≢true b)
begins_by x own far place FinishRead made from lengths h d sound comes b = absurd (false≢true b)
begins_by x own far place (Announce window) made from lengths h d sound comes b = absurd (false≢true b)
begins_by x own far place (Close text) made from lengths h d sound comes b = absurd (false≢true b)
begins_by x own far place (Tick now) made from lengths h d sound comes b = absurd (false≢true b)

-- ---- no connection does anything

none_of : (lengths : Side → Name → ℕ) (ps : List PacketView) (d : Name) → OfOther (map (sent_by None lengths) ps) d
none_of lengths ps d j q at by =
    let u = get_unmap (sent_by None lengths) ps j q at in
    let no : None ≡ Some d = ap (λ (z : Sent). z.by) u.2 ∙ by in absurd (cc)

quiet_by : (x : Side) (own far : Station) (made : HostMade) (from : Option Name) (lengths : Side → Name → ℕ)
    → AreSides x own far → IsNothing own.host made → IsHost made.view
    → AreSides x (station_by own Nothing made from lengths) far
quiet_by x own far made from lengths h d sound =
    let next : Station = station_by own Nothing made from lengths in
    let new = map (sent_by None lengths) made.packets in
    record {
      side = record {
        station = record {
          host = sound;
          config = subst IsConfig (sym d.config) h.side.station.config;
          slots =
              λ place slot at. let o = h.side.station.slots place slot
              (ap (λ ss. slice_get ss place) (sym d.slots)
              ∙ at) in record { generation = o.generation; used = o.used; free = o.free };
          stories = λ name s there.
              let o = h.side.station.stories name s there in
              record {
                named =
                    λ used. let k = o.named
                    used in record { me = k.me ∙ (λ j. record { address = sym d.address j; index = index_of name }); peer_index = k.peer_index };
                peer = o.peer;
                place = o.place;
                turn = o.turn;
              };
          sent = λ k q at.
              ⊎_elim
              (λ (old : slice_get own.sent k ≡ Some q). sent_same q.packet q.by (h.side.station.sent k q old))
              (λ (now : (j : ℕ) × (slice_get new j ≡ Some q)).
              let u = get_unmap (sent_by None lengths) made.packets now.0 q now.1 in
              subst (λ (z : Sent). IsSentOf (station_by own Nothing made from lengths) z.packet z.by) u.2
              (all_at IsBare made.packets now.0 u.0 d.packets u.1))
              (get_split own.sent new k q at);
        };
        pairs = λ asker taker r there asked.
            let p = h.side.pairs asker taker r there asked in
            let q =
            pair_waits x asker taker r (far.story taker) own.sent far.sent new [] far.host.config p.0 p.1
            (none_of lengths made.packets asker) (none_new taker) in
            (p.0, subst (λ z. IsPlayed x asker taker r (far.story taker) (own.sent ++ new) z far.host.config p.0) (append-nil far.sent) q);
      };
      back = record {
        station = record {
          host = h.back.station.host;
          config = h.back.station.config;
          slots = h.back.station.slots;
          stories = λ name s there.
              let o = h.back.station.stories name s there in
              record {
                named = λ used. let k = o.named used in record { me = k.me; peer_index = k.peer_index };
                peer = peer_same name s s.peer s.asked o.peer;
                place = o.place;
                turn = o.turn;
              };
          sent = h.back.station.sent;
        };
        pairs = λ asker taker r there asked.
            let p = h.back.pairs asker taker r there asked in
            let q =
            pair_waits (other x) asker taker r (own.story taker) far.sent own.sent [] new own.host.config p.0 p.1
            (none_new asker) (none_of lengths made.packets taker) in
            (p.0, subst (λ (z : List Sent × ConfigView). IsPlayed (other x) asker taker r (own.story taker) z.0 (own.sent ++ new) z.1 p.0) (λ j. (append-nil far.sent j, sym d.config j)) q);
      };
    }
  where
    append-nil : {X : Type 0} (xs : List X) → xs ++ [] ≡ xs
    append-nil [] = refl
    append-nil (y ∷ ys) = ap (λ zs. y ∷ zs) (append-nil ys)

    none_new : (name : Name) → OfOther [] name
    none_new name j q at by = none_at [] j q refl at

    sent_same : (p : PacketView) (by : Option Name) → IsSentOf own p by
        → IsSentOf (station_by own Nothing made from lengths) p by
    sent_same p None h = h
    sent_same p (Some name) h =
        record { story = h.story; there = h.there; src_index = h.src_index; src = h.src ∙ sym d.address; ack = h.ack; rfc = h.rfc }

    peer_same : (name : Name) (s : Story) (peer : Option Name) (asked : Bool) → HasPeer own name s peer asked
        → HasPeer (station_by own Nothing made from lengths) name s peer asked
    peer_same name s None asked h = h
    peer_same name s (Some peer) true h = h
    peer_same name s (Some peer) false h = h

-- ---- a step

pub not_begins : (v : HostView) (place : ℕ) (slot : Slot) (call : Call) → begins call ≡ false
    → FitsSlot v place slot call → is_free slot ≡ false
not_begins v place slot (Request me peer contact start now) b h = absurd (false≢true (sym b))
not_begins v place slot (TakeRequest rfc me now) b h = absurd (false≢true (sym b))
not_begins v place slot (Accept start now) b h = h
not_begins v place slot (Answer bytes) b h = h
not_begins v place slot (Reject text) b h = h
not_begins v place slot (Deliver p now) b h = h
not_begins v place slot (Write op bytes now) b h = h
not_begins v place slot (Unc bytes) b h = h
not_begins v place slot Read b h = h
not_begins v place slot FinishRead b h = h
not_begins v place slot (Announce window) b h = h
not_begins v place slot (Close text) b h = h
not_begins v place slot (Tick now) b h = h

pub by_deed : (x : Side) (own far : Station) (d : Deed) (made : HostMade) (from : Option Name)
    (lengths : Side → Name → ℕ)
    → AreSides x own far → IsDeed own.host d made → IsHost made.view → DeedFrom x own far from d
    → AreLengths x own far d from lengths
    → AreSides x (station_by own d made from lengths) far
by_deed x own far Nothing made from lengths h d sound comes len = quiet_by x own far made from lengths h d sound
by_deed x own far (Does place call) made from lengths h d sound comes len =
    ⊎_elim
    (λ (b : begins call ≡ true). begins_by x own far place call made from lengths h d sound comes b)
    (λ (b : begins call ≡ false). goes_by x own far place call made from lengths h d sound comes len b
    (not_begins own.host place d.slot call b d.fits))
    (cases_Bool (begins call))
