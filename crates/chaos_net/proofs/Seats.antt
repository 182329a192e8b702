-- The seats of a station after an event: they tell the turns of the connections that are there, and of their peers.
use Rattle.std.proofs.Common.{◌≡◌, ℕ, zero, suc, ◌+◌, ◌≤◌, ◌==◌, List, [], ◌∷◌, length, Bool, true, false, if◌then◌else◌, Option, Some, None, slice_set, refl, sym, ap, ◌∙◌, subst, inl, inr, ◌⊎◌, ⊎_elim, arith}
use Rattle.std.specs.Prelude.{slice_get}
use Rattle.std.proofs.lemmas.Bool.{false≢true, cond-true, cond-false, eq-eqb, eqb-true, cases_Bool}
use Rattle.chaos_packet.specs.Packet.{PacketView}
use Rattle.chaos_conn.specs.Act.{Call}
use Rattle.chaos_host.specs.declared.slot.Slot.{Slot}
use Rattle.chaos_host.specs.Slot.{is_free}
use Rattle.chaos_host.specs.Acted.{slot_after_call}
use Rattle.chaos_host.specs.Deeds.{Deed}
use Rattle.chaos_host.specs.Deeds.Deed.{Nothing, Does}
use Rattle.chaos_net.specs.declared.mark.Mark.{Mark}
use Rattle.chaos_net.specs.declared.mark.Mark.TheVariants.{Stays, Begins, Joins, Frees}
use Rattle.chaos_net.specs.declared.seat.Seat.{Seat}
use Rattle.chaos_net.specs.Net.{Name, Story, Station, present, sender, story_after, after_slot, after_deed}
use Rattle.chaos_net.specs.Kept.{before, after, alter, alter_at, seat_in, by_of, meant_of}
use Rattle.chaos_net.specs.Running.{turn_of, IsSeatOf}
use Rattle.chaos_net.proofs.Lists.{some_eq}
use Rattle.chaos_net.proofs.Next.{look_own, look_other, set_same, set_other}

-- ---- one seat of a list changes

module _ (f : Seat → Seat) (seats : List Seat) (place : ℕ) where
  pub alter_same : (seat : Seat) → slice_get seats place ≡ Some seat
      → slice_get (alter f seats (Some place)) place ≡ Some (f seat)
  alter_same seat there =
      ap (λ o. slice_get (alter_at f seats place o) place) there ∙ set_same seats place (f seat) seat there

  pub alter_other : (one : ℕ) → (one ≡ place → ⊥) → slice_get (alter f seats (Some place)) one ≡ slice_get seats one
  alter_other one apart = by (slice_get seats place)
    where
      by : (o : Option Seat) → slice_get (alter_at f seats place o) one ≡ slice_get seats one
      by None = refl
      by (Some seat) = set_other seats place one (f seat) apart

  -- what stands there then was changed
  pub alter_back : (out : Seat) → slice_get (alter f seats (Some place)) place ≡ Some out
      → (seat : Seat) × (slice_get seats place ≡ Some seat) × (f seat ≡ out)
  alter_back out h = by (slice_get seats place) refl
    where
      by : (o : Option Seat) → slice_get seats place ≡ o
          → (seat : Seat) × (slice_get seats place ≡ Some seat) × (f seat ≡ out)
      by None is =
          let no : None ≡ Some out = sym is ∙ sym (ap (λ o. slice_get (alter_at f seats place o) place) is)
          ∙ h in absurd (cc)
      by (Some seat) is = (seat, is, some_eq (sym (alter_same seat is) ∙ h))

set_back : (seats : List Seat) (place : ℕ) (seat : Seat) → slice_get seats place ≡ Some seat
    → slice_set seats place seat ≡ seats
set_back [] place seat h = absurd (cc)
set_back (x ∷ xs) zero seat h = λ j. sym (some_eq h) j ∷ xs
set_back (x ∷ xs) (suc place) seat h = ap (λ ys. x ∷ ys) (set_back xs place seat h)

length_set : (seats : List Seat) (place : ℕ) (seat : Seat) → length (slice_set seats place seat) ≡ length seats
length_set [] place seat = refl
length_set (x ∷ xs) zero seat = refl
length_set (x ∷ xs) (suc place) seat = ap suc (length_set xs place seat)

pub alter_length : (f : Seat → Seat) (seats : List Seat) (place : ℕ)
    → length (alter f seats (Some place)) ≡ length seats
alter_length f seats place = by (slice_get seats place)
  where
    by : (o : Option Seat) → length (alter_at f seats place o) ≡ length seats
    by None = refl
    by (Some seat) = length_set seats place (f seat)

-- nothing changes where a seat is set to itself
pub alter_none : (f : Seat → Seat) (seats : List Seat) (place : ℕ) → ((seat : Seat) → f seat ≡ seat)
    → alter f seats (Some place) ≡ seats
alter_none f seats place same = by (slice_get seats place) refl
  where
    by : (o : Option Seat) → slice_get seats place ≡ o → alter_at f seats place o ≡ seats
    by None is = refl
    by (Some seat) is = ap (slice_set seats place) (same seat) ∙ set_back seats place seat is

-- a list of the same length has something there too
pub there_too : {X Y : Type 0} (xs : List X) (ys : List Y) (k : ℕ) (x : X) → length ys ≡ length xs
    → slice_get xs k ≡ Some x → (y : Y) × (slice_get ys k ≡ Some y)
there_too [] ys k x same h = absurd (cc)
there_too (z ∷ xs) [] k x same h = absurd (cc)
there_too (z ∷ xs) (y ∷ ys) zero x same h = (y, refl)
there_too (z ∷ xs) (y ∷ ys) (suc k) x same h = there_too xs ys k x (omega (arith, same)) h

-- ---- seats of a station

-- each seat tells the turn of the connection there, and that of its peer
abbrev pub AreSeats : Station → List Seat → Type 0
AreSeats st seats = (place : ℕ) (seat : Seat) → slice_get seats place ≡ Some seat → IsSeatOf st (present st place) seat

-- no story is later than the present one of its slot
abbrev pub AreStories : Station → Type 0
AreStories st = (name : Name) (s : Story) → st.story name ≡ Some s → name.turn ≤ st.turn name.place

-- What a deed makes of the seats of a station, by a mark at a place, and whom the seat there tells while it sends.
pub record IsMarked (st : Station) (d : Deed) (from : Option Name) (place : Option ℕ) (mark : Mark)
    (packets : List PacketView) (old : List Seat) : Type 0 where
  pub seats : AreSeats (after_deed st d from) (alter (after mark) (alter (before mark) old place) place)
  pub by : (packets ≡ []) ⊎ (by_of (seat_in (alter (before mark) old place) place) ≡ turn_of (sender st d))
  pub meant : (c : Name) (s : Story) → sender st d ≡ Some c → (after_deed st d from).story c ≡ Some s
      → meant_of (seat_in (alter (before mark) old place) place) ≡ turn_of s.peer

-- ---- no connection does anything

pub marked_nobody : (st : Station) (from : Option Name) (mark : Mark) (packets : List PacketView) (seats : List Seat)
    → AreSeats st seats → IsMarked st Nothing from None mark packets seats
marked_nobody st from mark packets seats h = record {
  seats = h;
  by = inr refl;
  meant = λ c s is there. let no : None ≡ Some c = is in absurd (cc);
}

pub marked_quiet : (st : Station) (from : Option Name) (place : ℕ) (packets : List PacketView) (seats : List Seat)
    → packets ≡ [] → AreSeats st seats → IsMarked st Nothing from (Some place) Stays packets seats
marked_quiet st from place packets seats none h =
    let first : alter (before Stays) seats (Some place) ≡ seats = alter_none (before Stays) seats place (λ _. refl) in
    let last : alter (after Stays) seats (Some place) ≡ seats = alter_none (after Stays) seats place (λ _. refl) in
    record {
      seats = subst (AreSeats st) (sym (ap (λ z. alter (after Stays) z (Some place)) first ∙ last)) h;
      by = inl none;
      meant = λ c s is there. let no : None ≡ Some c = is in absurd (cc);
    }

-- ---- a connection does something

seat_moves : (st next : Station) (name : Name) (seat : Seat) → IsSeatOf st name seat → next.story name ≡ st.story name
    → IsSeatOf next name seat
seat_moves st next name seat h same = record { turn = h.turn; peer = λ s there. h.peer s (sym same ∙ there) }

-- A connection in a slot does a call. While it sends, its seat tells it and its peer as they are then; and where the
-- slot is freed, the seat tells the next turn.
pub record IsSeated (st : Station) (place : ℕ) (call : Call) (from : Option Name) (slot : Slot) (mark : Mark) : Type 0
  where
    pub there : slice_get st.host.slots place ≡ Some slot
    pub stories : AreStories st
    pub mid : (seat : Seat) (f : Story) → IsSeatOf st (present st place) seat
        → story_after (st.story (present st place)) slot.conn call from ≡ Some f
        → (before mark seat).peer ≡ turn_of f.peer
    pub freed : is_free (slot_after_call slot call) ≡ true → (seat : Seat)
        → after mark seat ≡ record { turn = seat.turn + 1; peer = None }
    pub used : is_free (slot_after_call slot call) ≡ false → (seat : Seat) → after mark seat ≡ seat

before_turn : (mark : Mark) (seat : Seat) → (before mark seat).turn ≡ seat.turn
before_turn Stays seat = refl
before_turn Frees seat = refl
before_turn (Begins peer) seat = refl
before_turn (Joins peer) seat = refl

module _ (st : Station) (place : ℕ) (call : Call) (from : Option Name) (slot : Slot) (mark : Mark) (seats : List Seat)
    (h : IsSeated st place call from slot mark) (all : AreSeats st seats) where
  abbrev c : Name
  c = present st place

  abbrev next : Station
  next = after_slot st place call from (Some slot)

  here : next.story c ≡ story_after (st.story c) slot.conn call from
  here = look_own st.story (present st place) (story_after (st.story (present st place)) slot.conn call from)

  mid_seat : (seat : Seat) → slice_get seats place ≡ Some seat → IsSeatOf next c (before mark seat)
  mid_seat seat there =
      let old = all place seat there in
      record {
        turn = before_turn mark seat ∙ old.turn;
        peer = λ f is. h.mid seat f old (sym here ∙ is);
      }

  turn_here : next.turn place ≡ (if is_free (slot_after_call slot call) then st.turn place + 1 else st.turn place)
  turn_here = cond-true (place == place) _ _ (eq-eqb place place refl)

  turn_other : (one : ℕ) → (one ≡ place → ⊥) → next.turn one ≡ st.turn one
  turn_other one apart = cond-false (one == place) _ _ (by (one == place) refl)
    where
      by : (b : Bool) → (one == place) ≡ b → (one == place) ≡ false
      by true is = absurd (apart (eqb-true one place is))
      by false is = is

  story_other : (name : Name) → (name ≡ c → ⊥) → next.story name ≡ st.story name
  story_other name apart =
      look_other st.story (present st place) (story_after (st.story (present st place)) slot.conn call from) name apart

  -- the seat at the place
  seat_here : (seat : Seat) → slice_get seats place ≡ Some seat → IsSeatOf next (present next place) (after mark (before mark seat))
  seat_here seat there = by (is_free (slot_after_call slot call)) refl
    where
      by : (b : Bool) → is_free (slot_after_call slot call) ≡ b → IsSeatOf next (present next place) (after mark (before mark seat))
      by false is =
          let turn : next.turn place ≡ st.turn place = turn_here ∙ ap (λ b. if b then st.turn place + 1 else st.turn place) is in
          let same : present next place ≡ c = λ j. record { place = place; turn = turn j } in
          subst (λ (z : Name × Seat). IsSeatOf next z.0 z.1) (λ j. (sym same j, sym (h.used is (before mark seat)) j)) (mid_seat seat there)
      by true is =
          let turn : next.turn place ≡ st.turn place + 1 = turn_here ∙ ap (λ b. if b then st.turn place + 1 else st.turn place) is in
          let told : after mark (before mark seat) ≡ record { turn = (before mark seat).turn + 1; peer = None } = h.freed is (before mark seat) in
          let was : (before mark seat).turn ≡ st.turn place = before_turn mark seat ∙ (all place seat there).turn in
          let later : present next place ≡ c → ⊥ = λ same. let t : next.turn place ≡ st.turn place = ap (λ (name : Name). name.turn) same in omega (arith, t, turn) in
          record {
            turn = ap (λ (s : Seat). s.turn) told ∙ ap (λ k. k + 1) was ∙ sym turn;
            peer = λ s is_there.
                let late = h.stories (present next place) s (sym (story_other (present next place) later) ∙ is_there) in
                absurd (omega (arith, late, turn));
          }

  -- the other seats
  seat_other : (one : ℕ) (seat : Seat) → (one ≡ place → ⊥) → slice_get seats one ≡ Some seat
      → IsSeatOf next (present next one) seat
  seat_other one seat apart there =
      let same : present st one ≡ present next one = λ j. record { place = one; turn = sym (turn_other one apart) j } in
      let elsewhere : present st one ≡ present st place → ⊥ = λ is. apart (ap (λ (name : Name). name.place) is) in
      subst (λ name. IsSeatOf next name seat) same
      (seat_moves st next (present st one) seat (all one seat there) (story_other (present st one) elsewhere))

  seats_then : AreSeats next (alter (after mark) (alter (before mark) seats (Some place)) (Some place))
  seats_then one out is =
      ⊎_elim
      (λ (same : one ≡ place).
      let at : slice_get (alter (after mark) (alter (before mark) seats (Some place)) (Some place)) place ≡ Some out =
      ap (slice_get (alter (after mark) (alter (before mark) seats (Some place)) (Some place))) (sym same) ∙ is in
      let last = alter_back (after mark) (alter (before mark) seats (Some place)) place out at in
      let first = alter_back (before mark) seats place last.0 last.1 in
      subst (λ (z : ℕ × Seat). IsSeatOf next (present next z.0) z.1)
      (λ j. (sym same j, (ap (after mark) first.2 ∙ last.2) j)) (seat_here first.0 first.1))
      (λ (apart : one ≡ place → ⊥).
      seat_other one out apart
      (sym (alter_other (before mark) seats place one apart)
      ∙ sym (alter_other (after mark) (alter (before mark) seats (Some place)) place one apart) ∙ is))
      (place_eq one place)
    where
      place_eq : (a b : ℕ) → (a ≡ b) ⊎ (a ≡ b → ⊥)
      place_eq a b =
          ⊎_elim (λ (is : (a == b) ≡ true). inl (eqb-true a b is))
          (λ (is : (a == b) ≡ false). inr (λ same. false≢true (sym is ∙ eq-eqb a b same))) (cases_Bool (a == b))

pub marked_does : (st : Station) (place : ℕ) (call : Call) (from : Option Name) (slot : Slot) (mark : Mark)
    (packets : List PacketView) (seats : List Seat)
    → IsSeated st place call from slot mark → length seats ≡ length st.host.slots → AreSeats st seats
    → IsMarked st (Does place call) from (Some place) mark packets seats
marked_does st place call from slot mark packets seats h size all =
    let seat = there_too st.host.slots seats place slot size h.there in
    let mid = alter_same (before mark) seats place seat.0 seat.1 in
    let told = mid_seat st place call from slot mark seats h all seat.0 seat.1 in
    let same : after_deed st (Does place call) from ≡ after_slot st place call from (Some slot) =
    ap (after_slot st place call from) h.there in
    record {
      seats =
          subst (λ z. AreSeats z (alter (after mark) (alter (before mark) seats (Some place)) (Some place))) (sym same)
          (seats_then st place call from slot mark seats h all);
      by = inr (ap by_of mid ∙ ap Some told.turn);
      meant = λ name s is there.
          let named : present st place ≡ name = some_eq is in
          ap meant_of mid
          ∙ told.peer s
          (ap (λ (z : Station). z.story (present st place)) (sym same)
          ∙ ap (after_deed st (Does place call) from).story named ∙ there);
    }
