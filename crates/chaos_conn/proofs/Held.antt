-- What an end that has met its peer holds stays where it is until it is read.
use Rattle.std.proofs.Common.{◌≡◌, ℕ, zero, suc, ◌+◌, ◌-◌, ◌*◌, Bool, true, false, not, ◌==◌, if◌then◌else◌, List, [], ◌∷◌, ◌++◌, drop, length, nat_lt, nat_le, Option, Some, None, slice_set, refl, sym, ap, ◌∙◌, inl, inr, ◌⊎◌, is_some, unwrap_or, arith}
use Rattle.std.specs.Prelude.{slice_get}
use Rattle.std.proofs.lemmas.Bool.{false≢true}
use Rattle.chaos_packet.specs.Item.{ItemView}
use Rattle.chaos_packet.specs.Number.{off}
use Rattle.chaos_packet.specs.Opcode.{op_cls, op_ans, kind_of, is_rfc}
use Rattle.chaos_packet.specs.Packet.{PacketView, status_of, item_of}
use Rattle.chaos_packet.specs.declared.limits.TheConstants.{MAX_DATA}
use Rattle.chaos_packet.specs.declared.opcode.Kind.{Kind}
use Rattle.chaos_packet.specs.declared.opcode.Kind.TheVariants as kind
use Rattle.chaos_window.specs.Receive.{ReceiveView, clear_receive, item_at, is_held, is_within, is_past, arrival_at, arrival_of, after_answer, after_arrival, after_reading, after_advance}
use Rattle.chaos_window.specs.declared.arrival.Arrived.{Arrived}
use Rattle.chaos_window.specs.declared.arrival.Arrived.TheVariants as arr
use Rattle.chaos_conn.specs.declared.state.State.{State}
use Rattle.chaos_conn.specs.declared.state.State.TheVariants as st
use Rattle.chaos_conn.specs.declared.time.Due.{Due}
use Rattle.chaos_conn.specs.declared.time.Due.TheVariants as due
use Rattle.chaos_conn.specs.declared.answers.ReadEnd.{ReadEnd}
use Rattle.chaos_conn.specs.declared.answers.ReadEnd.TheVariants as end
use Rattle.chaos_conn.specs.State.{is_inactive, is_live, is_open, is_opening, is_requested}
use Rattle.chaos_conn.specs.View.{ConnView, moment, heard_at}
use Rattle.chaos_conn.specs.Acted.{Acted, quietly}
use Rattle.chaos_conn.specs.Sending.{with_sts}
use Rattle.chaos_conn.specs.Time.{ticked_by, due_of, at_moment}
use Rattle.chaos_conn.specs.Opening.{turn_away}
use Rattle.chaos_conn.specs.Calls.{write_at_most, most_bytes, has_window, read_at_open, read_at_end, front_of}
use Rattle.chaos_conn.specs.Arriving.{act_deliver, is_between_hosts, is_between_indices, is_index, deliver_in, deliver_open, after_end, after_second_opn_telling, after_sts_telling, after_arrived, heard_with_ack, after_rfc, repeated_request}
use Rattle.chaos_conn.specs.Act.Call.{Request, TakeRequest, Accept, Answer, Reject, Deliver, Write, Unc, Read, FinishRead, Announce, Close, Tick}
use Rattle.chaos_conn.specs.Held.{has_met, HoldsAs, HeldStays, given_by, IsReadBy, HeldIsRead}
use Rattle.chaos_conn.proofs.Kept.{item_at_next}

-- all stays held, or the end is closed
abbrev Goes : ConnView → ConnView → Type 0
Goes v w = (is_inactive w.state ≡ true) ⊎ HoldsAs v w

as_it_was : (v : ConnView) → has_met v.state ≡ true → Goes v v
as_it_was v h = inr (record { met = h; held = λ place item there. there })

-- the states of an end that has met its peer
not_requested : (s : State) → has_met s ≡ true → is_requested s ≡ false
not_requested st.RfcReceived h = absurd (false≢true h)
not_requested s h = refl

not_opening : (s : State) → has_met s ≡ true → is_opening s ≡ false
not_opening st.RfcSent h = absurd (false≢true h)
not_opening st.RfcReceived h = absurd (false≢true h)
not_opening s h = refl

module _ {A : Type 0} where
  abbrev Leaves : ConnView → Acted A → Type 0
  Leaves v acted = Goes v acted.view

  either : (v : ConnView) (b : Bool) (x y : Acted A) → Leaves v x → Leaves v y → Leaves v (if b then x else y)
  either v true x y p q = p
  either v false x y p q = q

  -- a call for an end that holds a request
  unasked : (v : ConnView) (b : Bool) (x y : Acted A) → b ≡ false → Leaves v y → Leaves v (if b then x else y)
  unasked v true x y h q = absurd (false≢true (sym h))
  unasked v false x y h q = q

-- ---- the user's calls, and the tick

at_most_leaves : (v : ConnView) (most : Option ℕ) (item : ItemView) (t : ℕ) → has_met v.state ≡ true
    → Leaves v (write_at_most v most item t)
at_most_leaves v None item t h = as_it_was v h
at_most_leaves v (Some most) item t h =
    either v (nat_lt most (length item.body)) _ _ (as_it_was v h)
    (either v (has_window v.send) _ _ (inr (record { met = h; held = λ place one there. there })) (as_it_was v h))

away_leaves : (v : ConnView) (op : ℕ) (bytes : List ℕ) → has_met v.state ≡ true → Leaves v (turn_away v op bytes)
away_leaves v op bytes h =
    either v (nat_lt MAX_DATA (length bytes)) _ _ (as_it_was v h)
    (unasked v (is_requested v.state) _ _ (not_requested v.state h) (as_it_was v h))

ticked_leaves : (v : ConnView) (now : ℕ) (d : Due) → has_met v.state ≡ true → Leaves v (ticked_by d (at_moment v now))
ticked_leaves v now due.HostDown h = inr (record { met = refl; held = λ place one there. there })
ticked_leaves v now due.Resend h = inr (record { met = h; held = λ place one there. there })
ticked_leaves v now due.Probe h = inr (record { met = h; held = λ place one there. there })
ticked_leaves v now due.Nothing h = inr (record { met = h; held = λ place one there. there })

-- ---- an item that comes: it takes an empty place

set_other : {X : Type 0} (xs : List X) (i j : ℕ) (x : X) → (j ≡ i → ⊥) → slice_get (slice_set xs i x) j ≡ slice_get xs j
set_other [] i j x apart = refl
set_other (z ∷ xs) zero zero x apart = absurd (apart refl)
set_other (z ∷ xs) zero (suc j) x apart = refl
set_other (z ∷ xs) (suc i) zero x apart = refl
set_other (z ∷ xs) (suc i) (suc j) x apart = set_other xs i j x (λ h. apart (ap suc h))

-- an item is taken at an offset from 1 on where none is held
record IsEmptyPlace (v : ReceiveView) (offset : ℕ) : Type 0 where
  empty : is_held v offset ≡ false
  within : is_within v offset ≡ true

taken_at : (v : ReceiveView) (offset : ℕ) → arrival_at v offset ≡ arr.Took → IsEmptyPlace v offset
taken_at v offset h = by (is_held v offset) (is_within v offset) (is_past v offset) refl refl h
  where
    by : (a b c : Bool) → is_held v offset ≡ a → is_within v offset ≡ b
        → (if a then arr.Duplicate else (if b then arr.Took else (if c then arr.Outside else arr.Duplicate))) ≡ arr.Took
        → IsEmptyPlace v offset
    by true b c p q h = let no : arr.Duplicate ≡ arr.Took = h in absurd (cc)
    by false true c p q h = record { empty = p; within = q }
    by false false true p q h = let no : arr.Outside ≡ arr.Took = h in absurd (cc)
    by false false false p q h = let no : arr.Duplicate ≡ arr.Took = h in absurd (cc)

from_one : (v : ReceiveView) (offset : ℕ) → is_within v offset ≡ true → (k : ℕ) × (offset ≡ k + 1)
from_one v zero h = absurd (false≢true h)
from_one v (suc k) h = (k, omega arith)

arrived_held : (v : ReceiveView) (number : ℕ) (item : ItemView) (a : Arrived) → arrival_of v number ≡ a
    → (place : ℕ) (one : ItemView) → item_at v (place + 1) ≡ Some one
    → item_at (after_answer a v (off number v.read) item) (place + 1) ≡ Some one
arrived_held v number item arr.Duplicate is place one there = there
arrived_held v number item arr.Outside is place one there = there
arrived_held v number item arr.Took is place one there =
    let offset : ℕ = off number v.read in
    let e = taken_at v offset is in
    let k = from_one v offset e.within in
    let w : ReceiveView = after_answer arr.Took v offset item in
    let apart : place ≡ offset - 1 → ⊥ = λ same.
    let here : place + 1 ≡ offset = let at = k.1 in omega (arith, at, same) in
    false≢true (sym e.empty ∙ ap (λ j. is_some (item_at v j)) (sym here) ∙ ap is_some there) in
    item_at_next w place
    ∙ ap (λ o. unwrap_or o None) (set_other v.held (offset - 1) place (Some item) apart)
    ∙ sym (item_at_next v place)
    ∙ there

came_leaves : (v u : ConnView) (number : ℕ) (item : ItemView) (a : Arrived) → arrival_of v.recv number ≡ a
    → u.recv ≡ v.recv → has_met u.state ≡ true → Leaves v (after_arrived u a number item)
came_leaves v u number item arr.Took is same h = inr (record {
  met = h;
  held =
      λ place one there. ap (λ r. item_at (after_arrival r number item) (place + 1)) same
      ∙ ap (λ a. item_at (after_answer a v.recv (off number v.recv.read) item) (place + 1)) is
      ∙ arrived_held v.recv number item arr.Took is place one there;
})
came_leaves v u number item arr.Duplicate is same h =
    inr (record { met = h; held = λ place one there. ap (λ r. item_at r (place + 1)) same ∙ there })
came_leaves v u number item arr.Outside is same h =
    inr (record { met = h; held = λ place one there. ap (λ r. item_at r (place + 1)) same ∙ there })

-- ---- packets that come

second_opn_leaves : (v : ConnView) (p : PacketView) (now : ℕ) (told : Option (ℕ × ℕ)) → has_met v.state ≡ true
    → Leaves v (after_second_opn_telling v p now told)
second_opn_leaves v p now None h = as_it_was v h
second_opn_leaves v p now (Some told) h = inr (record { met = h; held = λ place one there. there })

sts_leaves : (v : ConnView) (p : PacketView) (now : ℕ) (told : Option (ℕ × ℕ)) → has_met v.state ≡ true
    → Leaves v (after_sts_telling v p now told)
sts_leaves v p now None h = as_it_was v h
sts_leaves v p now (Some told) h = inr (record { met = h; held = λ place one there. there })

-- one that ends it leaves what is held
end_leaves : (v u : ConnView) (state : State) → u.recv ≡ v.recv → is_requested u.state ≡ false → has_met state ≡ true
    → Goes v (after_end u state)
end_leaves v u state same apart h = by (is_requested u.state) apart
  where
    by : (b : Bool) → b ≡ false
        → Goes v (record u { state = state; recv = if b then clear_receive u.recv.cap else u.recv })
    by true closed = absurd (false≢true (sym closed))
    by false closed = inr (record { met = h; held = λ place one there. ap (λ r. item_at r (place + 1)) same ∙ there })

open_leaves : (v : ConnView) (p : PacketView) (now : ℕ) (k : Kind) → has_met v.state ≡ true
    → Leaves v (deliver_open v p now k)
open_leaves v p now kind.Opn h = second_opn_leaves v p now (status_of p) h
open_leaves v p now kind.Rfc h = as_it_was v h
open_leaves v p now kind.Cls h = end_leaves v (heard_at v now) st.ClsReceived refl (not_requested v.state h) refl
open_leaves v p now kind.Fwd h = as_it_was v h
open_leaves v p now kind.Ans h = as_it_was v h
open_leaves v p now kind.Sns h = inr (record { met = h; held = λ place one there. there })
open_leaves v p now kind.Sts h = sts_leaves v p now (status_of p) h
open_leaves v p now kind.Los h = end_leaves v (heard_at v now) st.LosReceived refl (not_requested v.state h) refl
open_leaves v p now kind.Lsn h = as_it_was v h
open_leaves v p now kind.Eof h =
    came_leaves v (heard_with_ack v p now) p.num (record { op = p.op; body = [] }) (arrival_of v.recv p.num) refl refl h
open_leaves v p now kind.Unc h = inr (record { met = h; held = λ place one there. there })
open_leaves v p now kind.Data h =
    came_leaves v (heard_with_ack v p now) p.num (item_of p) (arrival_of v.recv p.num) refl refl h
open_leaves v p now kind.Other h = as_it_was v h

in_leaves : (v : ConnView) (p : PacketView) (now : ℕ) (s : State) → has_met s ≡ true → has_met v.state ≡ true
    → Leaves v (deliver_in s v p now)
in_leaves v p now st.Open k h = open_leaves v p now (kind_of p.op) h
in_leaves v p now st.RfcSent k h = absurd (false≢true k)
in_leaves v p now st.RfcReceived k h = absurd (false≢true k)
in_leaves v p now st.Inactive k h = as_it_was v h
in_leaves v p now st.Answered k h = as_it_was v h
in_leaves v p now st.ClsReceived k h = as_it_was v h
in_leaves v p now st.LosReceived k h = as_it_was v h
in_leaves v p now st.HostDown k h = as_it_was v h
in_leaves v p now st.Forwarded k h = as_it_was v h

repeated_leaves : (v : ConnView) (now : ℕ) (s : State) → has_met v.state ≡ true
    → Leaves v (repeated_request (heard_at v now) s)
repeated_leaves v now st.Open h = inr (record { met = h; held = λ place one there. there })
repeated_leaves v now s h = inr (record { met = h; held = λ place one there. there })

rfc_leaves : (v : ConnView) (p : PacketView) (now : ℕ) → has_met v.state ≡ true → Leaves v (after_rfc v p now)
rfc_leaves v p now h =
    either v v.asked _ _ (as_it_was v h) (either v (not (is_index v.peer_index p.src_index)) _ _ (as_it_was v h)
    (either v (not (p.num == v.request)) _ _ (as_it_was v h) (repeated_leaves v now v.state h)))

deliver_leaves : (v : ConnView) (p : PacketView) (now : ℕ) → has_met v.state ≡ true → Leaves v (act_deliver v p now)
deliver_leaves v p now h =
    either v (not (is_live v.state)) _ _ (as_it_was v h) (either v (not (is_between_hosts v p)) _ _ (as_it_was v h)
    (either v (is_rfc (kind_of p.op)) _ _ (rfc_leaves v p now h)
    (either v (not (is_between_indices v p)) _ _ (as_it_was v h) (in_leaves v p now v.state h h))))

-- ---- every call but a read

pub held_stays : HeldStays
held_stays v (Request me peer contact start now) b r h = absurd (false≢true (sym b))
held_stays v (TakeRequest rfc me now) b r h = absurd (false≢true (sym b))
held_stays v (Accept start now) b r h = unasked v (is_requested v.state) _ _ (not_requested v.state h) (as_it_was v h)
held_stays v (Answer bytes) b r h = away_leaves v op_ans bytes h
held_stays v (Reject text) b r h = away_leaves v op_cls text h
held_stays v (Deliver p now) b r h = deliver_leaves v p now h
held_stays v (Write op bytes now) b r h =
    either v (is_open v.state) _ _
    (at_most_leaves v (most_bytes (kind_of op)) (record { op = op; body = bytes }) (moment v now) h) (as_it_was v h)
held_stays v (Unc bytes) b r h =
    either v (is_open v.state) _ _ (either v (nat_lt MAX_DATA (length bytes)) _ _ (as_it_was v h) (as_it_was v h))
    (as_it_was v h)
held_stays v Read b r h = absurd (false≢true (sym r))
held_stays v FinishRead b r h = absurd (false≢true (sym r))
held_stays v (Announce window) b r h =
    either v (is_open v.state) _ _
    (either v (nat_lt v.config.recv_cap window) _ _ (as_it_was v h)
    (inr (record { met = h; held = λ place one there. there })))
    (as_it_was v h)
held_stays v (Close text) b r h = either v (nat_lt MAX_DATA (length text)) _ _ (as_it_was v h) (inl refl)
held_stays v (Tick now) b r h = ticked_leaves v now (due_of (at_moment v now)) h

-- ---- a read

pushed_get : {X : Type 0} (xs : List (Option X)) (k : ℕ)
    → unwrap_or (slice_get (xs ++ None ∷ []) k) None ≡ unwrap_or (slice_get xs k) None
pushed_get [] zero = refl
pushed_get [] (suc k) = refl
pushed_get (x ∷ xs) zero = refl
pushed_get (x ∷ xs) (suc k) = pushed_get xs k

lowered_get : {X : Type 0} (xs : List (Option X)) (k : ℕ)
    → unwrap_or (slice_get (drop 1 xs ++ None ∷ []) k) None ≡ unwrap_or (slice_get xs (suc k)) None
lowered_get [] zero = refl
lowered_get [] (suc k) = refl
lowered_get (x ∷ xs) k = pushed_get xs k

read_nearer : (v : ReceiveView) (front : ItemView) → item_at v 1 ≡ Some front → (place : ℕ) (item : ItemView)
    → item_at v (place + 1 + 1) ≡ Some item → item_at (after_advance v) (place + 1) ≡ Some item
read_nearer v front is place item there =
    let next : place + 1 ≡ suc place = omega arith in
    ap (λ o. item_at (after_reading o v) (place + 1)) is
    ∙ item_at_next (after_reading (Some front) v) place
    ∙ lowered_get v.held place
    ∙ ap (λ k. unwrap_or (slice_get v.held k) None) (sym next)
    ∙ sym (item_at_next v (place + 1))
    ∙ there

none_some : {X : Type 0} {P : Type 0} (o : Option X) (x : X) → o ≡ None → o ≡ Some x → P
none_some o x p q = let no : None ≡ Some x = sym p ∙ q in absurd (cc)

-- an item in front is read, whatever is told
read_item : (v w : ConnView) (item : ItemView) → front_of v ≡ Some item → has_met w.state ≡ true
    → w.recv ≡ after_advance v.recv → IsReadBy v (quietly w (end.Item item))
read_item v w item front h is = record {
  gives = sym front;
  met = h;
  nearer =
      λ one there place other far. ap (λ r. item_at r (place + 1)) is ∙ read_nearer v.recv one there place other far;
  stays = λ none. none_some (front_of v) item none front;
}

told_or_not : (v w : ConnView) (item : ItemView) (b : Bool) → front_of v ≡ Some item → has_met w.state ≡ true
    → w.recv ≡ after_advance v.recv → IsReadBy v (if b then with_sts w (end.Item item) else quietly w (end.Item item))
told_or_not v w item true front h is = record {
  gives = sym front;
  met = h;
  nearer =
      λ one there place other far. ap (λ r. item_at r (place + 1)) is ∙ read_nearer v.recv one there place other far;
  stays = λ none. none_some (front_of v) item none front;
}
told_or_not v w item false front h is = read_item v w item front h is

nothing_read : (v : ConnView) (given : ReadEnd) → given_by given ≡ None → front_of v ≡ None → has_met v.state ≡ true
    → IsReadBy v (quietly v given)
nothing_read v given none front h = record {
  gives = none ∙ sym front;
  met = h;
  nearer = λ one there. none_some (front_of v) one front there;
  stays = λ _. record { met = h; held = λ place item there. there };
}

at_open : (v : ConnView) (o : Option ItemView) → front_of v ≡ o → has_met v.state ≡ true → IsReadBy v (read_at_open v o)
at_open v None front h = nothing_read v end.Nothing refl front h
at_open v (Some item) front h =
    let w : ConnView = record v { recv = after_advance v.recv; untold = v.untold + 1 } in
    told_or_not v w item (nat_le w.recv.window (3 * w.untold)) front h refl

at_end : (v : ConnView) (o : Option ItemView) → front_of v ≡ o → has_met v.state ≡ true → IsReadBy v (read_at_end v o)
at_end v None front h = nothing_read v (end.Ended v.state) refl front h
at_end v (Some item) front h = read_item v (record v { recv = after_advance v.recv }) item front h refl

pub held_is_read : HeldIsRead
held_is_read v h = by (is_opening v.state) (is_open v.state) (not_opening v.state h)
  where
    by : (a b : Bool) → a ≡ false
        → IsReadBy v
        (if a then quietly v end.Nothing
        else (if b then read_at_open v (front_of v) else read_at_end v (front_of v)))
    by true b opening = absurd (false≢true (sym opening))
    by false true opening = at_open v (front_of v) refl h
    by false false opening = at_end v (front_of v) refl h
