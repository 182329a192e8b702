-- Rounds one after the other. Whether a round can come is decided by computation, so 64 rounds are decided at once.
use Rattle.std.proofs.Common.{◌≡◌, ◌<◌, ◌≤◌, ◌&&◌, ℕ, zero, suc, ◌+◌, [], ◌∷◌, length, leb, refl, inl, arith, lit<, lit≤, true, false, Bool, Ok, Err, ap}
use Rattle.std.specs.Prelude.{Result, is_none, is_ok}
use Rattle.std.proofs.lemmas.Bool.{and_parts, false≢true, leb-true}
use Rattle.chaos_conn.specs.Calls.{front_of}
use Rattle.chaos_conn.specs.State.{is_open}
use Rattle.chaos_conn.specs.Time.{act_tick}
use Rattle.chaos_conn.specs.declared.answers.Ticked.{Ticked}
use Rattle.chaos_conn.specs.declared.answers.Ticked.TheVariants as ticked
use Rattle.chaos_conn.specs.declared.state.State.{State}
use Rattle.chaos_conn.specs.declared.state.State.TheVariants as st
use Rattle.chaos_lab.specs.declared.event.Stepped.{Stepped}
use Rattle.chaos_lab.specs.declared.event.Stepped.TheVariants as stepped
use Rattle.chaos_lab.specs.declared.fault.LabFault.{LabFault}
use Rattle.chaos_lab.specs.declared.side.Side.{Side}
use Rattle.chaos_lab.specs.declared.side.Side.TheVariants.{A, B}
use Rattle.chaos_lab.specs.Laboratory.{LabView, Happening, after_all, happen, lab_end}
use Rattle.chaos_lab.specs.Laboratory.Happening.{TickOf, DeliverCopy, ReadBy}
use Rattle.chaos_lab.specs.LabHello.{RoundsCome, waiting_lab}
use Rattle.chaos_lab.specs.Progress.{Brings, Round, Rounds}
use Rattle.chaos_lab.proofs.OneWay.{none_is}

-- ---- a round of A: half a second later A sends again, the first copy comes, and B reads

abbrev again : LabView → LabView
again l = (happen l (TickOf A (l.clock + 500))).lab

abbrev comes : LabView → Happening
comes l = DeliverCopy (length l.copies)

abbrev next : LabView → LabView
next l = after_all (again l) (comes l ∷ ReadBy B ∷ [])

-- ---- whether it can come

abbrev is_once : Ticked → Bool
is_once (ticked.Resent sent) = leb sent 1
is_once ticked.Quiet = false
is_once ticked.Down = false
is_once ticked.Probed = false

abbrev can_come : LabView → Bool
can_come l =
    is_open l.a.conn.state
    && (is_open l.b.conn.state
    && (is_none (front_of l.b.conn)
    && (leb 1 l.b.conn.recv.window
    && (is_once (act_tick l.a.conn (l.clock + 500)).answer
    && (is_ok (happen (again l) (comes l)).answer && is_open (next l).b.conn.state)))))

open_is : (s : State) → is_open s ≡ true → s ≡ st.Open
open_is st.Open e = refl
open_is st.Inactive e = absurd (false≢true e)
open_is st.RfcSent e = absurd (false≢true e)
open_is st.RfcReceived e = absurd (false≢true e)
open_is st.Answered e = absurd (false≢true e)
open_is st.ClsReceived e = absurd (false≢true e)
open_is st.LosReceived e = absurd (false≢true e)
open_is st.HostDown e = absurd (false≢true e)
open_is st.Forwarded e = absurd (false≢true e)

-- at most one packet is sent again
record Once (answer : Ticked) : Type 0 where
  sent : ℕ
  resent : answer ≡ ticked.Resent sent
  one : sent ≤ 1

once_is : (answer : Ticked) → is_once answer ≡ true → Once answer
once_is (ticked.Resent sent) e = record { sent = sent; resent = refl; one = leb-true sent 1 e }
once_is ticked.Quiet e = absurd (false≢true e)
once_is ticked.Down e = absurd (false≢true e)
once_is ticked.Probed e = absurd (false≢true e)

taken_is : (answer : Result Stepped LabFault) → is_ok answer ≡ true → (stepped : Stepped) × (answer ≡ Ok stepped)
taken_is (Ok stepped) e = (stepped, refl)
taken_is (Err why) e = absurd (false≢true e)

-- ---- so it comes

both_open : (l : LabView) → l.a.conn.state ≡ st.Open → l.b.conn.state ≡ st.Open
    → (y : Side) → (lab_end l y).conn.state ≡ st.Open
both_open l a b A = a
both_open l a b B = b

round_comes : (l : LabView) → can_come l ≡ true → Round A l (next l)
round_comes l e =
    let a = and_parts _ _ e in
    let b = and_parts _ _ a.1 in
    let waits = and_parts _ _ b.1 in
    let window = and_parts _ _ waits.1 in
    let resent = and_parts _ _ window.1 in
    let taken = and_parts _ _ resent.1 in
    let once : Once (act_tick l.a.conn (l.clock + 500)).answer = once_is _ resent.0 in
    record {
      open_ends = both_open l (open_is _ a.0) (open_is _ b.0);
      waits = none_is _ waits.0;
      window = leb-true 1 _ window.0;
      now = l.clock + 500;
      sent = once.sent;
      again = ap (λ (t : Ticked). Ok (stepped.Ticked t)) once.resent;
      events = comes l ∷ ReadBy B ∷ [];
      calm = tt;
      brings = λ i few. inl (ap DeliverCopy (omega (arith, few, once.one)), taken_is _ taken.0);
      after = refl;
      stays = open_is _ taken.1;
    }

abbrev all_come : ℕ → LabView → Bool
all_come zero l = true
all_come (suc n) l = can_come l && all_come n (next l)

abbrev after_rounds : ℕ → LabView → LabView
after_rounds zero l = l
after_rounds (suc n) l = after_rounds n (next l)

rounds : (n : ℕ) (l : LabView) → all_come n l ≡ true → Rounds n A l (after_rounds n l)
rounds zero l e = refl
rounds (suc n) l e = let both = and_parts _ _ e in (next l, round_comes l both.0, rounds n (next l) both.1)

-- ---- the rounds of the laboratory

waiting_open : (y : Side) → (lab_end waiting_lab y).conn.state ≡ st.Open
waiting_open A = refl
waiting_open B = refl

brought : (i : ℕ) → i < 1
    → Brings (happen waiting_lab (TickOf A 500)).lab (DeliverCopy 4 ∷ []) (length waiting_lab.copies + i)
brought zero few = inl (refl, (_, refl))
brought (suc i) few = absurd (omega (arith, few))

pub rounds_come : RoundsCome
rounds_come = record {
  due = record { awaits = refl; some = lit< tt; later = lit≤ tt; again = lit≤ tt; heard = lit< tt };
  round = record {
    open_ends = waiting_open;
    waits = refl;
    window = lit≤ tt;
    now = 500;
    sent = 1;
    again = refl;
    events = DeliverCopy 4 ∷ [];
    calm = tt;
    brings = brought;
    after = refl;
    stays = refl;
  };
  last = after_rounds 64 waiting_lab;
  rounds = rounds 64 waiting_lab refl;
  open_end = refl;
  waits = refl;
}
