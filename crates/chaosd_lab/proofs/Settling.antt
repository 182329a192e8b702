-- The line `settle`.
use Rattle.std.proofs.Common.{◌≡◌, ℕ, ◌<◌, ◌≤◌, Bool, true, false, List, [], ◌∷◌, ◌++◌, length, take, append_assoc, append-nil, refl, ap, subst, ◌∙◌, sym, arith}
use Rattle.std.specs.Prelude.{◌↔◌, ◌&&◌, IsTrue, Option, None, Some, Result, Ok, Err, IsErrAnd, slice_get, nat_le, nat_lt}
use Rattle.std.specs.Io.KnownBytes.{Appends, Keeps}
use Rattle.std.proofs.KnownBytes.{Appends-kept, Appends-trans}
use Rattle.std.proofs.lemmas.Bool.Decides.{nat_tests}
use Rattle.chaos_conn.specs.declared.state.State.{State}
use Rattle.chaos_conn.specs.declared.state.State.TheVariants.{Inactive, RfcSent, RfcReceived, Open, Answered, ClsReceived, LosReceived, HostDown, Forwarded}
use Rattle.chaos_conn.specs.State.{is_open}
use Rattle.chaos_conn.specs.View.{ConnView}
use Rattle.chaos_lab.specs.declared.fault.LabFault.TheVariants.{NoMemory}
use Rattle.chaos_lab.specs.Laboratory.{LabView, Happening, happen, after_all}
use Rattle.chaos_lab.specs.Progress.{IsInTime, CanSettle}
use Rattle.chaos_lab.specs.Settling.{settling, settling_moment, last_moment}
use Rattle.chaos_lab.proofs.Playing.{after_both}
use Rattle.chaosd_io.specs.declared.fault.RunFault.{RunFault}
use Rattle.chaosd_lab.specs.Answers.{refusal_text}
use Rattle.chaosd_lab.specs.Happen.{event_text}
use Rattle.chaosd_lab.specs.Typed.{event_line}
use Rattle.chaosd_lab.specs.Settle.{is_in_time, can_settle, typed_text, unsettled_text, settle_by, settle_done, WantsEvents}

-- ---- whether both ends can settle

open_said : (s : State) → is_open s ≡ true → s ≡ Open
open_said Inactive h = absurd (cc)
open_said RfcSent h = absurd (cc)
open_said RfcReceived h = absurd (cc)
open_said Open h = refl
open_said Answered h = absurd (cc)
open_said ClsReceived h = absurd (cc)
open_said LosReceived h = absurd (cc)
open_said HostDown h = absurd (cc)
open_said Forwarded h = absurd (cc)

pub both_true : (a b : Bool) → (a && b) ≡ true → (a ≡ true) × (b ≡ true)
both_true true b h = (refl, h)
both_true false b h = absurd (cc)

pub and_true : (a b : Bool) → a ≡ true → b ≡ true → (a && b) ≡ true
and_true a b x y = rw (x, y) refl

le_said : (x y : ℕ) → nat_le x y ≡ true → x ≤ y
le_said x y h = grind (arith, nat_tests)

said_le : (x y : ℕ) → x ≤ y → nat_le x y ≡ true
said_le x y h = grind (arith, nat_tests)

lt_said : (x y : ℕ) → nat_lt x y ≡ true → x < y
lt_said x y h = grind (arith, nat_tests)

said_lt : (x y : ℕ) → x < y → nat_lt x y ≡ true
said_lt x y h = grind (arith, nat_tests)

in_time : (v : ConnView) → is_in_time v ≡ true → IsInTime v
in_time v h =
    let (opened, again) = both_true (is_open v.state) (nat_lt v.config.retransmit v.config.down) h in
    record { open_end = open_said v.state opened; again = lt_said v.config.retransmit v.config.down again }

said_in_time : (v : ConnView) → IsInTime v → is_in_time v ≡ true
said_in_time v h =
    and_true (is_open v.state) (nat_lt v.config.retransmit v.config.down) (ap is_open h.open_end)
    (said_lt v.config.retransmit v.config.down h.again)

-- what two tests say is the same where each says the other
pub alike : (b c : Bool) → (b ≡ true → c ≡ true) → (c ≡ true → b ≡ true) → b ≡ c
alike true c there back = sym (there refl)
alike false true there back = back refl
alike false false there back = refl

pub can_settle_said : (l : LabView) → can_settle l ≡ true → CanSettle l
can_settle_said l said =
    let a = is_in_time l.a.conn in
    let b = is_in_time l.b.conn in
    let (ends, later) = both_true (a && b) (nat_le (settling_moment l) last_moment) said in
    let (of_a, of_b) = both_true a b ends in
    record { a = in_time l.a.conn of_a; b = in_time l.b.conn of_b; moments = le_said (settling_moment l) last_moment later }

pub said_can_settle : (l : LabView) → CanSettle l → can_settle l ≡ true
said_can_settle l can =
    let a = is_in_time l.a.conn in
    let b = is_in_time l.b.conn in
    and_true (a && b) (nat_le (settling_moment l) last_moment)
    (and_true a b (said_in_time l.a.conn can.a) (said_in_time l.b.conn can.b))
    (said_le (settling_moment l) last_moment can.moments)

says_can_settle : (l : LabView) (said : Bool) → IsTrue said ↔ CanSettle l → said ≡ can_settle l
says_can_settle l said is =
    alike said (can_settle l) (λ told. said_can_settle l (is.0 told)) (λ told. is.1 (can_settle_said l told))

-- ---- events as if they were typed

typed_both : (l : LabView) (events others : List Happening)
    → typed_text l (events ++ others) ≡ typed_text l events ++ typed_text (after_all l events) others
unfolding typed_text
typed_both l [] others = refl
typed_both l (event ∷ events) others =
    ap (λ t. event_line event ++ event_text l event ++ t) (typed_both (happen l event).lab events others)
    ∙ sym (append_assoc (event_line event ++ event_text l event) (typed_text (happen l event).lab events) _)

-- one more
typed_more : (l now : LabView) (events : List Happening) (event : Happening) → now ≡ after_all l events
    → typed_text l (events ++ event ∷ []) ≡ typed_text l events ++ (event_line event ++ event_text now event)
unfolding typed_text
typed_more l now events event at =
    typed_both l events (event ∷ [])
    ∙ ap (λ t. typed_text l events ++ t)
    (append-nil (event_line event ++ event_text (after_all l events) event)
    ∙ ap (λ (m : LabView). event_line event ++ event_text m event) (sym at))

-- so many of the events of settling happened, and their text was written
pub record Typed (start now : LabView) (rest : List Happening) (old new : Option (List ℕ)) : Type 0 where
  pub done : List Happening
  pub at : now ≡ after_all start done
  pub all : settling start ≡ done ++ rest
  pub text : Appends old new (typed_text start done)

pub nothing : (old : Option (List ℕ)) → Appends old old []
nothing None = tt
nothing (Some xs) = sym (append-nil xs)

pub typed_none : (l : LabView) (rest : List Happening) (old : Option (List ℕ)) → rest ≡ settling l
    → Typed l l rest old old
unfolding typed_text
typed_none l rest old same = record { done = []; at = refl; all = sym same; text = nothing old }

pub typed_one : (start now next : LabView) (event : Happening) (rest others : List Happening)
    (old mid ready new : Option (List ℕ))
    → Typed start now rest old mid → rest ≡ event ∷ others
    → Keeps mid ready → next ≡ (happen now event).lab → Appends ready new (event_line event ++ event_text now event)
    → Typed start next others old new
typed_one start now next event rest others old mid ready new t is keeps goes text = record {
  done = t.done ++ event ∷ [];
  at = goes ∙ ap (λ (m : LabView). (happen m event).lab) t.at ∙ sym (after_both start t.done (event ∷ []));
  all = t.all ∙ ap (λ es. t.done ++ es) is ∙ sym (append_assoc t.done (event ∷ []) others);
  text =
      subst (Appends old new) (sym (typed_more start now t.done event t.at))
      (Appends-trans old ready new _ _ (Appends-kept old mid ready _ t.text keeps) text);
}

pub next_is : {X : Type 0} (done others : List X) (event : X)
    → slice_get (done ++ event ∷ others) (length done) ≡ Some event
next_is [] others event = refl
next_is (e ∷ done) others event = next_is done others event

pub done_is : {X : Type 0} (done rest : List X) → take (length done) (done ++ rest) ≡ done
done_is [] rest = refl
done_is (e ∷ done) rest = ap (λ es. e ∷ es) (done_is done rest)

-- there was no memory for the next one
pub typed_wants : (start now after : LabView) (event : Happening) (rest others : List Happening)
    (old mid ready new : Option (List ℕ))
    → Typed start now rest old mid → rest ≡ event ∷ others
    → Keeps mid ready → after ≡ now → Appends ready new (event_line event ++ refusal_text NoMemory)
    → (text : List ℕ) × WantsEvents start after text × Appends old new text
typed_wants start now after event rest others old mid ready new t is keeps same text =
    let all : settling start ≡ t.done ++ event ∷ others = t.all ∙ ap (λ es. t.done ++ es) is in
    let before : take (length t.done) (settling start) ≡ t.done =
    ap (take (length t.done)) all ∙ done_is t.done (event ∷ others) in (
      typed_text start t.done ++ (event_line event ++ refusal_text NoMemory),
      (
        length t.done,
        event,
        ap (λ es. slice_get es (length t.done)) all ∙ next_is t.done others event,
        same ∙ t.at ∙ ap (after_all start) (sym before),
        ap (λ es. typed_text start es ++ (event_line event ++ refusal_text NoMemory)) (sym before)
            ∙ sym
            (append_assoc (typed_text start (take (length t.done) (settling start))) (event_line event)
            (refusal_text NoMemory)),
      ),
      Appends-trans old ready new _ _ (Appends-kept old mid ready _ t.text keeps) text,
    )

-- ---- the line

-- the ends can't settle, and the line is refused
pub refused_line : (l : LabView) (said : Bool) (old new : Option (List ℕ)) → IsTrue said ↔ CanSettle l → said ≡ false
    → Appends old new unsettled_text
    → (l ≡ (settle_done l).lab) × (true ≡ (settle_done l).is_refused) × Appends old new (settle_done l).text
refused_line l said old new is cannot text =
    let test : can_settle l ≡ false = sym (says_can_settle l said is) ∙ cannot in
    subst (λ b. (l ≡ (settle_by b l).lab) × (true ≡ (settle_by b l).is_refused) × Appends old new (settle_by b l).text)
    (sym test) (refl, refl, text)

-- what was told is the fault
pub err_told : {X Y : Type 0} (r : Result X RunFault) (e f : RunFault) → IsErrAnd r (λ y. y ≡ e) → r ≡ Err f
    → ◌≡◌ {A = Result Y RunFault} (Err e) (Err f)
err_told (Ok x) e f is same = absurd is
err_told (Err y) e f is same = let this : e ≡ f = cc in ap Err this
