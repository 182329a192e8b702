-- A read, an acceptance and a tick.
use Rattle.std.proofs.Common.{◌≡◌, ℕ, zero, suc, ◌+◌, ◌*◌, [], ◌∷◌, ◌++◌, length, true, false, ◌&&◌, cond, leb, Some, None, Option, refl, sym, ap, ◌∙◌, subst, ◌⊎◌, ⊎_elim, arith}
use Rattle.std.specs.FinSet.{contains}
use Rattle.std.proofs.lemmas.Bool.{cases_Bool, cond_both, cond-true, cond-false, false_from_ne_true}
use Rattle.std.proofs.lemmas.List.Elements.{All-nil}
use Rattle.chaos_lab.specs.declared.side.Side.{Side}
use Rattle.chaos_lab.specs.declared.side.Side.TheVariants.{A, B}
use Rattle.chaos_lab.specs.Machine.{PlainEnd as Plain}
use Rattle.chaos_lab.specs.Machine.Phase.{Inactive, RfcSent, RfcReceived, Open, Ended, Closed}
use Rattle.chaos_conn.specs.declared.state.State.TheVariants as st
use Rattle.chaos_conn.specs.declared.answers.ReadEnd.TheVariants as re
use Rattle.chaos_lab.specs.Machine.{Phase, read_item}
use Rattle.chaos_lab.proofs.Functions.{next_item, readable, may_read}
use Rattle.chaos_lab.proofs.Directions.{Sound, sound_read}
use Rattle.chaos_lab.proofs.Lists.{length-one_more}
use Rattle.chaos_lab.proofs.Ends.{EndOk, Fits, HasMet, IsNew, IsNone}
use Rattle.chaos_packet.specs.Item.{ItemView}
use Rattle.chaos_window.specs.Receive.{ReceiveView, started_receive, item_at, after_advance}
use Rattle.chaos_conn.specs.View.{ConnView}
use Rattle.chaos_conn.specs.Acted.{quietly}
use Rattle.chaos_conn.specs.Sending.{with_sts}
use Rattle.chaos_conn.specs.declared.answers.ReadEnd.{ReadEnd}
use Rattle.chaos_conn.specs.Acted.{Acted}
use Rattle.std.specs.Prelude.{if◌then◌else◌}
use Rattle.chaos_conn.specs.State.{is_opening, is_open as is_open_state}
use Rattle.chaos_conn.proofs.Ended.{ended_is_over}
use Rattle.chaos_conn.specs.Calls.{read_at_open, read_at_end, act_read, read_open}
use Rattle.chaos_conn.specs.State.{is_ended}
use Rattle.chaos_lab.specs.Shown.{Rest, recv_view, there_at, idle, shown, shown_in, shown_at, met_view, Leaves}
use Rattle.chaos_lab.specs.Laboratory.{with_given}
use Rattle.chaos_lab.proofs.RecvTie.{front_is, advanced_is}
use Rattle.chaos_lab.proofs.OpenEnd.{IsOpen, is_open, in_met, leaves_quiet, leaves_sts}

-- ---- a read

-- and what it gave is what the plain machine read
abbrev pub ReadLeaves : Side → ℕ → ℕ → Plain → (e f : Plain) → Acted ReadEnd → Type 0
ReadLeaves x b b' p e f acted = Leaves x b b' p f acted × (with_given acted.answer e.read ≡ f.read)

-- a clear window holds nothing
clear_front : (cap n : ℕ) → item_at (started_receive cap n) 1 ≡ None
clear_front zero n = refl
clear_front (suc cap) n = refl

-- a read of what is in front
abbrev pub read_in : ConnView → Option ItemView → Acted ReadEnd
read_in v o =
    if is_opening v.state then quietly v re.Nothing
    else (if is_open_state v.state then read_at_open v o else read_at_end v o)

-- a read at an end that ended
ended_in : (v : ConnView) (o : Option ItemView) → is_ended v.state ≡ true → read_in v o ≡ read_at_end v o
ended_in v o h =
    let over = ended_is_over v.state h in cond-false _ _ _ over.not_opening ∙ cond-false _ _ _ over.not_open

-- what the user would read is what is at the front
readable_is : (p e : Plain) → may_read e.phase ≡ true → readable p e ≡ there_at p e (length e.read)
readable_is p e may = ap (λ t. cond (t && contains e.arrived (length e.read)) (next_item p e) None) may

not_readable : (p e : Plain) → may_read e.phase ≡ false → read_item (readable p e) e ≡ e
not_readable p e may = ap (λ t. read_item (cond (t && contains e.arrived (length e.read)) (next_item p e) None) e) may

open_read : (x : Side) (rest : Rest) (b b' : ℕ) (e p : Plain) → is_ended rest.ended ≡ true → e.phase ≡ Open → Sound p e
    → EndOk x e → (o : Option ItemView) → there_at p e (length e.read) ≡ o
    → ReadLeaves x b b' p e (read_item o e) (read_in (met_view st.Open x rest b b' p e) o)
open_read x rest b b' e p end at back ok None is =
    (leaves_quiet re.Nothing x rest b b' p e end (is_open x p e at ok back), refl)
open_read x rest b b' e p end at back ok (Some item) is =
    let m = is_open x p e at ok back in
    let f : Plain = record e { read = e.read ++ item ∷ [] } in
    let longer = length-one_more e.read item in
    let here : contains e.arrived (length e.read) ≡ true =
    ⊎_elim (λ (t : contains e.arrived (length e.read) ≡ true). t)
    (λ (t : contains e.arrived (length e.read) ≡ false). let no_item : None
    ≡ Some item = sym (cond-false _ _ _ t)
    ∙ is in absurd (cc))
    (cases_Bool (contains e.arrived (length e.read))) in
    let reader : Sound p f = sound_read p e item back here (sym (cond-true _ _ _ here) ∙ is) in
    let o : IsOpen p f = record { phase = at; met = (omega (arith, longer), m.met.1); reader = reader } in
    let rest' : Rest = record rest { untold = rest.untold + 1 } in
    let read : record (met_view st.Open x rest' b b' p e) { recv = after_advance (recv_view b' p e) } ≡ met_view
    st.Open x rest' b b' p f =
    λ j. record (met_view st.Open x rest' b b' p e) { recv = advanced_is b' item p e ok.caps.2 back.inside is j } in
    subst (λ v. ReadLeaves x b b' p e f (read_open v item)) (sym read)
    (cond_both (leb e.announced (3 * rest'.untold)) (with_sts (met_view st.Open x rest' b b' p f) (re.Item item))
    (quietly (met_view st.Open x rest' b b' p f) (re.Item item)) (ReadLeaves x b b' p e f)
    (λ _. (leaves_sts (re.Item item) x rest' b b' p f end o, refl))
    (λ _. (leaves_quiet (re.Item item) x rest' b b' p f end o, refl)))

ended_view : (x : Side) (rest : Rest) (b b' : ℕ) (p e : Plain) → e.phase ≡ Ended → HasMet e.written e.read
    → contains e.arrived 0 ≡ true → met_view rest.ended x rest b b' p e ≡ shown x rest b b' p e
ended_view x rest b b' p e at met here =
    sym (ap (λ ph. shown_at ph x rest b b' p e) at ∙ in_met rest.ended x rest b b' p e met here)

ended_read : (x : Side) (rest : Rest) (b b' : ℕ) (e p : Plain) → is_ended rest.ended ≡ true → e.phase ≡ Ended
    → HasMet e.written e.read → Sound p e → EndOk x e → (o : Option ItemView) → there_at p e (length e.read) ≡ o
    → ReadLeaves x b b' p e (read_item o e) (read_in (met_view rest.ended x rest b b' p e) o)
ended_read x rest b b' e p end at met back ok None is =
    subst (ReadLeaves x b b' p e e) (sym (ended_in (met_view rest.ended x rest b b' p e) None end))
    (record { rest = rest; ended = end; view = ended_view x rest b b' p e at met (back.front 0 met.0); packets = All-nil _ }, refl)
ended_read x rest b b' e p end at met back ok (Some item) is =
    let f : Plain = record e { read = e.read ++ item ∷ [] } in
    let longer = length-one_more e.read item in
    subst (ReadLeaves x b b' p e f) (sym (ended_in (met_view rest.ended x rest b b' p e) (Some item) end)) (
      (record {
        rest = rest;
        ended = end;
        view =
            (λ j. record (met_view rest.ended x rest b b' p e)
            { recv = advanced_is b' item p e ok.caps.2 back.inside is j })
            ∙ ended_view x rest b b' p f at (omega (arith, longer), met.1) (back.front 0 met.0);
        packets = All-nil _;
      }),
      refl,
    )

-- it ended before it met the peer
unmet_read : (rest : Rest) (b b' : ℕ) (e p : Plain) → is_ended rest.ended ≡ true → e.phase ≡ Ended → IsNone e.arrived
    → ReadLeaves A b b' p e (read_item (readable p e) e) (act_read (shown_in rest.ended A rest b b' p e))
unmet_read rest b b' e p end at none =
    let v : ConnView = shown_in rest.ended A rest b b' p e in
    let absent : (i : ℕ) → contains e.arrived i ≡ false = λ i. false_from_ne_true _ (none i) in
    let front : item_at v.recv 1 ≡ None =
    ap (λ (w : ReceiveView). item_at w 1)
    (cond-false (contains e.arrived 0) (recv_view b' p e) (started_receive e.recv_cap 0) (absent 0))
    ∙ clear_front e.recv_cap 0 in
    let nothing : readable p e ≡ None = readable_is p e (ap may_read at) ∙ cond-false _ _ _ (absent (length e.read)) in
    subst (λ (o : Option ItemView). ReadLeaves A b b' p e (read_item o e) (act_read v)) (sym nothing)
    (subst (ReadLeaves A b b' p e e) (sym (ap (read_in v) front ∙ ended_in v None end))
    (record { rest = rest; ended = end; view = ap (λ ph. shown_at ph A rest b b' p e) (sym at); packets = All-nil _ }, refl))

met_ended : (x : Side) (rest : Rest) (b b' : ℕ) (e p : Plain) → is_ended rest.ended ≡ true → e.phase ≡ Ended
    → HasMet e.written e.read → Sound p e → EndOk x e
    → ReadLeaves x b b' p e (read_item (readable p e) e) (act_read (shown_in rest.ended x rest b b' p e))
met_ended x rest b b' e p end at met back ok =
    subst
    (λ (o : Option ItemView). ReadLeaves x b b' p e (read_item o e)
    (act_read (shown_in rest.ended x rest b b' p e)))
    (sym (readable_is p e (ap may_read at)))
    (subst (ReadLeaves x b b' p e (read_item (there_at p e (length e.read)) e))
    (sym
    (ap act_read (in_met rest.ended x rest b b' p e met (back.front 0 met.0))
    ∙ ap (read_in (met_view rest.ended x rest b b' p e)) (front_is b' p e ok.caps.2)))
    (ended_read x rest b b' e p end at met back ok (there_at p e (length e.read)) refl))

idle_read : (phase : Phase) (x : Side) (rest : Rest) (b b' : ℕ) (e p : Plain) → e.phase ≡ phase
    → is_ended rest.ended ≡ true → may_read phase ≡ false → shown_at phase x rest b b' p e ≡ idle rest e
    → ReadLeaves x b b' p e (read_item (readable p e) e) (act_read (idle rest e))
idle_read phase x rest b b' e p at end may is =
    subst (λ (g : Plain). ReadLeaves x b b' p e g (act_read (idle rest e)))
    (sym (not_readable p e (ap may_read at ∙ may)))
    (subst (ReadLeaves x b b' p e e) (sym (ap (read_in (idle rest e)) (clear_front e.recv_cap 0)))
    (record { rest = rest; ended = end; view = sym is ∙ ap (λ ph. shown_at ph x rest b b' p e) (sym at); packets = All-nil _ }, refl))

read_at : (phase : Phase) (x : Side) (rest : Rest) (b b' : ℕ) (e p : Plain) → e.phase ≡ phase
    → is_ended rest.ended ≡ true → Sound p e → EndOk x e
    → ReadLeaves x b b' p e (read_item (readable p e) e) (act_read (shown_at phase x rest b b' p e))
read_at Inactive x rest b b' e p at end back o = idle_read Inactive x rest b b' e p at end refl refl
read_at Closed x rest b b' e p at end back o = idle_read Closed x rest b b' e p at end refl refl
read_at RfcSent x rest b b' e p at end back o =
    subst (λ (g : Plain). ReadLeaves x b b' p e g (act_read (shown_at RfcSent x rest b b' p e)))
    (sym (not_readable p e (ap may_read at)))
    (record { rest = rest; ended = end; view = ap (λ ph. shown_at ph x rest b b' p e) (sym at); packets = All-nil _ }, refl)
read_at RfcReceived x rest b b' e p at end back o =
    subst (λ (g : Plain). ReadLeaves x b b' p e g (act_read (shown_at RfcReceived x rest b b' p e)))
    (sym (not_readable p e (ap may_read at)))
    (record { rest = rest; ended = end; view = ap (λ ph. shown_at ph x rest b b' p e) (sym at); packets = All-nil _ }, refl)
read_at Open x rest b b' e p at end back ok =
    let m = is_open x p e at ok back in
    subst (λ (o : Option ItemView). ReadLeaves x b b' p e (read_item o e) (act_read (shown_at Open x rest b b' p e)))
    (sym (readable_is p e (ap may_read at)))
    (subst (ReadLeaves x b b' p e (read_item (there_at p e (length e.read)) e))
    (sym
    (ap act_read (in_met st.Open x rest b b' p e m.met (back.front 0 m.met.0))
    ∙ ap (read_in (met_view st.Open x rest b b' p e)) (front_is b' p e ok.caps.2)))
    (open_read x rest b b' e p end at back ok (there_at p e (length e.read)) refl))
read_at Ended A rest b b' e p at end back o =
    let fits : (IsNew A e.written e.read × IsNone e.arrived) ⊎ HasMet e.written e.read =
    subst (λ (ph : Phase). Fits ph A e.written e.read e.arrived) at o.fits in
    ⊎_elim (λ (t : IsNew A e.written e.read × IsNone e.arrived). unmet_read rest b b' e p end at t.1)
    (λ (t : HasMet e.written e.read). met_ended A rest b b' e p end at t back o) fits
read_at Ended B rest b b' e p at end back o =
    met_ended B rest b b' e p end at (subst (λ (ph : Phase). Fits ph B e.written e.read e.arrived) at o.fits) back o

pub read_leaves : (x : Side) (rest : Rest) (b b' : ℕ) (e p : Plain) → is_ended rest.ended ≡ true → Sound p e → EndOk x e
    → ReadLeaves x b b' p e (read_item (readable p e) e) (act_read (shown x rest b b' p e))
read_leaves x rest b b' e p end back o = read_at e.phase x rest b b' e p refl end back o
