-- A tick and an acceptance.
use Rattle.std.proofs.Common.{◌≡◌, ℕ, zero, suc, ◌+◌, ◌<◌, ◌≤◌, List, [], ◌∷◌, length, drop, true, false, cond, ltb, Some, None, refl, sym, ap, ◌∙◌, subst, inl, inr, ◌⊎◌, arith}
use Rattle.std.specs.Prelude.{slice_get, unwrap_or}
use Rattle.std.specs.List.{All}
use Rattle.std.proofs.lemmas.Bool.{and_left, and_left, cond_both, cond-true, cond-false, lt-ltb}
use Rattle.std.proofs.lemmas.List.{drop-drop}
use Rattle.std.proofs.lemmas.Option.{slice_get_within}
use Rattle.std.proofs.lemmas.List.Elements.{All-nil, All-push, All-append}
use Rattle.chaos_lab.specs.declared.side.Side.{Side}
use Rattle.chaos_lab.specs.declared.side.Side.TheVariants.{A, B}
use Rattle.chaos_lab.specs.Machine.{PlainEnd as Plain}
use Rattle.chaos_lab.specs.Machine.Phase.{Inactive, RfcSent, RfcReceived, Open, Ended, Closed}
use Rattle.chaos_lab.specs.Machine.Kind.{Nth, Sns}
use Rattle.chaos_lab.specs.Machine.Told.{Nothing, Acknowledges, Status}
use Rattle.chaos_conn.specs.declared.state.State.TheVariants as st
use Rattle.chaos_conn.specs.declared.answers.Ticked.{Ticked}
use Rattle.chaos_conn.specs.declared.answers.Ticked.TheVariants as ti
use Rattle.chaos_packet.specs.Number.{num}
use Rattle.chaos_lab.specs.Numbers.{told_num}
use Rattle.chaos_lab.specs.Machine.{Phase, other}
use Rattle.chaos_lab.proofs.Functions.{ended_phase}
use Rattle.chaos_lab.proofs.Directions.{Sound}
use Rattle.chaos_lab.proofs.Ends.{EndOk, Fits, IsNew, IsNone}
use Rattle.chaos_packet.specs.Item.{ItemView}
use Rattle.chaos_packet.specs.Packet.{status_words}
use Rattle.chaos_packet.specs.Opcode.{kind_of}
use Rattle.chaos_window.specs.Send.{SendView, clear_send}
use Rattle.chaos_conn.specs.View.{ConnView, moment}
use Rattle.chaos_conn.specs.Acted.{Acted, quietly}
use Rattle.chaos_conn.specs.Time.{is_down, is_resend_due, is_probe_due, due_of, tells, ticked_by, act_tick}
use Rattle.chaos_conn.specs.State.{awaits_peer, is_open as is_open_state}
use Rattle.chaos_conn.proofs.Ended.{ended_is_over}
use Rattle.std.proofs.lemmas.Bool.{and_parts, false≢true}
use Rattle.std.specs.Prelude.{if◌then◌else◌, ◌||◌, ◌==◌}
use Rattle.chaos_conn.specs.Sending.{sns_of, all_kept, packets_from, item_packet, carries_ack}
use Rattle.chaos_packet.specs.Opcode.{is_rfc}
use Rattle.chaos_conn.specs.State.{is_ended}
use Rattle.chaos_lab.specs.Shown.{Rest, address_of, send_view, shown, shown_in, shown_at, met_view, to_index, IsPut, Leaves, HasItems}
use Rattle.chaos_lab.proofs.Calls.{users_kind}
use Rattle.chaos_lab.proofs.OpenEnd.{status_of_words, is_open, open_is, in_met, leaves_quiet}

-- ---- the kept items as packets

-- The view of an end that sends items again: what it puts into the header of those that carry it. x: its side
pub record Sender (x : Side) (b' : ℕ) (e : Plain) (v : ConnView) : Type 0 where
  pub me : v.me.address ≡ address_of x
  pub me_index : v.me.index ≡ 1
  pub peer : v.peer ≡ address_of (other x)
  -- what follows the RFC goes to the peer's index, and tells what was read
  pub met : (i : ℕ) → i < length e.written → to_index (Nth i) x ≡ 1
      → (unwrap_or v.peer_index 0 ≡ 1) × (v.recv.read ≡ told_num b' (length e.read)) × (1 ≤ length e.read)

pub item_put : (x : Side) (b b' i n : ℕ) (item : ItemView) (p e : Plain) (v : ConnView) → Sender x b' e v
    → HasItems x b' e → slice_get e.written i ≡ Some item → e.receipted ≤ i → i < length e.written → n ≡ num b i
    → IsPut x b b' e (item_packet v n item)
item_put A b b' zero n item p e v s its at from upto number =
    let rfc : is_rfc (kind_of item.op) ≡ true = ap (λ op. is_rfc (kind_of op)) (its.first item at) in
    let no_ack : carries_ack (kind_of item.op) ≡ false = ap (λ op. carries_ack (kind_of op)) (its.first item at) in
    record {
      kind = Nth 0;
      met = λ _. inl refl;
      told = Nothing;
      may = (from, upto);
      tells = refl;
      stands = record {
        header = record { dst = s.peer; dst_index = cond-true _ _ _ rfc; src = s.me; src_index = s.me_index };
        what = (at, number);
        tells = cond-false _ _ _ no_ack;
      };
    }
item_put B b b' zero n item p e v s its at from upto number =
    let first = its.first item at in
    let not_rfc : is_rfc (kind_of item.op) ≡ false = ap (λ op. is_rfc (kind_of op)) first.0 in
    let ack : carries_ack (kind_of item.op) ≡ true = ap (λ op. carries_ack (kind_of op)) first.0 in
    let met = s.met 0 upto refl in
    record {
      kind = Nth 0;
      met = λ _. inl refl;
      told = Status (length e.read) 1 e.recv_cap;
      may = (from, upto);
      tells = refl;
      stands = record {
        header =
            record { dst = s.peer; dst_index = cond-false _ _ _ not_rfc ∙ met.0; src = s.me; src_index = s.me_index };
        what = (at, number);
        tells =
            (cond-true _ _ _ ack ∙ met.1, ap (λ (op : ℕ). if op == 2 || op == 7 then status_words item.body else None) first.0 ∙ ap status_words first.1 ∙ status_of_words (told_num b' 1) e.recv_cap);
      };
    }
item_put x b b' (suc i) n item p e v s its at from upto number =
    let u = users_kind item (its.users i item at) in
    let met = s.met (suc i) upto refl in
    record {
      kind = Nth (suc i);
      met = λ _. inr met.2;
      told = Acknowledges (length e.read);
      may = (from, upto);
      tells = refl;
      stands = record {
        header = record { dst = s.peer; dst_index = cond-false _ _ _ u.0 ∙ met.0; src = s.me; src_index = s.me_index };
        what = (at, number);
        tells = cond-true _ _ _ u.1 ∙ met.1;
      };
    }

All-cons : {X : Type 0} → (P : X → Type 0) → (x : X) (xs : List X) → P x → All P xs → All P (x ∷ xs)
All-cons P x xs h all = All-append P (x ∷ []) xs (All-push P [] x (All-nil P) h) all

items_put : (items : List ItemView) (x : Side) (b b' i n : ℕ) (p e : Plain) (v : ConnView) → Sender x b' e v
    → HasItems x b' e → drop i e.written ≡ items → e.receipted ≤ i → n ≡ num b i
    → All (IsPut x b b' e) (packets_from v n items)
items_put [] x b b' i n p e v s its is from number = All-nil _
items_put (item ∷ items) x b b' i n p e v s its is from number =
    let at : slice_get e.written i ≡ Some item = at_drop e.written i item items is in
    let upto : i < length e.written = slice_get_within e.written i item at in
    let next : drop (i + 1) e.written ≡ items = sym (drop-drop 1 i e.written) ∙ ap (drop 1) is in
    All-cons (IsPut x b b' e) (item_packet v n item) (packets_from v (num n 1) items)
    (item_put x b b' i n item p e v s its at from upto number)
    (items_put items x b b' (i + 1) (num n 1) p e v s its next (omega arith) (omega arith))
  where
    at_drop : (xs : List ItemView) (j : ℕ) (y : ItemView) (ys : List ItemView) → drop j xs ≡ y ∷ ys
        → slice_get xs j ≡ Some y
    at_drop [] zero y ys h = absurd (cc)
    at_drop [] (suc j) y ys h = absurd (cc)
    at_drop (z ∷ xs) zero y ys h = let q : z ≡ y = cc in ap Some q
    at_drop (z ∷ xs) (suc j) y ys h = at_drop xs j y ys h

-- ---- a tick

-- it sends what the end may send, or ends it
abbrev pub Ticks : Side → ℕ → ℕ → Plain → Plain → Acted Ticked → Type 0
Ticks x b b' p e acted = Leaves x b b' p e acted ⊎ Leaves x b b' p (record e { phase = ended_phase e.phase }) acted

-- what each thing that is due makes of an end
abbrev goes_down : ConnView → Acted Ticked
goes_down v = quietly (record v { state = st.HostDown }) ti.Down

abbrev resends : ConnView → Acted Ticked
resends v =
    record { view = record v { resent = v.last; untold = if tells v.send.kept then 0 else v.untold }; packets = all_kept v; answer = ti.Resent (length v.send.kept) }

abbrev probes : ConnView → Acted Ticked
probes v = record { view = record v { probed = v.last; untold = 0 }; packets = sns_of v ∷ []; answer = ti.Probed }

-- no test of a tick holds
idle_tick : (v : ConnView) → awaits_peer v.state ≡ false → is_open_state v.state ≡ false
    → ticked_by (due_of v) v ≡ quietly v ti.Quiet
idle_tick v waits opens =
    ap (λ d. ticked_by d v)
    (cond-false _ _ _ (and_left _ _ waits) ∙ cond-false _ _ _ (and_left _ _ waits)
    ∙ cond-false _ _ _ (and_left _ _ opens))

quiet_at : (phase : Phase) (x : Side) (rest : Rest) (b b' : ℕ) (e p : Plain) → e.phase ≡ phase
    → is_ended rest.ended ≡ true → awaits_peer (shown_at phase x rest b b' p e).state ≡ false
    → is_open_state (shown_at phase x rest b b' p e).state ≡ false
    → Leaves x b b' p e (ticked_by (due_of (shown_at phase x rest b b' p e)) (shown_at phase x rest b b' p e))
quiet_at phase x rest b b' e p at end waits opens =
    subst (Leaves x b b' p e) (sym (idle_tick (shown_at phase x rest b b' p e) waits opens))
    (record { rest = rest; ended = end; view = ap (λ ph. shown_at ph x rest b b' p e) (sym at); packets = All-nil _ })

-- whatever is due
by_due : (v : ConnView) (P : Acted Ticked → Type 0) → P (goes_down v) → P (resends v)
    → (is_open_state v.state ≡ true → P (probes v)) → P (quietly v ti.Quiet) → P (ticked_by (due_of v) v)
by_due v P down resend probe nothing =
    cond_both (is_down v) _ _ (λ d. P (ticked_by d v)) (λ _. down)
    (λ _. cond_both (is_resend_due v) _ _ (λ d. P (ticked_by d v)) (λ _. resend)
    (λ _. cond_both (is_probe_due v) _ _ (λ d. P (ticked_by d v)) (λ due. probe (and_parts _ _ due).0) (λ _. nothing)))

-- an end that waits for its OPN
asked_tick : (rest : Rest) (b b' : ℕ) (e p : Plain) → is_ended rest.ended ≡ true → e.phase ≡ RfcSent → EndOk A e
    → HasItems A b' e
    → Ticks A b b' p e (ticked_by (due_of (shown_in st.RfcSent A rest b b' p e)) (shown_in st.RfcSent A rest b b' p e))
asked_tick rest b b' e p end at o its =
    let v : ConnView = shown_in st.RfcSent A rest b b' p e in
    let new : IsNew A e.written e.read × IsNone e.arrived =
    subst (λ (ph : Phase). Fits ph A e.written e.read e.arrived) at o.fits in
    let is : shown A rest b b' p e ≡ v = ap (λ ph. shown_at ph A rest b b' p e) at in
    let ends : record e { phase = ended_phase e.phase }
    ≡ record e { phase = Ended } = λ j. record e { phase = ended_phase (at j) } in
    let wrote : ltb 0 (length e.written) ≡ true = lt-ltb 0 (length e.written) (omega (arith, new.0.1)) in
    let s : Sender A b' e v =
    record { me = refl; me_index = refl; peer = refl; met = λ i l u. only_rfc i (omega (arith, new.0.1)) u } in
    let send : v.send ≡ send_view b e = cond-true _ (send_view b e) (clear_send e.send_cap) wrote in
    let puts : All (IsPut A b b' e) (all_kept v) =
    subst (λ (w : SendView). All (IsPut A b b' e) (packets_from v (num w.receipted 1) w.kept)) (sym send)
    (items_put (drop e.receipted e.written) A b b' e.receipted (num (told_num b e.receipted) 1) p e v s its refl
    (omega arith) (omega arith)) in
    let rest' : Rest = record rest { resent = rest.last; untold = cond (tells v.send.kept) 0 rest.untold } in
    by_due v (Ticks A b b' p e)
    (inr (subst (λ (g : Plain). Leaves A b b' p g (goes_down v)) (sym ends)
    (record { rest = record rest { ended = st.HostDown }; ended = refl; view = refl; packets = All-nil _ })))
    (inl
    (record { rest = rest'; ended = end; view = sym (ap (λ ph. shown_at ph A rest' b b' p e) at); packets = puts }))
    (λ shut. absurd (false≢true shut))
    (inl (record { rest = rest; ended = end; view = sym is; packets = All-nil _ }))
  where
    only_rfc : (i : ℕ) → i < 1 → {Q : Type 0} → to_index (Nth i) A ≡ 1 → Q
    only_rfc zero l u = absurd (cc)
    only_rfc (suc i) l u = absurd (omega arith)

open_tick : (x : Side) (rest : Rest) (b b' : ℕ) (e p : Plain) → is_ended rest.ended ≡ true → e.phase ≡ Open → Sound p e
    → EndOk x e → HasItems x b' e
    → Ticks x b b' p e (ticked_by (due_of (met_view st.Open x rest b b' p e)) (met_view st.Open x rest b b' p e))
open_tick x rest b b' e p end at back o its =
    let v : ConnView = met_view st.Open x rest b b' p e in
    let m = is_open x p e at o back in
    let s : Sender x b' e v =
    record { me = refl; me_index = refl; peer = refl; met = λ i l u. (refl, refl, m.met.0) } in
    let ends : record e { phase = ended_phase e.phase }
    ≡ record e { phase = Ended } = λ j. record e { phase = ended_phase (at j) } in
    let resent : Rest = record rest { resent = rest.last; untold = cond (tells v.send.kept) 0 rest.untold } in
    let probed : Rest = record rest { probed = rest.last; untold = 0 } in
    let down : Rest = record rest { ended = st.HostDown } in
    by_due v (Ticks x b b' p e)
    (inr (subst (λ (g : Plain). Leaves x b b' p g (goes_down v)) (sym ends)
    (record
    { rest = down; ended = refl; view = sym (in_met st.HostDown x down b b' p (record e { phase = Ended }) m.met (back.front 0 m.met.0)); packets = All-nil _ })))
    (inl (record {
      rest = resent;
      ended = end;
      view = sym (open_is x resent b b' p e m);
      packets =
          items_put (drop e.receipted e.written) x b b' e.receipted (num (told_num b e.receipted) 1) p e v s its refl
          (omega arith) (omega arith);
    }))
    (λ _. inl (record {
      rest = probed;
      ended = end;
      view = sym (open_is x probed b b' p e m);
      packets =
          All-push (IsPut x b b' e) [] (sns_of v) (All-nil _)
          (record
          { kind = Sns; met = λ _. inr m.met.0; told = Acknowledges (length e.read); may = tt; tells = refl; stands = record { header = record { dst = refl; dst_index = refl; src = refl; src_index = refl }; what = (refl, refl, refl); tells = refl } });
    }))
    (inl (leaves_quiet ti.Quiet x rest b b' p e end m))

tick_at_phase : (phase : Phase) (x : Side) (rest : Rest) (b b' : ℕ) (e p : Plain) → e.phase ≡ phase
    → is_ended rest.ended ≡ true → Sound p e → EndOk x e → HasItems x b' e
    → Ticks x b b' p e (ticked_by (due_of (shown_at phase x rest b b' p e)) (shown_at phase x rest b b' p e))
tick_at_phase Inactive x rest b b' e p at end back o its = inl (quiet_at Inactive x rest b b' e p at end refl refl)
tick_at_phase RfcReceived x rest b b' e p at end back o its =
    inl (quiet_at RfcReceived x rest b b' e p at end refl refl)
tick_at_phase Closed x rest b b' e p at end back o its = inl (quiet_at Closed x rest b b' e p at end refl refl)
tick_at_phase Ended x rest b b' e p at end back o its =
    let over = ended_is_over rest.ended end in inl
    (quiet_at Ended x rest b b' e p at end over.awaits_nobody over.not_open)
tick_at_phase RfcSent B rest b b' e p at end back o its =
    absurd (subst (λ (ph : Phase). Fits ph B e.written e.read e.arrived) at o.fits)
tick_at_phase RfcSent A rest b b' e p at end back o its = asked_tick rest b b' e p end at o its
tick_at_phase Open x rest b b' e p at end back o its =
    let m = is_open x p e at o back in
    subst (λ v. Ticks x b b' p e (ticked_by (due_of v) v))
    (sym (in_met st.Open x rest b b' p e m.met (back.front 0 m.met.0)))
    (open_tick x rest b b' e p end at back o its)

with_last : (phase : Phase) (x : Side) (rest : Rest) (b b' t : ℕ) (e p : Plain)
    → record (shown_at phase x rest b b' p e) { last = t } ≡ shown_at phase x (record rest { last = t }) b b' p e
with_last Inactive x rest b b' t e p = refl
with_last RfcSent x rest b b' t e p = refl
with_last RfcReceived x rest b b' t e p = refl
with_last Open x rest b b' t e p = refl
with_last Ended x rest b b' t e p = refl
with_last Closed x rest b b' t e p = refl

pub tick_leaves : (x : Side) (rest : Rest) (b b' now : ℕ) (e p : Plain) → is_ended rest.ended ≡ true → Sound p e
    → EndOk x e → HasItems x b' e → Ticks x b b' p e (act_tick (shown x rest b b' p e) now)
tick_leaves x rest b b' now e p end back o its =
    let t : ℕ = moment (shown x rest b b' p e) now in
    subst (λ v. Ticks x b b' p e (ticked_by (due_of v) v)) (sym (with_last e.phase x rest b b' t e p))
    (tick_at_phase e.phase x (record rest { last = t }) b b' e p refl end back o its)
