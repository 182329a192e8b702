-- The calls of an end's own user, and of the clock: its connection does what the end does in the plain machine.
use Rattle.std.proofs.Common.{◌≡◌, ℕ, zero, suc, ◌-◌, ◌<◌, ◌≤◌, List, [], ◌∷◌, ◌++◌, length, drop, true, false, cond, ltb, Some, None, Option, refl, sym, ap, ◌∙◌, subst, inl, inr, ◌⊎◌, ⊎_elim, arith, Result, Ok, Err}
use Rattle.std.specs.Prelude.{slice_get, ◌==◌, unwrap_or}
use Rattle.std.specs.List.{All}
use Rattle.std.proofs.lemmas.Bool.{cases_lt, cond-true, cond-false, lt-ltb, le-ltb}
use Rattle.std.proofs.lemmas.List.{nil_from_length}
use Rattle.std.proofs.lemmas.List.Elements.{All-nil, All-push}
use Rattle.chaos_lab.specs.declared.side.Side.{Side}
use Rattle.chaos_lab.specs.declared.side.Side.TheVariants.{A, B}
use Rattle.chaos_lab.specs.Machine.{PlainEnd as Plain}
use Rattle.chaos_lab.specs.Machine.Phase.{Inactive, RfcSent, RfcReceived, Open, Ended, Closed}
use Rattle.chaos_lab.specs.Machine.Kind.{Nth, Cls}
use Rattle.chaos_lab.specs.Machine.Told.{Nothing, Acknowledges}
use Rattle.chaos_packet.specs.declared.opcode.Kind.{Kind as OpKind}
use Rattle.chaos_packet.specs.declared.opcode.Kind.TheVariants as k
use Rattle.chaos_conn.specs.declared.state.State.{State}
use Rattle.chaos_conn.specs.declared.state.State.TheVariants as st
use Rattle.chaos_conn.specs.declared.fault.ConnFault.{ConnFault}
use Rattle.chaos_conn.specs.declared.fault.ConnFault.TheVariants as fa
use Rattle.chaos_packet.specs.Number.{num}
use Rattle.chaos_lab.specs.Numbers.{told_num}
use Rattle.chaos_lab.specs.Machine.{Phase}
use Rattle.chaos_lab.proofs.Functions.{closed_phase}
use Rattle.chaos_lab.proofs.Directions.{Sound}
use Rattle.chaos_lab.proofs.Lists.{length-one_more}
use Rattle.chaos_lab.proofs.Ends.{EndOk, Fits, HasMet}
use Rattle.chaos_packet.specs.Item.{ItemView}
use Rattle.chaos_packet.specs.Opcode.{kind_of}
use Rattle.chaos_window.specs.Send.{next_of, outstanding_of}
use Rattle.chaos_window.specs.Receive.{after_announcement}
use Rattle.chaos_conn.specs.View.{ConnView, moment}
use Rattle.chaos_conn.specs.Acted.{Acted, quietly}
use Rattle.chaos_conn.specs.State.{is_open as is_open_state}
use Rattle.chaos_conn.proofs.Ended.{ended_is_over}
use Rattle.chaos_conn.specs.Sending.{with_item, with_sts, item_packet, packet_to_peer, carries_ack}
use Rattle.chaos_packet.specs.Opcode.{is_rfc}
use Rattle.chaos_conn.specs.Calls.{act_write, most_bytes, write_at_most, act_announce, act_close, cls_of}
use Rattle.chaos_conn.specs.Opening.{closed_conn}
use Rattle.chaos_conn.specs.State.{is_ended}
use Rattle.chaos_lab.specs.Shown.{Rest, send_view, recv_view, index_of, shown, shown_in, shown_at, met_view, IsPut, Leaves, IsUsers}
use Rattle.chaos_lab.proofs.SendTie.{pushed_is, read_within, arrived_within}
use Rattle.chaos_lab.proofs.OpenEnd.{IsOpen, is_open, open_is, index_met, in_met, leaves_sts}
use Rattle.chaos_lab.proofs.RecvTie.{same_slots}

-- ---- an item that goes out

-- the opcode of item i, and what it tells, is right. x: its sender e; b': the peer's first number
pub users_kind : (item : ItemView) → IsUsers item
    → (is_rfc (kind_of item.op) ≡ false) × (carries_ack (kind_of item.op) ≡ true)
users_kind item h =
    ⊎_elim
    (λ (d : kind_of item.op ≡ k.Data). (ap is_rfc d, ap carries_ack d))
    (λ (d : (kind_of item.op ≡ k.Eof) × (item.body ≡ [])). (ap is_rfc d.0, ap carries_ack d.0)) h

-- a user's item as a packet of an open end
pub user_put : (state : State) (x : Side) (rest : Rest) (b b' i : ℕ) (item : ItemView) (p e f : Plain) (n : ℕ)
    → slice_get f.written (suc i) ≡ Some item → f.receipted ≤ suc i → suc i < length f.written → f.read ≡ e.read
    → 1 ≤ length f.read → IsUsers item → n ≡ num b (suc i)
    → IsPut x b b' f (item_packet (met_view state x rest b b' p e) n item)
user_put state x rest b b' i item p e f n at from upto same read users number =
    let u = users_kind item users in
    record {
      kind = Nth (suc i);
      met = λ _. inr read;
      told = Acknowledges (length f.read);
      may = (from, upto);
      tells = refl;
      stands = record {
        header = record { dst = refl; dst_index = cond-false _ _ _ u.0; src = refl; src_index = refl };
        what = (at, number);
        tells = cond-true _ _ _ u.1 ∙ ap (λ r. told_num b' (length r)) (sym same);
      };
    }

-- ---- a write

-- it is allowed just where the plain machine allows it
pub room_is : (b : ℕ) (e p : Plain) → Sound e p → e.send_cap ≤ 64
    → outstanding_of (send_view b e) ≡ length e.written - e.acknowledged
room_is b e p d most = let within = read_within p e d in omega (arith, d.room, d.acked_read)

pub last_item : (xs : List ItemView) (x : ItemView) → slice_get (xs ++ x ∷ []) (length xs) ≡ Some x
last_item [] x = refl
last_item (y ∷ xs) x = last_item xs x

pub wrote_leaves : (x : Side) (rest : Rest) (b b' : ℕ) (item : ItemView) (t : ℕ) (e p : Plain)
    → is_ended rest.ended ≡ true → e.phase ≡ Open → Sound e p → Sound p e → EndOk x e → IsUsers item
    → Leaves {A = Result ℕ ConnFault} x b b' p (record e { written = e.written ++ item ∷ [] })
    (with_item (record (met_view st.Open x rest b b' p e) { last = t; untold = 0 }) item
    (Ok (next_of (send_view b e))))
wrote_leaves x rest b b' item t e p end at d back o users =
    let f : Plain = record e { written = e.written ++ item ∷ [] } in
    let m : IsOpen p e = is_open x p e at o back in
    let longer = length-one_more e.written item in
    let last = arrived_within p e e.receipted d d.receipted_arrived in
    let rest' : Rest =
    record rest { last = t; untold = 0; resent = cond (length (drop e.receipted e.written) == 0) t rest.resent } in
    let number : num (told_num b (length e.written)) 1 ≡ num b (length e.written) = omega arith in
    let g : IsOpen p f = record { phase = at; met = (m.met.0, omega (arith, longer)); reader = back } in
    record {
      rest = rest';
      ended = end;
      view =
          (λ j. record (met_view st.Open x rest' b b' p e) { send = pushed_is b item e last j })
          ∙ sym (open_is x rest' b b' p f g);
      packets = All-push (IsPut x b b' f) [] _ (All-nil _) (put (length e.written) refl m.met.1 number);
    }
  where
    put : (n : ℕ) → n ≡ length e.written → 1 ≤ length e.written
        → num (told_num b (length e.written)) 1 ≡ num b (length e.written)
        → IsPut x b b' (record e { written = e.written ++ item ∷ [] })
        (item_packet (met_view st.Open x rest b b' p e) (num (told_num b (length e.written)) 1) item)
    put zero is one number = absurd (omega arith)
    put (suc i) is one number =
        user_put st.Open x rest b b' i item p e (record e { written = e.written ++ item ∷ [] }) _
        (ap (slice_get (e.written ++ item ∷ [])) is ∙ last_item e.written item)
        (let last = arrived_within p e e.receipted d d.receipted_arrived in omega arith)
        (let longer = length-one_more e.written item in omega arith) refl (is_open x p e at o back).met.0 users
        (number ∙ ap (num b) (sym is))

-- what may be written
within_most : (most : Option ℕ) (item : ItemView) → most_bytes (kind_of item.op) ≡ most → (n : ℕ) → most ≡ Some n
    → length item.body ≤ n → IsUsers item
within_most most item is n some fits = by_kind (kind_of item.op) refl
  where
    by_kind : (kind : OpKind) → kind_of item.op ≡ kind → IsUsers item
    by_kind k.Data h = inl h
    by_kind k.Eof h =
        let zero_bytes : Some 0 ≡ Some n = ap most_bytes (sym h) ∙ is ∙ some in
        inr (h, nil_from_length item.body (let z : 0 ≡ n = cc in omega arith))
    by_kind k.Rfc h = let z : None ≡ Some n = ap most_bytes (sym h) ∙ is ∙ some in absurd (cc)
    by_kind k.Opn h = let z : None ≡ Some n = ap most_bytes (sym h) ∙ is ∙ some in absurd (cc)
    by_kind k.Cls h = let z : None ≡ Some n = ap most_bytes (sym h) ∙ is ∙ some in absurd (cc)
    by_kind k.Fwd h = let z : None ≡ Some n = ap most_bytes (sym h) ∙ is ∙ some in absurd (cc)
    by_kind k.Ans h = let z : None ≡ Some n = ap most_bytes (sym h) ∙ is ∙ some in absurd (cc)
    by_kind k.Sns h = let z : None ≡ Some n = ap most_bytes (sym h) ∙ is ∙ some in absurd (cc)
    by_kind k.Sts h = let z : None ≡ Some n = ap most_bytes (sym h) ∙ is ∙ some in absurd (cc)
    by_kind k.Los h = let z : None ≡ Some n = ap most_bytes (sym h) ∙ is ∙ some in absurd (cc)
    by_kind k.Lsn h = let z : None ≡ Some n = ap most_bytes (sym h) ∙ is ∙ some in absurd (cc)
    by_kind k.Unc h = let z : None ≡ Some n = ap most_bytes (sym h) ∙ is ∙ some in absurd (cc)
    by_kind k.Other h = let z : None ≡ Some n = ap most_bytes (sym h) ∙ is ∙ some in absurd (cc)

-- a write is refused, and changes nothing, or it is allowed in the plain machine and done
abbrev pub Writes : Side → Rest → ℕ → ℕ → ItemView → ℕ → Plain → Plain → Type 0
Writes x rest b b' item now p e =
    ((f : ConnFault)
    × (act_write (shown x rest b b' p e) item.op item.body now ≡ quietly (shown x rest b b' p e) (Err f)))
    ⊎ ((e.phase ≡ Open) × (length e.written - e.acknowledged < e.window) × IsUsers item
    × Leaves x b b' p (record e { written = e.written ++ item ∷ [] })
    (act_write (shown x rest b b' p e) item.op item.body now))

pub not_open : (s : State) → is_ended s ≡ true → is_open_state s ≡ false
not_open s h = (ended_is_over s h).not_open

write_open : (x : Side) (rest : Rest) (b b' : ℕ) (item : ItemView) (now : ℕ) (e p : Plain) → is_ended rest.ended ≡ true
    → e.phase ≡ Open → Sound e p → Sound p e → EndOk x e → (most : Option ℕ) → most_bytes (kind_of item.op) ≡ most
    → ((f : ConnFault)
    × (write_at_most (met_view st.Open x rest b b' p e) most item
    (moment (met_view st.Open x rest b b' p e) now)
    ≡ quietly (met_view st.Open x rest b b' p e) (Err f)))
    ⊎ ((length e.written - e.acknowledged < e.window) × IsUsers item
    × Leaves x b b' p (record e { written = e.written ++ item ∷ [] })
    (write_at_most (met_view st.Open x rest b b' p e) most item
    (moment (met_view st.Open x rest b b' p e) now)))
write_open x rest b b' item now e p end at d back o None is = inl (fa.BadOp, refl)
write_open x rest b b' item now e p end at d back o (Some most) is =
    let v : ConnView = met_view st.Open x rest b b' p e in
    let L : Acted (Result ℕ ConnFault) → Type 0 = Leaves x b b' p (record e { written = e.written ++ item ∷ [] }) in
    let rest_of : Acted (Result ℕ ConnFault) =
    cond (ltb (outstanding_of v.send) v.send.window)
    (with_item (record v { last = moment v now; untold = 0 }) item (Ok (next_of v.send)))
    (quietly v (Err fa.Full)) in
    ⊎_elim
    (λ (t : most < length item.body). inl (fa.TooLong, cond-true _ _ _ (lt-ltb most (length item.body) t)))
    (λ (t : length item.body ≤ most).
    let small : write_at_most v (Some most) item (moment v now) ≡ rest_of =
    cond-false _ _ _ (le-ltb most (length item.body) t) in
    ⊎_elim
    (λ (u : outstanding_of v.send < v.send.window).
    let users = within_most (Some most) item is most refl t in
    inr (
      omega (arith, room_is b e p d o.caps.1),
      users,
      subst L (sym (small ∙ cond-true _ _ _ (lt-ltb (outstanding_of v.send) v.send.window u)))
          (wrote_leaves x rest b b' item (moment v now) e p end at d back o users),
    ))
    (λ (u : v.send.window ≤ outstanding_of v.send). inl
    (fa.Full, small ∙ cond-false _ _ _ (le-ltb (outstanding_of v.send) v.send.window u)))
    (cases_lt (outstanding_of v.send) v.send.window))
    (cases_lt most (length item.body))

write_at : (phase : Phase) (x : Side) (rest : Rest) (b b' : ℕ) (item : ItemView) (now : ℕ) (e p : Plain)
    → e.phase ≡ phase → is_ended rest.ended ≡ true → Sound e p → Sound p e → EndOk x e
    → ((f : ConnFault)
    × (act_write (shown_at phase x rest b b' p e) item.op item.body now
    ≡ quietly (shown_at phase x rest b b' p e) (Err f)))
    ⊎ ((e.phase ≡ Open) × (length e.written - e.acknowledged < e.window) × IsUsers item
    × Leaves x b b' p (record e { written = e.written ++ item ∷ [] })
    (act_write (shown_at phase x rest b b' p e) item.op item.body now))
write_at Inactive x rest b b' item now e p at end d back o = inl (fa.NotOpen, refl)
write_at RfcSent x rest b b' item now e p at end d back o = inl (fa.NotOpen, refl)
write_at RfcReceived x rest b b' item now e p at end d back o = inl (fa.NotOpen, refl)
write_at Ended x rest b b' item now e p at end d back o = inl (fa.NotOpen, cond-false _ _ _ (not_open rest.ended end))
write_at Closed x rest b b' item now e p at end d back o = inl (fa.NotOpen, refl)
write_at Open x rest b b' item now e p at end d back o =
    let met = is_open x p e at o back in
    subst
    (λ v. ((f : ConnFault) × (act_write v item.op item.body now ≡ quietly v (Err f)))
    ⊎ ((e.phase ≡ Open) × (length e.written - e.acknowledged < e.window) × IsUsers item
    × Leaves x b b' p (record e { written = e.written ++ item ∷ [] }) (act_write v item.op item.body now)))
    (sym (in_met st.Open x rest b b' p e met.met (back.front 0 met.met.0)))
    (⊎_elim (λ l. inl l) (λ r. inr (at, r.0, r.1, r.2))
    (write_open x rest b b' item now e p end at d back o (most_bytes (kind_of item.op)) refl))

pub write_leaves : (x : Side) (rest : Rest) (b b' : ℕ) (item : ItemView) (now : ℕ) (e p : Plain)
    → is_ended rest.ended ≡ true → Sound e p → Sound p e → EndOk x e → Writes x rest b b' item now p e
write_leaves x rest b b' item now e p end d back o = write_at e.phase x rest b b' item now e p refl end d back o

-- ---- another window

-- it is refused, and changes nothing, or it is allowed in the plain machine and done
abbrev pub Resizes : Side → ℕ → ℕ → ℕ → Plain → Plain → ConnView → Type 0
Resizes x b b' window p e v =
    ((f : ConnFault) × (act_announce v window ≡ quietly v (Err f)))
    ⊎ ((e.phase ≡ Open) × (window ≤ e.recv_cap)
    × Leaves x b b' p (record e { announced = window }) (act_announce v window))

-- the receive window alone changes
resized_view : (x : Side) (rest : Rest) (b b' window : ℕ) (p e : Plain)
    → record (met_view st.Open x rest b b' p e) { recv = after_announcement (recv_view b' p e) window }
    ≡ met_view st.Open x rest b b' p (record e { announced = window })
resized_view x rest b b' window p e =
    let f : Plain = record e { announced = window } in
    λ j. record (met_view st.Open x rest b b' p f)
    { recv = record (recv_view b' p f) { held = same_slots p e p f (length e.read) e.recv_cap (λ k l. refl) j } }

resize_open : (x : Side) (rest : Rest) (b b' window : ℕ) (e p : Plain) → is_ended rest.ended ≡ true → e.phase ≡ Open
    → Sound p e → EndOk x e → Resizes x b b' window p e (met_view st.Open x rest b b' p e)
resize_open x rest b b' window e p end at back o =
    let f : Plain = record e { announced = window } in
    let v : ConnView = met_view st.Open x rest b b' p e in
    let opens : IsOpen p f = record {
      phase = at;
      met = (is_open x p e at o back).met;
      reader = record {
        begins = back.begins;
        within = back.within;
        inside = back.inside;
        front = back.front;
        acked_read = back.acked_read;
        in_order = back.in_order;
        receipted_arrived = back.receipted_arrived;
        room = back.room;
        window_cap = back.window_cap;
      };
    } in
    ⊎_elim
    (λ (t : e.recv_cap < window). inl (fa.BadWindow, cond-true _ _ _ (lt-ltb e.recv_cap window t)))
    (λ (t : window ≤ e.recv_cap).
    inr (
      at,
      t,
      subst (Leaves x b b' p f)
          (sym
          (cond-false _ _ _ (le-ltb e.recv_cap window t)
          ∙ ap (λ u. with_sts u (Ok tt)) (resized_view x rest b b' window p e)))
          (leaves_sts (Ok tt) x rest b b' p f end opens),
    ))
    (cases_lt e.recv_cap window)

resize_at : (phase : Phase) (x : Side) (rest : Rest) (b b' window : ℕ) (e p : Plain) → e.phase ≡ phase
    → is_ended rest.ended ≡ true → Sound p e → EndOk x e → Resizes x b b' window p e (shown_at phase x rest b b' p e)
resize_at Inactive x rest b b' window e p at end back o = inl (fa.NotOpen, refl)
resize_at RfcSent x rest b b' window e p at end back o = inl (fa.NotOpen, refl)
resize_at RfcReceived x rest b b' window e p at end back o = inl (fa.NotOpen, refl)
resize_at Ended x rest b b' window e p at end back o = inl (fa.NotOpen, cond-false _ _ _ (not_open rest.ended end))
resize_at Closed x rest b b' window e p at end back o = inl (fa.NotOpen, refl)
resize_at Open x rest b b' window e p at end back o =
    let met = is_open x p e at o back in
    subst (Resizes x b b' window p e) (sym (in_met st.Open x rest b b' p e met.met (back.front 0 met.met.0)))
    (resize_open x rest b b' window e p end at back o)

pub resize_leaves : (x : Side) (rest : Rest) (b b' window : ℕ) (e p : Plain) → is_ended rest.ended ≡ true → Sound p e
    → EndOk x e → Resizes x b b' window p e (shown x rest b b' p e)
resize_leaves x rest b b' window e p end back o = resize_at e.phase x rest b b' window e p refl end back o

-- ---- a close

no_cls : (v : ConnView) (text : List ℕ) → is_ended v.state ≡ true → cls_of v text ≡ []
no_cls v text h = cond-false _ _ _ (ended_is_over v.state h).tells_no_close

-- what a close leaves, where the text fits
abbrev closes : ConnView → List ℕ → Acted (Result (Unit {0}) ConnFault)
closes v text = record { view = closed_conn v; packets = cls_of v text; answer = Ok tt }

cls_put : (state : State) (x : Side) (rest : Rest) (b b' : ℕ) (p e f : Plain) (text : List ℕ)
    → (x ≡ A → 1 ≤ length f.read) → index_of x (length e.read) ≡ Some 1
    → IsPut x b b' f (packet_to_peer (shown_in state x rest b b' p e) 3 0 0 text)
cls_put state x rest b b' p e f text read index =
    record { kind = Cls; met = λ is. inr (read is); told = Nothing; may = tt; tells = refl; stands = record { header = record { dst = refl; dst_index = ap (λ (o : Option ℕ). unwrap_or o 0) index; src = refl; src_index = refl }; what = (refl, refl); tells = refl } }

b_not_a : B ≡ A → ⊥
b_not_a is = cc

close_at : (phase : Phase) (x : Side) (rest : Rest) (b b' : ℕ) (text : List ℕ) (e p : Plain) → e.phase ≡ phase
    → is_ended rest.ended ≡ true → EndOk x e
    → Leaves x b b' p (record e { phase = closed_phase phase }) (closes (shown_at phase x rest b b' p e) text)
close_at Inactive x rest b b' text e p at end o = record { rest = rest; ended = end; view = refl; packets = All-nil _ }
close_at RfcSent x rest b b' text e p at end o = record { rest = rest; ended = end; view = refl; packets = All-nil _ }
close_at RfcReceived A rest b b' text e p at end o =
    absurd (subst (λ (ph : Phase). Fits ph A e.written e.read e.arrived) at o.fits)
close_at RfcReceived B rest b b' text e p at end o =
    record { rest = rest; ended = end; view = refl; packets = All-push (IsPut B b b' (record e { phase = Closed })) [] _ (All-nil _) (cls_put st.RfcReceived B rest b b' p e (record e { phase = Closed }) text (λ is. absurd (b_not_a is)) refl) }
close_at Open x rest b b' text e p at end o =
    let met : HasMet e.written e.read = subst (λ (ph : Phase). Fits ph x e.written e.read e.arrived) at o.fits in
    record { rest = rest; ended = end; view = refl; packets = All-push (IsPut x b b' (record e { phase = Closed })) [] _ (All-nil _) (cls_put st.Open x rest b b' p e (record e { phase = Closed }) text (λ _. met.0) (index_met x e met.0)) }
close_at Ended x rest b b' text e p at end o =
    record { rest = rest; ended = end; view = refl; packets = subst (All (IsPut x b b' (record e { phase = Closed }))) (sym (no_cls (shown_in rest.ended x rest b b' p e) text end)) (All-nil _) }
close_at Closed x rest b b' text e p at end o = record { rest = rest; ended = end; view = refl; packets = All-nil _ }

-- a close is refused, and changes nothing, or done
pub close_leaves : (x : Side) (rest : Rest) (b b' : ℕ) (text : List ℕ) (e p : Plain) → is_ended rest.ended ≡ true
    → EndOk x e
    → (act_close (shown x rest b b' p e) text ≡ quietly (shown x rest b b' p e) (Err fa.TooLong))
    ⊎ Leaves x b b' p (record e { phase = closed_phase e.phase }) (act_close (shown x rest b b' p e) text)
close_leaves x rest b b' text e p end o =
    ⊎_elim
    (λ (t : 488 < length text). inl (cond-true _ _ _ (lt-ltb 488 (length text) t)))
    (λ (t : length text ≤ 488). inr
    (subst (Leaves x b b' p (record e { phase = closed_phase e.phase }))
    (sym (cond-false _ _ _ (le-ltb 488 (length text) t))) (close_at e.phase x rest b b' text e p refl end o)))
    (cases_lt 488 (length text))
