-- A fresh copy comes to an end: its connection does what the end does in the plain machine.
use Rattle.std.proofs.Common.{◌≡◌, ℕ, zero, suc, ◌+◌, ◌≤◌, max, [], ◌∷◌, ◌++◌, length, replicate, true, false, ltb, Some, None, Option, refl, sym, ap, ◌∙◌, subst, ⊎_elim, arith}
use Rattle.std.specs.Prelude.{slice_get, ◌||◌, ◌==◌}
use Rattle.std.specs.FinSet.{contains, insert}
use Rattle.std.proofs.lemmas.Bool.{cond_both, cond-true, cond-false, false_from_ne_true, lt-ltb, eq-eqb}
use Rattle.std.proofs.lemmas.List.Elements.{All-nil}
use Rattle.chaos_lab.specs.declared.side.Side.{Side}
use Rattle.chaos_lab.specs.declared.side.Side.TheVariants.{A, B}
use Rattle.chaos_lab.specs.Machine.{PlainEnd as Plain}
use Rattle.chaos_lab.specs.Machine.Phase.{Inactive, RfcSent, RfcReceived, Open, Ended, Closed}
use Rattle.chaos_lab.specs.Machine.Kind.{Nth, Sns, Sts, Cls}
use Rattle.chaos_lab.specs.Machine.Told.{Nothing, Acknowledges, Status}
use Rattle.chaos_packet.specs.declared.opcode.Kind.{Kind as OpKind}
use Rattle.chaos_packet.specs.declared.opcode.Kind.TheVariants as k
use Rattle.chaos_conn.specs.declared.state.State.{State}
use Rattle.chaos_conn.specs.declared.state.State.TheVariants as st
use Rattle.chaos_conn.specs.declared.answers.Why.TheVariants as wh
use Rattle.chaos_conn.specs.declared.answers.Delivered.TheVariants as de
use Rattle.chaos_packet.specs.Number.{num, off}
use Rattle.chaos_lab.specs.Numbers.{told_num}
use Rattle.chaos_lab.specs.Machine.{Phase, Kind, Told, other, hear, read_item}
use Rattle.chaos_lab.proofs.Total.{received}
use Rattle.chaos_lab.proofs.Functions.{next_item, step_received}
use Rattle.chaos_lab.proofs.Lists.{length-one_more, contains-insert_cases, contains-insert_same}
use Rattle.chaos_lab.proofs.Ends.{EndOk, EndStep, Fits, IsNew, IsNone, announces_at, announced_fits}
use Rattle.chaos_lab.proofs.Copies.{KindOk, ToldOk, TellsMet}
use Rattle.chaos_packet.specs.Item.{ItemView}
use Rattle.chaos_packet.specs.Packet.{PacketView}
use Rattle.chaos_packet.specs.Opcode.{kind_of}
use Rattle.chaos_window.specs.Send.{after_acknowledgement, after_receipt, after_window, clear_send}
use Rattle.chaos_window.specs.Receive.{clear_receive, ReceiveView, started_receive, after_arrival}
use Rattle.chaos_conn.specs.View.{ConnView, heard_at}
use Rattle.chaos_conn.specs.Acted.{quietly}
use Rattle.chaos_conn.specs.Sending.{with_sts}
use Rattle.chaos_packet.specs.Opcode.{is_rfc}
use Rattle.chaos_conn.specs.Arriving.{after_end, may_be_index, deliver_requested, act_deliver, deliver_asking, deliver_open, drop_for, after_opn_telling}
use Rattle.chaos_conn.specs.State.{is_requested, is_live, is_ended}
use Rattle.chaos_conn.specs.Opening.{act_take_request, after_taking_rfc}
use Rattle.chaos_lab.specs.Shown.{Rest, place_of, send_view, recv_view, send_shown, recv_shown, slots_from, idle, shown, shown_in, shown_at, met_view, HasHeader, StandsFor, Leaves}
use Rattle.chaos_lab.specs.Tied.{Agrees}
use Rattle.chaos_lab.proofs.SendTie.{counts_is, read_within}
use Rattle.chaos_lab.proofs.RecvTie.{no_slots, arrived_is, took_in_true}
use Rattle.chaos_lab.proofs.ActCases.{act_dead, act_other, act_rfc}
use Rattle.chaos_lab.proofs.OpenEnd.{IsOpen, is_open, open_is, in_met, leaves_sts}
use Rattle.chaos_lab.proofs.Known.{Known, ComesLate}
use Rattle.chaos_conn.proofs.Ended.{ended_is_over}
use Rattle.chaos_lab.proofs.DeliverOpen.{heard_rest, open_item, open_sns, open_sts, open_opn, open_rfc, to_open}

module _ {R : Type 0} where
  -- nothing changes
  same_leaves : (answer : R) (x : Side) (rest : Rest) (b b' : ℕ) (p e : Plain) (phase : Phase) → e.phase ≡ phase
      → is_ended rest.ended ≡ true → Leaves x b b' p e (quietly (shown_at phase x rest b b' p e) answer)
  same_leaves answer x rest b b' p e phase at end =
      record { rest = rest; ended = end; view = ap (λ ph. shown_at ph x rest b b' p e) (sym at); packets = All-nil _ }

-- it ended already
is_dead : (s : State) → is_ended s ≡ true → is_live s ≡ false
is_dead s h = (ended_is_over s h).not_live

dead_leaves : (phase : Phase) (x : Side) (rest : Rest) (b b' : ℕ) (pk : PacketView) (now : ℕ) (p e : Plain)
    → e.phase ≡ phase → is_ended rest.ended ≡ true → is_live (shown_at phase x rest b b' p e).state ≡ false
    → Leaves x b b' p e (act_deliver (shown_at phase x rest b b' p e) pk now)
dead_leaves phase x rest b b' pk now p e at end dead =
    subst (Leaves x b b' p e) (sym (act_dead (shown_at phase x rest b b' p e) pk now dead))
    (same_leaves (de.Dropped wh.NotOpen) x rest b b' p e phase at end)

-- a CLS ends it
ended_leaves : (state : State) (x : Side) (rest : Rest) (b b' now : ℕ) (pk : PacketView) (p e : Plain)
    → is_requested state ≡ false → is_ended rest.ended ≡ true
    → Leaves x b b' p (record e { phase = Ended })
    (quietly (after_end (heard_at (shown_in state x rest b b' p e) now) st.ClsReceived) (de.Closed pk))
ended_leaves state x rest b b' now pk p e not_requested end =
    let rest' : Rest = record (heard_rest rest now) { ended = st.ClsReceived } in
    record { rest = rest'; ended = refl; view = λ j. record (shown_in st.ClsReceived x rest' b b' p e) { recv = cond-false _ (clear_receive (recv_shown b' p e).cap) (recv_shown b' p e) not_requested j }; packets = All-nil _ }

-- ---- at an end that has asked

pub to_asked : (rest : Rest) (b b' : ℕ) (pk : PacketView) (now : ℕ) (p e : Plain) (kind : Kind) → length e.read ≡ 0
    → HasHeader B pk kind → pk.dst_index ≡ 1 → is_rfc (kind_of pk.op) ≡ false
    → act_deliver (shown_in st.RfcSent A rest b b' p e) pk now
    ≡ deliver_asking (shown_in st.RfcSent A rest b b' p e) pk now (kind_of pk.op)
to_asked rest b b' pk now p e kind none h index not_rfc =
    act_other (shown_in st.RfcSent A rest b b' p e) pk now refl h.dst h.src not_rfc index
    (cond_both (ltb 0 (length e.read)) (Some 1) None (λ (o : Option ℕ). may_be_index o pk.src_index ≡ true)
    (λ _. eq-eqb 1 pk.src_index (sym h.src_index)) (λ _. refl))

cap_shown : (b' : ℕ) (p e : Plain) → (recv_shown b' p e).cap ≡ e.recv_cap
cap_shown b' p e =
    cond_both (contains e.arrived 0) (recv_view b' p e) (started_receive e.recv_cap 0)
    (λ (v : ReceiveView). v.cap ≡ e.recv_cap) (λ _. refl) (λ _. refl)

nothing_there : (e : Plain) (i : ℕ) → IsNone e.arrived → (i ≡ 0 → ⊥) → contains (insert e.arrived 0) i ≡ false
nothing_there e i none apart =
    false_from_ne_true _
    (λ t. ⊎_elim (λ (u : i ≡ 0). apart u) (λ (u : contains e.arrived i ≡ true). none i u)
    (contains-insert_cases 0 e.arrived i t))

-- the OPN comes
opened_leaves : (rest : Rest) (b b' r f w : ℕ) (pk : PacketView) (now : ℕ) (e p : Plain) (len_e len_p : ℕ)
    → is_ended rest.ended ≡ true → Known A b b' e p len_e len_p → e.phase ≡ RfcSent → KindOk (Nth 0) p len_p
    → ToldOk (Status r f w) p e len_e → StandsFor B b' b p pk (Nth 0) (Status r f w)
    → Leaves A b b' p (received RfcSent (Nth 0) (Status r f w) p e)
    (act_deliver (shown_in st.RfcSent A rest b b' p e) pk now)
opened_leaves rest b b' r f w pk now e p len_e len_p end m at near t s =
    let item : ItemView = record { op = pk.op; body = pk.body } in
    let v : ConnView = shown_in st.RfcSent A rest b b' p e in
    let kind : kind_of pk.op ≡ k.Opn = ap kind_of (m.items.first item s.what.0).0 in
    let new : IsNew A e.written e.read × IsNone e.arrived =
    subst (λ (ph : Phase). Fits ph A e.written e.read e.arrived) at m.ok.fits in
    let g : Plain =
    hear (Status r f w) (read_item (Some item) (record e { phase = Open; arrived = insert e.arrived 0 })) in
    let next : next_item p e ≡ Some item = ap (slice_get p.written) new.0.0 ∙ s.what.0 in
    let step : EndStep A e p g =
    subst
    (λ (o : Option ItemView). EndStep A e p
    (hear (Status r f w) (read_item o (record e { phase = Open; arrived = insert e.arrived 0 }))))
    next (step_received RfcSent (Nth 0) (Status r f w) A e p len_p len_e at m.writer m.reader m.ok near t tt) in
    let o : IsOpen p g = is_open A p g refl step.after.ok step.after.reader in
    let one : length (e.read ++ item ∷ []) ≡ 1 = length-one_more e.read item ∙ ap suc new.0.0 in
    let wrote : ltb 0 (length e.written) ≡ true = lt-ltb 0 (length e.written) (omega (arith, new.0.1)) in
    let send : after_window (after_receipt (after_acknowledgement (send_shown b e) pk.ack) (told_num b f)) w
    ≡ send_view b g =
    (λ j. after_window
    (after_receipt
    (after_acknowledgement
    (cond-true (ltb 0 (length e.written)) (send_view b e) (clear_send e.send_cap) wrote j) (s.tells.0 j))
    (told_num b f))
    w)
    ∙ counts_is b r f w e p len_e m.writer m.ok.caps.1 t m.fresh_e in
    let number : pk.num ≡ told_num b' (length (e.read ++ item ∷ [])) = s.what.1 ∙ omega (arith, one) in
    let slots : replicate e.recv_cap None ≡ slots_from p g (length g.read) e.recv_cap =
    sym
    (no_slots p g (length g.read) e.recv_cap
    (λ i l. cond-false _ _ _ (nothing_there e (length g.read + i) new.1 (λ u. omega (arith, one))))) in
    let recv : started_receive (recv_shown b' p e).cap pk.num ≡ recv_view b' p g =
    (λ j. started_receive (cap_shown b' p e j) pk.num)
    ∙ (λ j.
    record { cap = e.recv_cap; window = sym (announces_at A e RfcSent m.ok at) j; read = number j; held = slots j }) in
    subst
    (λ (n : Option ItemView). Leaves A b b' p
    (hear (Status r f w) (read_item n (record e { phase = Open; arrived = insert e.arrived 0 })))
    (act_deliver v pk now))
    (sym next)
    (subst (Leaves A b b' p g)
    (sym (to_asked rest b b' pk now p e (Nth 0) new.0.0 s.header s.header.dst_index (ap is_rfc kind)
    ∙ ap (deliver_asking v pk now) kind
    ∙ ap (after_opn_telling v pk now) s.tells.1
    ∙ (λ j. with_sts
    (record (met_view st.Open A (record (heard_rest rest now) { probed = max rest.last now }) b b' p e)
    { peer_index = Some (s.header.src_index j); send = send j; recv = recv j })
    de.Opened)))
    (leaves_sts de.Opened A (record (heard_rest rest now) { probed = max rest.last now }) b b' p g end o))

-- and it is answered that it opened the end
pub opened_answer : (rest : Rest) (b b' r f w : ℕ) (pk : PacketView) (now : ℕ) (e p : Plain) (len_e len_p : ℕ)
    → Known A b b' e p len_e len_p → e.phase ≡ RfcSent → StandsFor B b' b p pk (Nth 0) (Status r f w)
    → (act_deliver (shown_in st.RfcSent A rest b b' p e) pk now).answer ≡ de.Opened
opened_answer rest b b' r f w pk now e p len_e len_p m at s =
    let v : ConnView = shown_in st.RfcSent A rest b b' p e in
    let kind : kind_of pk.op ≡ k.Opn = ap kind_of (m.items.first (record { op = pk.op; body = pk.body }) s.what.0).0 in
    let new : IsNew A e.written e.read × IsNone e.arrived =
    subst (λ (ph : Phase). Fits ph A e.written e.read e.arrived) at m.ok.fits in
    ap (λ a. a.answer)
    (to_asked rest b b' pk now p e (Nth 0) new.0.0 s.header s.header.dst_index (ap is_rfc kind)
    ∙ ap (deliver_asking v pk now) kind
    ∙ ap (after_opn_telling v pk now) s.tells.1)

-- what isn't for it
asked_other : (kind : Kind) (rest : Rest) (b b' : ℕ) (pk : PacketView) (now : ℕ) (p e : Plain) (op : OpKind)
    → e.phase ≡ RfcSent → length e.read ≡ 0 → is_ended rest.ended ≡ true → HasHeader B pk kind → pk.dst_index ≡ 1
    → kind_of pk.op ≡ op → is_rfc op ≡ false
    → deliver_asking (shown_in st.RfcSent A rest b b' p e) pk now op
    ≡ drop_for (shown_in st.RfcSent A rest b b' p e) wh.NotOpen
    → Leaves A b b' p e (act_deliver (shown_in st.RfcSent A rest b b' p e) pk now)
asked_other kind rest b b' pk now p e op at none end h index is not_rfc drops =
    subst (Leaves A b b' p e)
    (sym
    (to_asked rest b b' pk now p e kind none h index (ap is_rfc is ∙ not_rfc)
    ∙ ap (deliver_asking (shown_in st.RfcSent A rest b b' p e) pk now) is ∙ drops))
    (same_leaves (de.Dropped wh.NotOpen) A rest b b' p e RfcSent at end)

-- ---- at an end that was asked

to_pending : (rest : Rest) (b b' : ℕ) (pk : PacketView) (now : ℕ) (p e : Plain) (kind : Kind) → HasHeader A pk kind
    → pk.dst_index ≡ 1 → is_rfc (kind_of pk.op) ≡ false
    → act_deliver (shown_in st.RfcReceived B rest b b' p e) pk now
    ≡ deliver_requested (shown_in st.RfcReceived B rest b b' p e) pk now (kind_of pk.op)
to_pending rest b b' pk now p e kind h index not_rfc =
    act_other (shown_in st.RfcReceived B rest b b' p e) pk now refl h.dst h.src not_rfc index
    (eq-eqb 1 pk.src_index (sym h.src_index))

pending_other : (kind : Kind) (rest : Rest) (b b' : ℕ) (pk : PacketView) (now : ℕ) (p e : Plain) (op : OpKind)
    → e.phase ≡ RfcReceived → is_ended rest.ended ≡ true → HasHeader A pk kind → pk.dst_index ≡ 1 → kind_of pk.op ≡ op
    → is_rfc op ≡ false
    → deliver_requested (shown_in st.RfcReceived B rest b b' p e) pk now op
    ≡ drop_for (shown_in st.RfcReceived B rest b b' p e) wh.NotOpen
    → Leaves B b b' p e (act_deliver (shown_in st.RfcReceived B rest b b' p e) pk now)
pending_other kind rest b b' pk now p e op at end h index is not_rfc drops =
    subst (Leaves B b b' p e)
    (sym
    (to_pending rest b b' pk now p e kind h index (ap is_rfc is ∙ not_rfc)
    ∙ ap (deliver_requested (shown_in st.RfcReceived B rest b b' p e) pk now) is ∙ drops))
    (same_leaves (de.Dropped wh.NotOpen) B rest b b' p e RfcReceived at end)

pending_rfc : (rest : Rest) (b b' : ℕ) (pk : PacketView) (now : ℕ) (e p : Plain) (len_e len_p : ℕ)
    → is_ended rest.ended ≡ true → Known B b b' e p len_e len_p → e.phase ≡ RfcReceived
    → StandsFor A b' b p pk (Nth 0) Nothing
    → Leaves B b b' p e (act_deliver (shown_in st.RfcReceived B rest b b' p e) pk now)
pending_rfc rest b b' pk now e p len_e len_p end m at s =
    subst (Leaves B b b' p e)
    (sym
    (act_rfc (shown_in st.RfcReceived B rest b b' p e) pk now refl s.header.dst s.header.src
    (ap kind_of (m.items.first (record { op = pk.op; body = pk.body }) s.what.0)) refl
    (λ j. Some (sym s.header.src_index j)) s.what.1))
    (same_leaves de.Duplicate B (heard_rest rest now) b b' p e RfcReceived at end)

not_asked : (e : Plain) → e.phase ≡ RfcReceived → EndOk B e → 1 ≤ length e.written → ⊥
not_asked e at o late =
    let was : IsNew B e.written e.read × (contains e.arrived 0 ≡ true)
    × ((i : ℕ) → contains e.arrived i ≡ true → i ≡ 0) =
    subst (λ (ph : Phase). Fits ph B e.written e.read e.arrived) at o.fits in
    omega (arith, was.0.1)

-- ---- at an end that isn't asked yet: the RFC comes

pub request_leaves : (rest : Rest) (b b' : ℕ) (pk : PacketView) (now : ℕ) (e p : Plain) (len_e len_p : ℕ)
    → is_ended rest.ended ≡ true → Known B b b' e p len_e len_p → e.phase ≡ Inactive → KindOk (Nth 0) p len_p
    → StandsFor A b' b p pk (Nth 0) Nothing
    → Leaves B b b' p (received e.phase (Nth 0) Nothing p e)
    (act_take_request (shown B rest b b' p e) pk (place_of B) now)
request_leaves rest b b' pk now e p len_e len_p end m at near s =
    let item : ItemView = record { op = pk.op; body = pk.body } in
    let new : IsNew B e.written e.read × IsNone e.arrived =
    subst (λ (ph : Phase). Fits ph B e.written e.read e.arrived) at m.ok.fits in
    let kind : kind_of pk.op ≡ k.Rfc = ap kind_of (m.items.first item s.what.0) in
    let f : Plain = record e { phase = RfcReceived; arrived = insert e.arrived 0 } in
    let within = read_within e p m.reader in
    let number : off (num b' 0) 1 ≡ told_num b' (length e.read) = omega (arith, new.0.0) in
    let whole : e.announced ≡ e.recv_cap = announces_at B e Inactive m.ok at in
    let clear : started_receive e.recv_cap (off pk.num 1) ≡ recv_view b' p e =
    λ j. record {
      cap = e.recv_cap;
      window = sym whole j;
      read = (ap (λ n. off n 1) s.what.1 ∙ number) j;
      held =
          sym
          (no_slots p e (length e.read) e.recv_cap
          (λ i l. cond-false _ _ _ (false_from_ne_true _ (new.1 (length e.read + i)))))
          j;
    } in
    let recv : after_arrival (started_receive e.recv_cap (off pk.num 1)) pk.num item ≡ recv_view b' p f =
    (λ j. after_arrival (clear j) (s.what.1 j) item)
    ∙ arrived_is b' 0 item p e s.what.0 near.0 (omega (arith, m.reader.room, m.reader.acked_read, m.peer_most)) within
    (omega (arith, near.1, m.fresh_p, m.peer_most)) m.ok.caps.3 (announced_fits B e m.ok)
    ∙ ap (recv_view b' p) (took_in_true 0 e (omega (arith, new.0.0)) (omega (arith, m.ok.caps.2, whole))) in
    let src : pk.src ≡ 257 = s.header.src in
    let t : ℕ = max rest.last now in
    let w : ConnView = shown_in st.RfcReceived B (record (heard_rest rest now) { untold = 0 }) b b' p f in
    let view : after_taking_rfc (idle rest e) pk (place_of B) t ≡ w =
    λ j. record w {
      peer = src j;
      peer_index = Some (s.header.src_index j);
      request = s.what.1 j;
      send =
          sym
          (cond-false (ltb 0 (length e.written)) (send_view b e) (clear_send e.send_cap)
          (Rattle.std.proofs.lemmas.Bool.le-ltb 0 (length e.written) (omega (arith, new.0.1))))
          j;
      recv =
          (recv
          ∙ sym
          (cond-true (contains (insert e.arrived 0) 0) (recv_view b' p f) (started_receive e.recv_cap 0)
          (contains-insert_same 0 e.arrived)))
          j;
    } in
    subst
    (λ (ph : Phase). Leaves B b b' p (received ph (Nth 0) Nothing p e)
    (act_take_request (shown_at ph B rest b b' p e) pk (place_of B) now))
    (sym at)
    (subst (Leaves B b b' p f)
    (sym (cond-false _ _ _ (ap (λ n. (258 == 0) || (n == 0)) src) ∙ cond-true _ _ _ (ap is_rfc kind)))
    (record { rest = record (heard_rest rest now) { untold = 0 }; ended = end; view = view; packets = All-nil _ }))

-- ---- at an open end

open_cls : (x : Side) (rest : Rest) (b b' : ℕ) (pk : PacketView) (now : ℕ) (e p : Plain) (len_e len_p : ℕ)
    → is_ended rest.ended ≡ true → Known x b b' e p len_e len_p → e.phase ≡ Open
    → StandsFor (other x) b' b p pk Cls Nothing
    → Leaves x b b' p (record e { phase = Ended }) (act_deliver (met_view st.Open x rest b b' p e) pk now)
open_cls x rest b b' pk now e p len_e len_p end m at s =
    let o = is_open x p e at m.ok m.reader in
    let kind : kind_of pk.op ≡ k.Cls = ap kind_of s.what.0 in
    let same : met_view st.Open x rest b b' p e ≡ shown_in st.Open x rest b b' p e =
    sym (in_met st.Open x rest b b' p e o.met (m.reader.front 0 o.met.0)) in
    subst (Leaves x b b' p (record e { phase = Ended }))
    (sym
    (to_open x rest b b' pk now p e Cls s.header s.header.dst_index (ap is_rfc kind)
    ∙ ap (deliver_open (met_view st.Open x rest b b' p e) pk now) kind
    ∙ ap (λ (v : ConnView). quietly (after_end (heard_at v now) st.ClsReceived) (de.Closed pk)) same))
    (ended_leaves st.Open x rest b b' now pk p e refl end)

open_at : (x : Side) (kind : Kind) (told : Told) (rest : Rest) (b b' : ℕ) (pk : PacketView) (now : ℕ) (e p : Plain)
    (len_e len_p : ℕ)
    → e.phase ≡ Open → is_ended rest.ended ≡ true → Known x b b' e p len_e len_p → KindOk kind p len_p
    → ToldOk told p e len_e → TellsMet kind told → Agrees (other x) kind told → StandsFor (other x) b' b p pk kind told
    → Leaves x b b' p (received Open kind told p e) (act_deliver (met_view st.Open x rest b b' p e) pk now)
open_at A (Nth zero) (Status r f w) rest b b' pk now e p len_e len_p at end m near t tm ag s =
    open_opn rest b b' r f w pk now e p len_e len_p end m at t s
open_at A (Nth zero) _ rest b b' pk now e p len_e len_p at end m near t tm ag s = absurd ag
open_at B (Nth zero) Nothing rest b b' pk now e p len_e len_p at end m near t tm ag s =
    open_rfc rest b b' pk now e p len_e len_p end m at s
open_at B (Nth zero) _ rest b b' pk now e p len_e len_p at end m near t tm ag s = absurd ag
open_at x (Nth (suc i)) (Acknowledges r) rest b b' pk now e p len_e len_p at end m near t tm ag s =
    open_item x rest b b' i r pk now e p len_e len_p end m at near t tm s
open_at x (Nth (suc i)) _ rest b b' pk now e p len_e len_p at end m near t tm ag s = absurd tm
open_at x Sns (Acknowledges r) rest b b' pk now e p len_e len_p at end m near t tm ag s =
    open_sns x rest b b' r pk now e p len_e len_p end m at t s
open_at A Sns _ rest b b' pk now e p len_e len_p at end m near t tm ag s = absurd ag
open_at B Sns _ rest b b' pk now e p len_e len_p at end m near t tm ag s = absurd ag
open_at x Sts (Status r f w) rest b b' pk now e p len_e len_p at end m near t tm ag s =
    open_sts x rest b b' r f w pk now e p len_e len_p end m at t s
open_at A Sts _ rest b b' pk now e p len_e len_p at end m near t tm ag s = absurd ag
open_at B Sts _ rest b b' pk now e p len_e len_p at end m near t tm ag s = absurd ag
open_at x Cls Nothing rest b b' pk now e p len_e len_p at end m near t tm ag s =
    open_cls x rest b b' pk now e p len_e len_p end m at s
open_at A Cls _ rest b b' pk now e p len_e len_p at end m near t tm ag s = absurd ag
open_at B Cls _ rest b b' pk now e p len_e len_p at end m near t tm ag s = absurd ag

-- ---- all

deliver_at : (phase : Phase) (x : Side) (kind : Kind) (told : Told) (rest : Rest) (b b' : ℕ) (pk : PacketView) (now : ℕ)
    (e p : Plain) (len_e len_p : ℕ)
    → (phase ≡ Inactive → kind ≡ Nth 0 → ⊥) → e.phase ≡ phase → is_ended rest.ended ≡ true
    → Known x b b' e p len_e len_p → KindOk kind p len_p → ToldOk told p e len_e → TellsMet kind told
    → Agrees (other x) kind told → ComesLate x kind e → StandsFor (other x) b' b p pk kind told
    → Leaves x b b' p (received phase kind told p e) (act_deliver (shown_at phase x rest b b' p e) pk now)
deliver_at Inactive A kind told rest b b' pk now e p len_e len_p apart at end m near t tm ag late s =
    absurd (subst (λ (ph : Phase). Fits ph A e.written e.read e.arrived) at m.ok.fits)
deliver_at Inactive B (Nth zero) told rest b b' pk now e p len_e len_p apart at end m near t tm ag late s =
    absurd (apart refl refl)
deliver_at Inactive B Cls told rest b b' pk now e p len_e len_p apart at end m near t tm ag late s =
    dead_leaves Inactive B rest b b' pk now p e at end refl
deliver_at Inactive B (Nth (suc i)) told rest b b' pk now e p len_e len_p apart at end m near t tm ag late s =
    dead_leaves Inactive B rest b b' pk now p e at end refl
deliver_at Inactive B Sns told rest b b' pk now e p len_e len_p apart at end m near t tm ag late s =
    dead_leaves Inactive B rest b b' pk now p e at end refl
deliver_at Inactive B Sts told rest b b' pk now e p len_e len_p apart at end m near t tm ag late s =
    dead_leaves Inactive B rest b b' pk now p e at end refl
deliver_at RfcSent B kind told rest b b' pk now e p len_e len_p apart at end m near t tm ag late s =
    absurd (subst (λ (ph : Phase). Fits ph B e.written e.read e.arrived) at m.ok.fits)
deliver_at RfcSent A (Nth zero) (Status r f w) rest b b' pk now e p len_e len_p apart at end m near t tm ag late s =
    opened_leaves rest b b' r f w pk now e p len_e len_p end m at near t s
deliver_at RfcSent A (Nth zero) _ rest b b' pk now e p len_e len_p apart at end m near t tm ag late s = absurd ag
deliver_at RfcSent A (Nth (suc i)) told rest b b' pk now e p len_e len_p apart at end m near t tm ag late s =
    let new : IsNew A e.written e.read × IsNone e.arrived =
    subst (λ (ph : Phase). Fits ph A e.written e.read e.arrived) at m.ok.fits in
    ⊎_elim
    (λ (d : kind_of pk.op ≡ k.Data). asked_other (Nth (suc i)) rest b b' pk now p e k.Data at new.0.0 end s.header
    s.header.dst_index d refl refl)
    (λ (d : (kind_of pk.op ≡ k.Eof) × (pk.body ≡ [])). asked_other (Nth (suc i)) rest b b' pk now p e k.Eof at new.0.0
    end s.header s.header.dst_index d.0 refl refl)
    (m.items.users i (record { op = pk.op; body = pk.body }) s.what.0)
deliver_at RfcSent A Sns told rest b b' pk now e p len_e len_p apart at end m near t tm ag late s =
    let new : IsNew A e.written e.read × IsNone e.arrived =
    subst (λ (ph : Phase). Fits ph A e.written e.read e.arrived) at m.ok.fits in
    asked_other Sns rest b b' pk now p e k.Sns at new.0.0 end s.header s.header.dst_index (ap kind_of s.what.0) refl
    refl
deliver_at RfcSent A Sts told rest b b' pk now e p len_e len_p apart at end m near t tm ag late s =
    let new : IsNew A e.written e.read × IsNone e.arrived =
    subst (λ (ph : Phase). Fits ph A e.written e.read e.arrived) at m.ok.fits in
    asked_other Sts rest b b' pk now p e k.Sts at new.0.0 end s.header s.header.dst_index (ap kind_of s.what.0) refl
    refl
deliver_at RfcSent A Cls told rest b b' pk now e p len_e len_p apart at end m near t tm ag late s =
    let new : IsNew A e.written e.read × IsNone e.arrived =
    subst (λ (ph : Phase). Fits ph A e.written e.read e.arrived) at m.ok.fits in
    let kind : kind_of pk.op ≡ k.Cls = ap kind_of s.what.0 in
    subst (Leaves A b b' p (record e { phase = Ended }))
    (sym
    (to_asked rest b b' pk now p e Cls new.0.0 s.header s.header.dst_index (ap is_rfc kind)
    ∙ ap (deliver_asking (shown_in st.RfcSent A rest b b' p e) pk now) kind))
    (ended_leaves st.RfcSent A rest b b' now pk p e refl end)
deliver_at RfcReceived A kind told rest b b' pk now e p len_e len_p apart at end m near t tm ag late s =
    absurd (subst (λ (ph : Phase). Fits ph A e.written e.read e.arrived) at m.ok.fits)
deliver_at RfcReceived B Cls told rest b b' pk now e p len_e len_p apart at end m near t tm ag late s =
    absurd (not_asked e at m.ok late)
deliver_at RfcReceived B (Nth zero) Nothing rest b b' pk now e p len_e len_p apart at end m near t tm ag late s =
    pending_rfc rest b b' pk now e p len_e len_p end m at s
deliver_at RfcReceived B (Nth zero) _ rest b b' pk now e p len_e len_p apart at end m near t tm ag late s = absurd ag
deliver_at RfcReceived B (Nth (suc i)) told rest b b' pk now e p len_e len_p apart at end m near t tm ag late s =
    ⊎_elim
    (λ (d : kind_of pk.op ≡ k.Data). pending_other (Nth (suc i)) rest b b' pk now p e k.Data at end s.header
    s.header.dst_index d refl refl)
    (λ (d : (kind_of pk.op ≡ k.Eof) × (pk.body ≡ [])). pending_other (Nth (suc i)) rest b b' pk now p e k.Eof at end
    s.header s.header.dst_index d.0 refl refl)
    (m.items.users i (record { op = pk.op; body = pk.body }) s.what.0)
deliver_at RfcReceived B Sns told rest b b' pk now e p len_e len_p apart at end m near t tm ag late s =
    pending_other Sns rest b b' pk now p e k.Sns at end s.header s.header.dst_index (ap kind_of s.what.0) refl refl
deliver_at RfcReceived B Sts told rest b b' pk now e p len_e len_p apart at end m near t tm ag late s =
    pending_other Sts rest b b' pk now p e k.Sts at end s.header s.header.dst_index (ap kind_of s.what.0) refl refl
deliver_at Open x kind told rest b b' pk now e p len_e len_p apart at end m near t tm ag late s =
    subst (λ v. Leaves x b b' p (received Open kind told p e) (act_deliver v pk now))
    (sym (ap (λ ph. shown_at ph x rest b b' p e) (sym at) ∙ open_is x rest b b' p e (is_open x p e at m.ok m.reader)))
    (open_at x kind told rest b b' pk now e p len_e len_p at end m near t tm ag s)
deliver_at Ended x kind told rest b b' pk now e p len_e len_p apart at end m near t tm ag late s =
    dead_leaves Ended x rest b b' pk now p e at end (is_dead rest.ended end)
deliver_at Closed x kind told rest b b' pk now e p len_e len_p apart at end m near t tm ag late s =
    dead_leaves Closed x rest b b' pk now p e at end refl

-- What stands for the end that gets a packet of a fresh copy, and what it sends. (An RFC that comes to an end not asked
-- yet is `request_leaves`.)
pub deliver_leaves : (x : Side) (kind : Kind) (told : Told) (rest : Rest) (b b' : ℕ) (pk : PacketView) (now : ℕ)
    (e p : Plain) (len_e len_p : ℕ)
    → (e.phase ≡ Inactive → kind ≡ Nth 0 → ⊥) → is_ended rest.ended ≡ true → Known x b b' e p len_e len_p
    → KindOk kind p len_p → ToldOk told p e len_e → TellsMet kind told → Agrees (other x) kind told → ComesLate x kind e
    → StandsFor (other x) b' b p pk kind told
    → Leaves x b b' p (received e.phase kind told p e) (act_deliver (shown x rest b b' p e) pk now)
deliver_leaves x kind told rest b b' pk now e p len_e len_p apart end m near t tm ag late s =
    deliver_at e.phase x kind told rest b b' pk now e p len_e len_p apart refl end m near t tm ag late s
