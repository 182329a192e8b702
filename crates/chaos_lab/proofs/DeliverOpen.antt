-- A fresh copy comes to an open end.
use Rattle.std.proofs.Common.{◌≡◌, ℕ, suc, ◌+◌, max, [], length, true, false, ◌&&◌, leb, ltb, Some, refl, sym, ap, ◌∙◌, subst, ⊎_elim}
use Rattle.std.specs.Prelude.{slice_get}
use Rattle.std.specs.FinSet.{insert}
use Rattle.std.proofs.lemmas.Bool.{cond_both}
use Rattle.chaos_lab.specs.declared.side.Side.{Side}
use Rattle.chaos_lab.specs.declared.side.Side.TheVariants.{A, B}
use Rattle.chaos_lab.specs.Machine.{PlainEnd as Plain}
use Rattle.chaos_lab.specs.Machine.Phase.{Open}
use Rattle.chaos_lab.specs.Machine.Kind.{Nth, Sns, Sts}
use Rattle.chaos_lab.specs.Machine.Told.{Nothing, Acknowledges, Status}
use Rattle.chaos_packet.specs.declared.opcode.Kind.TheVariants as k
use Rattle.chaos_window.specs.declared.arrival.Arrived.{Arrived}
use Rattle.chaos_window.specs.declared.arrival.Arrived.TheVariants as arr
use Rattle.chaos_conn.specs.declared.state.State.TheVariants as st
use Rattle.chaos_conn.specs.declared.answers.Delivered.{Delivered}
use Rattle.chaos_conn.specs.declared.answers.Delivered.TheVariants as de
use Rattle.chaos_packet.specs.Number.{num, off}
use Rattle.chaos_lab.specs.Numbers.{told_num}
use Rattle.chaos_lab.specs.Machine.{Kind, other, hear, take_in}
use Rattle.chaos_lab.proofs.Copies.{KindOk, ToldOk, TellsMet}
use Rattle.chaos_lab.proofs.Functions.{step_received}
use Rattle.chaos_packet.specs.Item.{ItemView}
use Rattle.chaos_packet.specs.Packet.{PacketView}
use Rattle.chaos_packet.specs.Opcode.{kind_of}
use Rattle.chaos_window.specs.Send.{after_acknowledgement, after_receipt, after_window}
use Rattle.chaos_window.specs.Receive.{arrival_of, after_arrival, after_answer}
use Rattle.chaos_conn.specs.View.{ConnView, heard_at}
use Rattle.chaos_conn.specs.Acted.{Acted, quietly}
use Rattle.chaos_conn.specs.Sending.{with_sts}
use Rattle.chaos_packet.specs.Opcode.{is_rfc}
use Rattle.chaos_conn.specs.Arriving.{act_deliver, deliver_open, after_item_came, after_arrived, with_ack, with_status, after_second_opn_telling, after_sts_telling}
use Rattle.chaos_conn.specs.State.{is_ended}
use Rattle.chaos_lab.specs.Shown.{Rest, address_of, send_view, recv_view, met_view, HasHeader, StandsFor, Leaves, CarriesTold}
use Rattle.chaos_lab.proofs.SendTie.{reads_is, counts_is}
use Rattle.chaos_lab.proofs.ActCases.{act_other, act_rfc}
use Rattle.chaos_lab.proofs.Ends.{announced_fits}
use Rattle.chaos_lab.proofs.OpenEnd.{IsOpen, is_open, leaves_quiet, leaves_sts}
use Rattle.chaos_lab.proofs.Known.{Known, other_other, took_phase, took_first, item_arrives}

-- the peer was heard
abbrev pub heard_rest : Rest → ℕ → Rest
heard_rest rest now = record rest { last = max rest.last now; heard = max rest.last now }

-- the arrival changes the receive window alone
took_view : (x : Side) (rest : Rest) (b b' i : ℕ) (p e : Plain)
    → record (met_view st.Open x rest b b' p e) { recv = recv_view b' p (take_in i e) }
    ≡ met_view st.Open x rest b b' p (take_in i e)
took_view x rest b b' i p e =
    cond_both (leb (length e.read) i && ltb i (length e.read + e.announced)) (record e { arrived = insert e.arrived i })
    e
    (λ (f : Plain). record (met_view st.Open x rest b b' p e) { recv = recv_view b' p f }
    ≡ met_view st.Open x rest b b' p f)
    (λ _. refl) (λ _. refl)

-- item i came, and this is what became of it
came_leaves : (a : Arrived) (x : Side) (rest : Rest) (b b' i n : ℕ) (item : ItemView) (p e : Plain)
    → is_ended rest.ended ≡ true → IsOpen p (take_in i e) → a ≡ arrival_of (recv_view b' p e) n
    → after_arrival (recv_view b' p e) n item ≡ recv_view b' p (take_in i e)
    → Leaves x b b' p (take_in i e) (after_arrived (met_view st.Open x rest b b' p e) a n item)
came_leaves arr.Took x rest b b' i n item p e end o is arrives =
    subst (λ v. Leaves x b b' p (take_in i e) (quietly v de.Took))
    (sym ((λ j. record (met_view st.Open x rest b b' p e) { recv = arrives j }) ∙ took_view x rest b b' i p e))
    (leaves_quiet de.Took x rest b b' p (take_in i e) end o)
came_leaves arr.Duplicate x rest b b' i n item p e end o is arrives =
    let same : recv_view b' p e ≡ recv_view b' p (take_in i e) =
    ap (λ a. after_answer a (recv_view b' p e) (off n (recv_view b' p e).read) item) is ∙ arrives in
    subst (λ v. Leaves x b b' p (take_in i e) (with_sts v de.Duplicate))
    (sym ((λ j. record (met_view st.Open x rest b b' p e) { recv = same j }) ∙ took_view x rest b b' i p e))
    (leaves_sts de.Duplicate x rest b b' p (take_in i e) end o)
came_leaves arr.Outside x rest b b' i n item p e end o is arrives =
    let same : recv_view b' p e ≡ recv_view b' p (take_in i e) =
    ap (λ a. after_answer a (recv_view b' p e) (off n (recv_view b' p e).read) item) is ∙ arrives in
    subst (λ v. Leaves x b b' p (take_in i e) (with_sts v de.Outside))
    (sym ((λ j. record (met_view st.Open x rest b b' p e) { recv = same j }) ∙ took_view x rest b b' i p e))
    (leaves_sts de.Outside x rest b b' p (take_in i e) end o)

-- the packet goes to an open end, and isn't an RFC
pub to_open : (x : Side) (rest : Rest) (b b' : ℕ) (pk : PacketView) (now : ℕ) (p e : Plain) (kind : Kind)
    → HasHeader (other x) pk kind → pk.dst_index ≡ 1 → is_rfc (kind_of pk.op) ≡ false
    → act_deliver (met_view st.Open x rest b b' p e) pk now
    ≡ deliver_open (met_view st.Open x rest b b' p e) pk now (kind_of pk.op)
to_open x rest b b' pk now p e kind h index not_rfc =
    act_other (met_view st.Open x rest b b' p e) pk now refl (h.dst ∙ ap address_of (other_other x)) h.src not_rfc index
    (Rattle.std.proofs.lemmas.Bool.eq-eqb 1 pk.src_index (sym h.src_index))

-- what was told is taken
acked_view : (x : Side) (rest : Rest) (b b' r : ℕ) (pk : PacketView) (now : ℕ) (e p : Plain) (len_e len_p : ℕ)
    → Known x b b' e p len_e len_p → ToldOk (Acknowledges r) p e len_e → CarriesTold b pk (Acknowledges r)
    → with_ack (heard_at (met_view st.Open x rest b b' p e) now) pk.ack
    ≡ met_view st.Open x (heard_rest rest now) b b' p (hear (Acknowledges r) e)
acked_view x rest b b' r pk now e p len_e len_p m t carries =
    λ j. record (met_view st.Open x (heard_rest rest now) b b' p e)
    { send = (ap (after_acknowledgement (send_view b e)) carries ∙ reads_is b r e p len_e m.writer m.ok.caps.1 t m.fresh_e) j }

status_view : (x : Side) (rest : Rest) (b b' r f w : ℕ) (ack : ℕ) (now : ℕ) (e p : Plain) (len_e len_p : ℕ)
    → Known x b b' e p len_e len_p → ToldOk (Status r f w) p e len_e → ack ≡ told_num b r
    → with_status (heard_at (met_view st.Open x rest b b' p e) now) ack (told_num b f, w)
    ≡ met_view st.Open x (heard_rest rest now) b b' p (hear (Status r f w) e)
status_view x rest b b' r f w ack now e p len_e len_p m t carries =
    λ j. record (met_view st.Open x (heard_rest rest now) b b' p e)
    { send = (ap (λ n. after_window (after_receipt (after_acknowledgement (send_view b e) n) (told_num b f)) w) carries ∙ counts_is b r f w e p len_e m.writer m.ok.caps.1 t m.fresh_e) j }

-- data or an EOF
item_leaves : (x : Side) (rest : Rest) (b b' i r : ℕ) (pk : PacketView) (now : ℕ) (item : ItemView) (e p : Plain)
    (len_e len_p : ℕ)
    → is_ended rest.ended ≡ true → Known x b b' e p len_e len_p → e.phase ≡ Open → KindOk (Nth (suc i)) p len_p
    → ToldOk (Acknowledges r) p e len_e → TellsMet (Nth (suc i)) (Acknowledges r)
    → slice_get p.written (suc i) ≡ Some item → pk.num ≡ num b' (suc i) → CarriesTold b pk (Acknowledges r)
    → Leaves x b b' p (take_in (suc i) (hear (Acknowledges r) e))
    (after_item_came (with_ack (heard_at (met_view st.Open x rest b b' p e) now) pk.ack) pk.num item)
item_leaves x rest b b' i r pk now item e p len_e len_p end m at k t tm is number carries =
    let f : Plain = hear (Acknowledges r) e in
    let g : Plain = take_in (suc i) f in
    let s = step_received Open (Nth (suc i)) (Acknowledges r) x e p len_p len_e at m.writer m.reader m.ok k t tm in
    let o = is_open x p g (took_phase (suc i) f ∙ at) s.after.ok s.after.reader in
    subst (λ (u : ConnView × ℕ). Leaves x b b' p g (after_item_came u.0 u.1 item))
    (sym (λ j. (acked_view x rest b b' r pk now e p len_e len_p m t carries j, number j)))
    (came_leaves (arrival_of (recv_view b' p f) (num b' (suc i))) x (heard_rest rest now) b b' (suc i) (num b' (suc i))
    item p f end o refl
    (item_arrives b' (suc i) r item e p len_p m.reader m.peer_most m.ok.caps.3 (announced_fits x e m.ok) k m.fresh_p
    is))

pub open_item : (x : Side) (rest : Rest) (b b' i r : ℕ) (pk : PacketView) (now : ℕ) (e p : Plain) (len_e len_p : ℕ)
    → is_ended rest.ended ≡ true → Known x b b' e p len_e len_p → e.phase ≡ Open → KindOk (Nth (suc i)) p len_p
    → ToldOk (Acknowledges r) p e len_e → TellsMet (Nth (suc i)) (Acknowledges r)
    → StandsFor (other x) b' b p pk (Nth (suc i)) (Acknowledges r)
    → Leaves x b b' p (take_in (suc i) (hear (Acknowledges r) e))
    (act_deliver (met_view st.Open x rest b b' p e) pk now)
open_item x rest b b' i r pk now e p len_e len_p end m at near t tm s =
    let item : ItemView = record { op = pk.op; body = pk.body } in
    let L : Acted Delivered → Type 0 = Leaves x b b' p (take_in (suc i) (hear (Acknowledges r) e)) in
    let v : ConnView = met_view st.Open x rest b b' p e in
    ⊎_elim
    (λ (d : kind_of pk.op ≡ k.Data).
    subst L
    (sym
    (to_open x rest b b' pk now p e (Nth (suc i)) s.header s.header.dst_index (ap is_rfc d)
    ∙ ap (deliver_open v pk now) d))
    (item_leaves x rest b b' i r pk now item e p len_e len_p end m at near t tm s.what.0 s.what.1 s.tells))
    (λ (d : (kind_of pk.op ≡ k.Eof) × (pk.body ≡ [])).
    subst L
    (sym
    (to_open x rest b b' pk now p e (Nth (suc i)) s.header s.header.dst_index (ap is_rfc d.0)
    ∙ ap (deliver_open v pk now) d.0
    ∙ (λ j. after_item_came (with_ack (heard_at v now) pk.ack) pk.num (record { op = pk.op; body = sym d.1 j }))))
    (item_leaves x rest b b' i r pk now item e p len_e len_p end m at near t tm s.what.0 s.what.1 s.tells))
    (m.items.users i item s.what.0)

pub open_sns : (x : Side) (rest : Rest) (b b' r : ℕ) (pk : PacketView) (now : ℕ) (e p : Plain) (len_e len_p : ℕ)
    → is_ended rest.ended ≡ true → Known x b b' e p len_e len_p → e.phase ≡ Open → ToldOk (Acknowledges r) p e len_e
    → StandsFor (other x) b' b p pk Sns (Acknowledges r)
    → Leaves x b b' p (hear (Acknowledges r) e) (act_deliver (met_view st.Open x rest b b' p e) pk now)
open_sns x rest b b' r pk now e p len_e len_p end m at t s =
    let v : ConnView = met_view st.Open x rest b b' p e in
    let kind : kind_of pk.op ≡ k.Sns = ap kind_of s.what.0 in
    let step = step_received Open Sns (Acknowledges r) x e p len_p len_e at m.writer m.reader m.ok tt t tt in
    let o = is_open x p (hear (Acknowledges r) e) at step.after.ok step.after.reader in
    subst (Leaves x b b' p (hear (Acknowledges r) e))
    (sym
    (to_open x rest b b' pk now p e Sns s.header s.header.dst_index (ap is_rfc kind)
    ∙ ap (deliver_open v pk now) kind
    ∙ ap (λ (u : ConnView). with_sts u de.Probed) (acked_view x rest b b' r pk now e p len_e len_p m t s.tells)))
    (leaves_sts de.Probed x (heard_rest rest now) b b' p (hear (Acknowledges r) e) end o)

pub open_sts : (x : Side) (rest : Rest) (b b' r f w : ℕ) (pk : PacketView) (now : ℕ) (e p : Plain) (len_e len_p : ℕ)
    → is_ended rest.ended ≡ true → Known x b b' e p len_e len_p → e.phase ≡ Open → ToldOk (Status r f w) p e len_e
    → StandsFor (other x) b' b p pk Sts (Status r f w)
    → Leaves x b b' p (hear (Status r f w) e) (act_deliver (met_view st.Open x rest b b' p e) pk now)
open_sts x rest b b' r f w pk now e p len_e len_p end m at t s =
    let v : ConnView = met_view st.Open x rest b b' p e in
    let kind : kind_of pk.op ≡ k.Sts = ap kind_of s.what.0 in
    let step = step_received Open Sts (Status r f w) x e p len_p len_e at m.writer m.reader m.ok tt t tt in
    let o = is_open x p (hear (Status r f w) e) at step.after.ok step.after.reader in
    subst (Leaves x b b' p (hear (Status r f w) e))
    (sym
    (to_open x rest b b' pk now p e Sts s.header s.header.dst_index (ap is_rfc kind)
    ∙ ap (deliver_open v pk now) kind
    ∙ ap (after_sts_telling v pk now) s.tells.1
    ∙ ap (λ (u : ConnView). quietly u de.Status)
    (status_view x rest b b' r f w pk.ack now e p len_e len_p m t s.tells.0)))
    (leaves_quiet de.Status x (heard_rest rest now) b b' p (hear (Status r f w) e) end o)

-- the OPN comes to an open A
pub open_opn : (rest : Rest) (b b' r f w : ℕ) (pk : PacketView) (now : ℕ) (e p : Plain) (len_e len_p : ℕ)
    → is_ended rest.ended ≡ true → Known A b b' e p len_e len_p → e.phase ≡ Open → ToldOk (Status r f w) p e len_e
    → StandsFor B b' b p pk (Nth 0) (Status r f w)
    → Leaves A b b' p (take_in 0 (hear (Status r f w) e)) (act_deliver (met_view st.Open A rest b b' p e) pk now)
open_opn rest b b' r f w pk now e p len_e len_p end m at t s =
    let v : ConnView = met_view st.Open A rest b b' p e in
    let kind : kind_of pk.op ≡ k.Opn = ap kind_of (m.items.first (record { op = pk.op; body = pk.body }) s.what.0).0 in
    let step = step_received Open Sts (Status r f w) A e p len_p len_e at m.writer m.reader m.ok tt t tt in
    let o = is_open A p (hear (Status r f w) e) at step.after.ok step.after.reader in
    subst (λ (g : Plain). Leaves A b b' p g (act_deliver v pk now))
    (sym (took_first (Status r f w) e (is_open A p e at m.ok m.reader).met.0))
    (subst (Leaves A b b' p (hear (Status r f w) e))
    (sym
    (to_open A rest b b' pk now p e (Nth 0) s.header s.header.dst_index (ap is_rfc kind)
    ∙ ap (deliver_open v pk now) kind
    ∙ ap (after_second_opn_telling v pk now) s.tells.1
    ∙ ap (λ (u : ConnView). with_sts u de.Duplicate)
    (status_view A rest b b' r f w pk.ack now e p len_e len_p m t s.tells.0)))
    (leaves_sts de.Duplicate A (heard_rest rest now) b b' p (hear (Status r f w) e) end o))

-- the RFC comes again to an open B
pub open_rfc : (rest : Rest) (b b' : ℕ) (pk : PacketView) (now : ℕ) (e p : Plain) (len_e len_p : ℕ)
    → is_ended rest.ended ≡ true → Known B b b' e p len_e len_p → e.phase ≡ Open → StandsFor A b' b p pk (Nth 0) Nothing
    → Leaves B b b' p (take_in 0 e) (act_deliver (met_view st.Open B rest b b' p e) pk now)
open_rfc rest b b' pk now e p len_e len_p end m at s =
    let v : ConnView = met_view st.Open B rest b b' p e in
    let kind : kind_of pk.op ≡ k.Rfc = ap kind_of (m.items.first (record { op = pk.op; body = pk.body }) s.what.0) in
    let o = is_open B p e at m.ok m.reader in
    subst (λ (g : Plain). Leaves B b b' p g (act_deliver v pk now)) (sym (took_first Nothing e o.met.0))
    (subst (Leaves B b b' p e)
    (sym (act_rfc v pk now refl s.header.dst s.header.src kind refl (λ j. Some (sym s.header.src_index j)) s.what.1))
    (leaves_sts de.Duplicate B (heard_rest rest now) b b' p e end o))
