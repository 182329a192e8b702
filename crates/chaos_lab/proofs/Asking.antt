-- An end that asked sends its request again, and that comes to the other end.
use Rattle.std.proofs.Common.{◌≡◌, ℕ, ◌<◌, ◌≤◌, List, [], ◌∷◌, length, drop, true, false, not, ◌||◌, Some, None, Ok, refl, sym, ap, ◌∙◌, subst, ⊎_elim, arith}
use Rattle.std.specs.Prelude.{slice_get, ◌==◌}
use Rattle.std.proofs.lemmas.Bool.{cond-true, cond-false, false≢true, and_from, lt-ltb, cases_lt}
use Rattle.std.proofs.lemmas.Option.{slice_get_within}
use Rattle.chaos_packet.specs.Item.{ItemView}
use Rattle.chaos_packet.specs.Number.{num}
use Rattle.chaos_packet.specs.Opcode.{kind_of, is_rfc}
use Rattle.chaos_packet.specs.Packet.{PacketView}
use Rattle.chaos_conn.specs.declared.state.State.TheVariants as st
use Rattle.chaos_conn.specs.declared.time.Due.TheVariants as due
use Rattle.chaos_conn.specs.Act.{Call, act}
use Rattle.chaos_conn.specs.Act.Call.{Tick, TakeRequest}
use Rattle.chaos_conn.specs.Act.Reply.{Did}
use Rattle.chaos_conn.specs.Acted.{quietly}
use Rattle.chaos_conn.specs.Opening.{act_take_request, after_taking_rfc}
use Rattle.chaos_conn.specs.Sending.{item_packet, packets_from}
use Rattle.chaos_conn.specs.State.{awaits_peer, is_inactive, is_ended}
use Rattle.chaos_conn.specs.Time.{at_moment, ticked_by, act_tick}
use Rattle.chaos_conn.specs.View.{ConnView, IsConn, moment}
use Rattle.chaos_window.specs.Send.{clear_send}
use Rattle.chaos_lab.specs.declared.side.Side.{Side}
use Rattle.chaos_lab.specs.declared.side.Side.TheVariants.{A, B}
use Rattle.chaos_lab.specs.declared.stamped.Stamped.{Stamped as Sent}
use Rattle.chaos_lab.specs.Machine.{PlainEnd as Plain, Phase, Copy, Machine, other, end_of}
use Rattle.chaos_lab.specs.Machine.Phase.{Inactive, RfcSent, RfcReceived, Open, Ended, Closed}
use Rattle.chaos_lab.specs.Machine.Kind.{Nth}
use Rattle.chaos_lab.specs.Machine.Event.{TickAt, Deliver}
use Rattle.chaos_lab.specs.Shown.{Rest, place_of, is_a, send_view, shown_at}
use Rattle.chaos_lab.specs.Laboratory.{LabView, Done, happen, delivery_effect, call_at, call_effect, delivery, after_call, is_request, is_fresh, refusal_of}
use Rattle.chaos_lab.specs.Laboratory.Happening.{DeliverCopy}
use Rattle.chaos_lab.specs.Opening.{again_moment, SendsInTime}
use Rattle.chaos_lab.specs.Tied.{Ties, StandsCopy}
use Rattle.chaos_lab.proofs.CopyTies.{CopyKnown, copy_known, takes_by_b}
use Rattle.chaos_lab.proofs.Directions.{Sound}
use Rattle.chaos_lab.proofs.Due.{resends_due, due_again}
use Rattle.chaos_lab.proofs.Ends.{IsNew, IsNone, fits_at}
use Rattle.chaos_lab.proofs.LabTies.{is_first, first_is}
use Rattle.chaos_lab.proofs.Lists.{member_at}
use Rattle.chaos_lab.proofs.Machines.{reached_holds, end_holds}
use Rattle.chaos_lab.proofs.OnSide.{Stepped, conn_at, first_at, stands_at, items_at, refusal_at}
use Rattle.chaos_lab.proofs.UserTies.{tick_ties}
use Rattle.chaos_lab.proofs.Keeps.{CopyAt}
use Rattle.chaos_lab.proofs.Helping.{IsTaken, stamped_of, same_count, fresh_is, stands_at_side, sent_at, sent_what, stamp_after, put_at}

-- ---- what an end's state tells of its phase

asked_by : (phase : Phase) (x : Side) (rest : Rest) (b b' : ℕ) (p e : Plain) → is_ended rest.ended ≡ true
    → (shown_at phase x rest b b' p e).state ≡ st.RfcSent → phase ≡ RfcSent
asked_by Inactive x rest b b' p e end h = let no : st.Inactive ≡ st.RfcSent = h in absurd (cc)
asked_by RfcSent x rest b b' p e end h = refl
asked_by RfcReceived x rest b b' p e end h = let no : st.RfcReceived ≡ st.RfcSent = h in absurd (cc)
asked_by Open x rest b b' p e end h = let no : st.Open ≡ st.RfcSent = h in absurd (cc)
asked_by Ended x rest b b' p e end h = absurd (false≢true (sym (ap is_ended h) ∙ end))
asked_by Closed x rest b b' p e end h = let no : st.Inactive ≡ st.RfcSent = h in absurd (cc)

pub asked_at : (x : Side) (w : Machine) (l : LabView) → Ties w l → (conn_at l x).state ≡ st.RfcSent
    → (end_of w x).phase ≡ RfcSent
asked_at x w l t h =
    let s = stands_at x w l t in asked_by (end_of w x).phase x s.0 _ _ (end_of w (other x)) (end_of w x) s.1
    (sym (ap (λ v. v.state) s.2) ∙ h)

holding_by : (phase : Phase) (x : Side) (rest : Rest) (b b' : ℕ) (p e : Plain) → is_ended rest.ended ≡ true
    → (shown_at phase x rest b b' p e).state ≡ st.RfcReceived → phase ≡ RfcReceived
holding_by Inactive x rest b b' p e end h = let no : st.Inactive ≡ st.RfcReceived = h in absurd (cc)
holding_by RfcSent x rest b b' p e end h = let no : st.RfcSent ≡ st.RfcReceived = h in absurd (cc)
holding_by RfcReceived x rest b b' p e end h = refl
holding_by Open x rest b b' p e end h = let no : st.Open ≡ st.RfcReceived = h in absurd (cc)
holding_by Ended x rest b b' p e end h = absurd (false≢true (sym (ap is_ended h) ∙ end))
holding_by Closed x rest b b' p e end h = let no : st.Inactive ≡ st.RfcReceived = h in absurd (cc)

pub holding_at : (x : Side) (w : Machine) (l : LabView) → Ties w l → (conn_at l x).state ≡ st.RfcReceived
    → (end_of w x).phase ≡ RfcReceived
holding_at x w l t h =
    let s = stands_at x w l t in holding_by (end_of w x).phase x s.0 _ _ (end_of w (other x)) (end_of w x) s.1
    (sym (ap (λ v. v.state) s.2) ∙ h)

-- ---- A sends its request again

-- where nothing has arrived, nothing has a receipt
pub none_receipted : (e p : Plain) → Sound e p → IsNone p.arrived → e.receipted ≡ 0
none_receipted e p d none =
    ⊎_elim
    (λ (some : 0 < e.receipted). absurd (none 0 (d.receipted_arrived 0 some)))
    (λ (no : e.receipted ≤ 0). omega (arith, no))
    (cases_lt 0 e.receipted)

pub first_packet : (items : List ItemView) (v : ConnView) (n : ℕ) (item : ItemView) → slice_get items 0 ≡ Some item
    → slice_get (packets_from v n items) 0 ≡ Some (item_packet v n item)
first_packet [] v n item at = absurd (cc)
first_packet (x ∷ items) v n item at = let same : x ≡ item = cc in λ j. Some (item_packet v n (same j))

-- the RFC is what it keeps
pub record KeepsRfc (v : ConnView) : Type 0 where
  pub item : ItemView
  pub op : item.op ≡ 1
  pub first : slice_get v.send.kept 0 ≡ Some item

pub keeps_rfc : (w : Machine) (l : LabView) → Ties w l → w.a.phase ≡ RfcSent → IsNone w.b.arrived → KeepsRfc l.a.conn
keeps_rfc w l t at none =
    let e : Plain = w.a in
    let h = end_holds w A (reached_holds w t.tied.reached) in
    let new : IsNew A e.written e.read × IsNone e.arrived = fits_at A e RfcSent h.ok at in
    let z = stands_at A w l t in
    let wrote = lt-ltb 0 (length e.written) (omega (arith, new.0.1)) in
    let receipted : e.receipted ≡ 0 = none_receipted e w.b h.writer none in
    let kept : l.a.conn.send.kept ≡ e.written =
    ap (λ (v : ConnView). v.send.kept) z.2 ∙ ap (λ ph. (shown_at ph A z.0 l.a.first l.b.first w.b e).send.kept) at
    ∙ ap (λ s. s.kept) (cond-true _ (send_view l.a.first e) (clear_send e.send_cap) wrote)
    ∙ ap (λ r. drop r e.written) receipted in
    let first = member_at e.written 0 (omega (arith, new.0.1)) in
    record { item = first.0; op = (items_at A w l t).first first.0 first.1; first = ap (λ ks. slice_get ks 0) kept ∙ first.1 }

pub record Asks (w : Machine) (l : LabView) : Type 0 where
  pub machine : Machine
  pub ties : Ties machine (after_call l A (Tick (again_moment l.a.conn)))
  pub copy : Copy
  pub at : CopyAt machine A (length l.copies) copy
  pub kind : copy.kind ≡ Nth 0
  pub acts : act_tick l.a.conn (again_moment l.a.conn)
      ≡ ticked_by due.Resend (at_moment l.a.conn (again_moment l.a.conn))

pub ask_event : (w : Machine) (l : LabView) → Ties w l → l.a.conn.state ≡ st.RfcSent → l.asked ≡ false → IsConn l.a.conn
    → SendsInTime l.a.conn → Asks w l
ask_event w l t state unasked conn time =
    let v : ConnView = l.a.conn in
    let now : ℕ = again_moment v in
    let u : ConnView = at_moment v now in
    let call : Call = Tick now in
    let m : LabView = after_call l A call in
    let b = end_holds w B (reached_holds w t.tied.reached) in
    let unmet : IsNew B w.b.written w.b.read × IsNone w.b.arrived = fits_at B w.b Inactive b.ok (t.asked.new unasked) in
    let rfc = keeps_rfc w l t (asked_at A w l t state) unmet.1 in
    let some : 0 < length v.send.kept = slice_get_within v.send.kept 0 rfc.item rfc.first in
    let acts = resends_due v now conn (due_again v (ap awaits_peer state) some time) in
    let pk : PacketView = item_packet u (num u.send.receipted 1) rfc.item in
    let first : slice_get (act v call).packets 0 ≡ Some pk =
    ap (λ a. slice_get a.packets 0) acts ∙ first_packet v.send.kept u (num u.send.receipted 1) rfc.item rfc.first in
    let s : Stepped w (TickAt A) m = tick_ties A w l now t in
    let n : ℕ = length l.copies in
    let put : slice_get m.copies n ≡ Some (stamp_after l A call pk) = put_at A l call n 0 pk (omega arith) first in
    let count : length l.copies ≡ length w.copies = same_count w l t in
    let sent =
    sent_at A w s.machine s.step.0 m n 0 (stamp_after l A call pk) s.ties s.step.2 (omega (arith, count)) put in
    record {
      machine = s.machine;
      ties = s.ties;
      copy = sent.copy;
      at = sent.at;
      kind =
          is_first sent.copy.kind (first_at m B) (first_at m A) s.machine.a pk (items_at A s.machine m s.ties)
          (sent_what A s.machine m n (stamp_after l A call pk) sent) (ap (λ op. is_rfc (kind_of op)) rfc.op);
      acts = acts;
    }

-- ---- the request comes to B

-- the copy of item 0 of an end, as the laboratory has it
pub record FirstCopy (x : Side) (w : Machine) (l : LabView) (n : ℕ) : Type 0 where
  pub stamped : Sent
  pub side : stamped.side ≡ x
  pub there : slice_get l.copies n ≡ Some stamped
  pub near : is_fresh l.a l.b stamped ≡ true
  pub copy : Copy
  pub sender : copy.sender ≡ x
  pub kind : copy.kind ≡ Nth 0
  pub known : CopyKnown copy.sender w l n stamped copy

pub first_copy : (x : Side) (w : Machine) (l : LabView) (n : ℕ) (c : Copy) → Ties w l → CopyAt w x n c → c.kind ≡ Nth 0
    → FirstCopy x w l n
first_copy x w l n c t h kind =
    let found = stamped_of (StandsCopy l.a.first l.b.first w) l.copies w.copies n c t.tied.copies h.there in
    let s : Sent = found.0 in
    let near : is_fresh l.a l.b s ≡ true = fresh_is w l s c t h.fresh found.2.len_a found.2.len_b in
    let know = copy_known w l n s t found.1 near in
    let same : know.0 ≡ c = let e = know.2.there in let e' = h.there in cc in
    record {
      stamped = s;
      side = found.2.side ∙ h.sender;
      there = found.1;
      near = near;
      copy = know.0;
      sender = ap (λ (d : Copy). d.sender) same ∙ h.sender;
      kind = ap (λ (d : Copy). d.kind) same ∙ kind;
      known = know.2;
    }

-- it is delivered by this call
pub delivers : (x : Side) (w : Machine) (l : LabView) (n : ℕ) (f : FirstCopy x w l n) (call : Call)
    → delivery l.asked l.clock f.stamped ≡ call → happen l (DeliverCopy n) ≡ call_at l (other x) call
delivers x w l n f call picks =
    let goes : call_at l (other f.stamped.side) (delivery l.asked l.clock f.stamped) ≡ call_at l (other x) call =
    λ j. call_at l (other (f.side j)) (picks j) in
    ap (delivery_effect l) f.there ∙ cond-true _ _ _ f.near ∙ goes

-- it is an RFC, from A
rfc_from_a : (w : Machine) (l : LabView) (n : ℕ) → Ties w l → (f : FirstCopy A w l n)
    → (is_rfc (kind_of f.stamped.packet.op) ≡ true) × (f.stamped.packet.src ≡ 257)
rfc_from_a w l n t f =
    let s =
    stands_at_side A f.copy.sender w l.a.first l.b.first f.stamped.packet f.copy.kind f.copy.told f.sender
    f.known.stands in
    (first_is f.copy.kind l.b.first l.a.first w.a f.stamped.packet t.tied.items_a s.what f.kind, s.header.src)

pub inactive : (w : Machine) (l : LabView) → Ties w l → w.b.phase ≡ Inactive → l.b.conn.state ≡ st.Inactive
inactive w l t at =
    let z = stands_at B w l t in ap (λ v. v.state) z.2
    ∙ ap (λ ph. (shown_at ph B z.0 l.b.first l.a.first w.a w.b).state) at

takes_request : (v : ConnView) (pk : PacketView) (now : ℕ) → v.state ≡ st.Inactive → is_rfc (kind_of pk.op) ≡ true
    → pk.src ≡ 257
    → act_take_request v pk (place_of B) now ≡ quietly (after_taking_rfc v pk (place_of B) (moment v now)) (Ok tt)
takes_request v pk now state rfc src =
    cond-true _ _ _ (ap is_inactive state) ∙ cond-false _ _ _ (ap (λ n. (258 == 0) || (n == 0)) src)
    ∙ cond-true _ _ _ rfc

pub record Requests (w : Machine) (l : LabView) (n : ℕ) : Type 0 where
  pub machine : Machine
  pub ties : Ties machine (happen l (DeliverCopy n)).lab
  pub taken : IsTaken l (DeliverCopy n)
  pub packet : PacketView
  pub lab : (happen l (DeliverCopy n)).lab ≡ after_call l B (TakeRequest packet (place_of B) l.clock)
  pub acts : act_take_request l.b.conn packet (place_of B) l.clock
      ≡ quietly (after_taking_rfc l.b.conn packet (place_of B) (moment l.b.conn l.clock)) (Ok tt)

pub request_event : (w : Machine) (l : LabView) (n : ℕ) (c : Copy) → Ties w l → CopyAt w A n c → c.kind ≡ Nth 0
    → l.asked ≡ false → Requests w l n
request_event w l n c t h kind unasked =
    let f = first_copy A w l n c t h kind in
    let s : Sent = f.stamped in
    let pk : PacketView = s.packet in
    let rfc = rfc_from_a w l n t f in
    let new : w.b.phase ≡ Inactive = t.asked.new unasked in
    let call : Call = TakeRequest pk (place_of B) l.clock in
    let request : is_request l.asked s ≡ true = and_from _ _ (ap is_a f.side) (and_from _ _ (ap not unasked) rfc.0) in
    let acts = takes_request l.b.conn pk l.clock (inactive w l t new) rfc.0 rfc.1 in
    let none : refusal_at l B call ≡ None = ap (λ a. refusal_of (Did a.answer)) acts in
    let picks : delivery l.asked l.clock s ≡ call = cond-true _ _ _ request in
    let done : happen l (DeliverCopy n) ≡ call_effect l B call None =
    delivers A w l n f call picks ∙ ap (call_effect l B call) none in
    let lab : (happen l (DeliverCopy n)).lab ≡ after_call l B call = ap (λ (d : Done). d.lab) done in
    let step : Stepped w (Deliver n) (after_call l B call) =
    takes_by_b w l n l.clock s f.copy f.sender f.kind t f.known new in
    record {
      machine = step.machine;
      ties = subst (Ties step.machine) (sym lab) step.ties;
      taken = (_, ap (λ (d : Done). d.answer) done);
      packet = pk;
      lab = lab;
      acts = acts;
    }
