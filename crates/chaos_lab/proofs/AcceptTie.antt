-- An acceptance.
use Rattle.std.proofs.Common.{◌≡◌, ℕ, suc, max, [], ◌∷◌, ◌++◌, length, map, drop, true, ltb, Some, None, Option, refl, sym, ap, ◌∙◌, subst, inl, inr, ◌⊎◌, arith, Ok, Err}
use Rattle.std.specs.Prelude.{slice_get}
use Rattle.std.specs.FinSet.{contains}
use Rattle.std.proofs.lemmas.Bool.{cond_both, cond-true, cond-false, false_from_ne_true}
use Rattle.std.proofs.lemmas.List.{nil_from_length}
use Rattle.std.proofs.lemmas.List.Elements.{All-nil, All-push}
use Rattle.chaos_lab.specs.declared.side.Side.TheVariants.{B}
use Rattle.chaos_lab.specs.Machine.{PlainEnd as Plain}
use Rattle.chaos_lab.specs.Machine.Phase.{Inactive, RfcSent, RfcReceived, Open, Ended, Closed}
use Rattle.chaos_conn.specs.declared.state.State.TheVariants as st
use Rattle.chaos_conn.specs.declared.fault.ConnFault.TheVariants as fa
use Rattle.chaos_packet.specs.Number.{num, off}
use Rattle.chaos_lab.specs.Numbers.{told_num}
use Rattle.chaos_lab.specs.Machine.{Phase, FirstMissing, read_item}
use Rattle.chaos_lab.proofs.Functions.{next_item}
use Rattle.chaos_lab.proofs.Directions.{Sound, sound_read}
use Rattle.chaos_lab.proofs.Lists.{length-one_more, member_at}
use Rattle.chaos_lab.proofs.Ends.{EndOk, Fits, IsNew, announces_at}
use Rattle.chaos_packet.specs.Item.{ItemView}
use Rattle.chaos_packet.specs.Words.{halves}
use Rattle.chaos_window.specs.Send.{SendView, after_push, started_send, clear_send}
use Rattle.chaos_packet.specs.Packet.{item_of}
use Rattle.chaos_window.specs.Receive.{ReceiveView, item_at, started_receive, after_advance, receipt_of}
use Rattle.chaos_conn.specs.View.{ConnView}
use Rattle.chaos_conn.specs.Acted.{Acted, quietly}
use Rattle.chaos_conn.proofs.Ended.{ended_is_over}
use Rattle.chaos_conn.specs.Opening.{Outcome, with_opn}
use Rattle.chaos_conn.specs.Sending.{with_item}
use Rattle.chaos_conn.specs.Opening.{act_accept, after_accepting, opn_item}
use Rattle.chaos_conn.specs.Calls.{front_of}
use Rattle.chaos_conn.specs.State.{is_ended}
use Rattle.chaos_lab.specs.Shown.{Rest, send_view, recv_view, send_shown, recv_shown, there_at, shown, shown_in, shown_at, met_view, IsPut, Leaves, HasItems, IsFirst}
use Rattle.chaos_lab.proofs.SendTie.{arrived_within}
use Rattle.chaos_lab.proofs.RecvTie.{advanced_is, front_is, receipt_is}
use Rattle.chaos_lab.proofs.TickTie.{item_put}
use Rattle.chaos_lab.proofs.OpenEnd.{IsOpen, open_is}

-- the item 0 of B
abbrev pub opn_of : ℕ → ℕ → ItemView
opn_of b' cap = record { op = 2; body = halves (told_num b' 1 ∷ cap ∷ []) }

-- the OPN alone went out
abbrev pub Accepts : ItemView → Acted Outcome → Type 0
Accepts opn acted = (acted.answer ≡ Ok tt) × (map item_of acted.packets ≡ opn ∷ [])

-- an item goes out from an end that may write
abbrev sends_first : ConnView → ItemView → Acted Outcome
sends_first w item = with_item w item (Ok tt)

accept_rfc : (rest : Rest) (b b' start now : ℕ) (first : ItemView) (e p : Plain) → is_ended rest.ended ≡ true
    → e.phase ≡ RfcReceived → Sound e p → Sound p e → EndOk B e → next_item p e ≡ Some first
    → Leaves B start b' p
    (record (read_item (Some first) e) { phase = Open; written = e.written ++ opn_of b' e.recv_cap ∷ [] })
    (act_accept (shown_in st.RfcReceived B rest b b' p e) start now)
    × Accepts (opn_of b' e.recv_cap) (act_accept (shown_in st.RfcReceived B rest b b' p e) start now)
    × (front_of (shown_in st.RfcReceived B rest b b' p e) ≡ Some first)
accept_rfc rest b b' start now first e p end at d back o next =
    let v : ConnView = shown_in st.RfcReceived B rest b b' p e in
    let opn : ItemView = opn_of b' e.recv_cap in
    let t : ℕ = max rest.last now in
    let was : IsNew B e.written e.read × (contains e.arrived 0 ≡ true)
    × ((i : ℕ) → contains e.arrived i ≡ true → i ≡ 0) =
    subst (λ (ph : Phase). Fits ph B e.written e.read e.arrived) at o.fits in
    let nil : e.written ≡ [] = nil_from_length e.written was.0.1 in
    let receipted : e.receipted ≡ 0 = omega (arith, was.0.1, arrived_within p e e.receipted d d.receipted_arrived) in
    let acknowledged : e.acknowledged ≡ 0 = omega (arith, d.in_order, receipted) in
    let window : e.window ≡ e.send_cap = o.calm was.0.1 in
    let here : contains e.arrived (length e.read) ≡ true = ap (contains e.arrived) was.0.0 ∙ was.1 in
    let there : there_at p e (length e.read) ≡ Some first = cond-true _ _ _ here ∙ next in
    let f : Plain = read_item (Some first) e in
    let g : Plain = record f { phase = Open; written = e.written ++ opn ∷ [] } in
    let rest0 : Rest = record rest { last = t; heard = t; probed = t; untold = 0 } in
    let rest' : Rest = record rest0 { resent = t } in
    let w : ConnView = record (met_view st.Open B rest0 start b' p g) { send = started_send e.send_cap start } in
    let longer = length-one_more e.written opn in
    let more = length-one_more e.read first in
    let cap : (send_shown b e).cap ≡ e.send_cap =
    cond_both (ltb 0 (length e.written)) (send_view b e) (clear_send e.send_cap)
    (λ (s : SendView). s.cap ≡ e.send_cap) (λ _. refl) (λ _. refl) in
    let recv : after_advance (recv_shown b' p e) ≡ recv_view b' p f =
    ap after_advance (cond-true (contains e.arrived 0) (recv_view b' p e) (started_receive e.recv_cap 0) was.1)
    ∙ advanced_is b' first p e o.caps.2 back.inside there in
    let reader : Sound p f = sound_read p e first back here next in
    let missing : FirstMissing f 1 =
    (λ i l. ap (contains e.arrived) (let z : i ≡ 0 = omega arith in z) ∙ was.1, false_from_ne_true _ (λ u. let z = was.2 1 u in omega arith)) in
    let receipt : receipt_of (recv_view b' p f) ≡ told_num b' 1 = receipt_is b' 1 p f reader missing in
    let starts : after_accepting v start t ≡ w = λ j. record w { recv = recv j; send = started_send (cap j) start } in
    let item : opn_item w ≡ opn =
    λ j. record { op = 2; body = halves (receipt j ∷ announces_at B e RfcReceived o at j ∷ []) } in
    let sent : num (off start 1) 1 ≡ told_num start (length (e.written ++ opn ∷ [])) = omega (arith, longer, was.0.1) in
    let number : num (off start 1) 1 ≡ num start 0 = omega arith in
    let rcpt : off start 1 ≡ told_num start e.receipted = omega (arith, receipted) in
    let ackd : off start 1 ≡ told_num start e.acknowledged = omega (arith, acknowledged) in
    let kept : opn ∷ [] ≡ drop e.receipted (e.written ++ opn ∷ []) =
    sym (λ i. drop (receipted i) (nil i ++ opn ∷ [])) in
    let send : after_push (started_send e.send_cap start) opn.op opn.body ≡ send_view start g =
    λ j.
    record { cap = e.send_cap; sent = sent j; receipted = rcpt j; acknowledged = ackd j; window = sym window j; kept = kept j } in
    let at_first : slice_get (e.written ++ opn ∷ []) 0 ≡ Some opn = ap (λ ws. slice_get (ws ++ opn ∷ []) 0) nil in
    let its : HasItems B b' g = record {
      first =
          λ i h. let same : opn ≡ i = some_is (sym at_first ∙ h) in subst (IsFirst B b' e.recv_cap) same (refl, refl);
      users =
          λ n i h. let none : None ≡ Some i = sym (ap (λ ws. slice_get (ws ++ opn ∷ []) (suc n)) nil)
          ∙ h in absurd (cc);
    } in
    let opens : IsOpen p g =
    record { phase = refl; met = (omega (arith, more), omega (arith, longer)); reader = reader } in
    let goes : act_accept v start now ≡ sends_first w opn = ap with_opn starts ∙ ap (sends_first w) item in (
      subst (Leaves B start b' p g) (sym goes)
          (record {
            rest = rest';
            ended = end;
            view = (λ j. record w { resent = t; send = send j }) ∙ sym (open_is B rest' start b' p g opens);
            packets = All-push (IsPut B start b' g) [] _ (All-nil _)
                (item_put B start b' 0 (num (off start 1) 1) opn p g w
                (record { me = refl; me_index = refl; peer = refl; met = λ i l u. (refl, refl, opens.met.0) }) its
                at_first (omega (arith, receipted)) (omega (arith, longer)) number);
          }),
      subst (Accepts opn) (sym goes) (refl, refl),
      ap (λ (u : ReceiveView). item_at u 1)
          (cond-true (contains e.arrived 0) (recv_view b' p e) (started_receive e.recv_cap 0) was.1)
          ∙ front_is b' p e o.caps.2 ∙ there,
    )
  where
    some_is : {x y : ItemView} → Some x ≡ Some y → x ≡ y
    some_is h = cc

-- it reads the RFC, and writes its OPN
pub record Accepted (rest : Rest) (b b' start now : ℕ) (p e : Plain) (v : ConnView) : Type 0 where
  pub item : ItemView
  pub next : next_item p e ≡ Some item
  pub leaves : Leaves B start b' p
      (record (read_item (next_item p e) e) { phase = Open; written = e.written ++ opn_of b' e.recv_cap ∷ [] })
      (act_accept v start now)
  pub accepts : Accepts (opn_of b' e.recv_cap) (act_accept v start now)
  pub front : front_of v ≡ Some item

-- an acceptance is refused, and changes nothing, or it is allowed in the plain machine and done
pub accept_leaves : (rest : Rest) (b b' start now : ℕ) (e p : Plain) → is_ended rest.ended ≡ true → Sound e p
    → Sound p e → EndOk B e
    → (act_accept (shown B rest b b' p e) start now ≡ quietly (shown B rest b b' p e) (Err fa.WrongState))
    ⊎ ((e.phase ≡ RfcReceived) × Accepted rest b b' start now p e (shown B rest b b' p e))
accept_leaves rest b b' start now e p end d back o = at_phase e.phase refl
  where
    at_phase : (phase : Phase) → e.phase ≡ phase
        → (act_accept (shown_at phase B rest b b' p e) start now
        ≡ quietly (shown_at phase B rest b b' p e) (Err fa.WrongState))
        ⊎ ((e.phase ≡ RfcReceived) × Accepted rest b b' start now p e (shown_at phase B rest b b' p e))
    at_phase Inactive at = inl refl
    at_phase RfcSent at = inl refl
    at_phase Open at = inl refl
    at_phase Ended at = inl (cond-false _ _ _ (ended_is_over rest.ended end).not_requested)
    at_phase Closed at = inl refl
    at_phase RfcReceived at =
        let was : IsNew B e.written e.read × (contains e.arrived 0 ≡ true)
        × ((i : ℕ) → contains e.arrived i ≡ true → i ≡ 0) =
        subst (λ (ph : Phase). Fits ph B e.written e.read e.arrived) at o.fits in
        let first =
        member_at p.written (length e.read)
        (back.within (length e.read) (ap (contains e.arrived) was.0.0 ∙ was.1)) in
        let all = accept_rfc rest b b' start now first.0 e p end at d back o first.1 in
        inr (
          at,
          record {
            item = first.0;
            next = first.1;
            leaves =
                subst
                (λ (n : Option ItemView). Leaves B start b' p
                (record (read_item n e) { phase = Open; written = e.written ++ opn_of b' e.recv_cap ∷ [] })
                (act_accept (shown_in st.RfcReceived B rest b b' p e) start now))
                (sym first.1) all.0;
            accepts = all.1;
            front = all.2;
          },
        )
