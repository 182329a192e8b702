-- What comes again is answered by a status.
use Rattle.std.proofs.Common.{◌≡◌, ℕ, zero, suc, ◌+◌, ◌-◌, ◌<◌, ◌≤◌, [], ◌∷◌, ◌++◌, length, map, cond, ◌&&◌, leb, ltb, true, false, Some, refl, sym, ap, ◌∙◌, subst, inl, inr, ◌⊎◌, ⊎_elim, arith}
use Rattle.std.proofs.lemmas.Bool.{cond_both, cond-false, cases_lt, and_left, and_right, and_parts, lt-leb, le-ltb, ltb-true}
use Rattle.chaos_packet.specs.Number.{num, off}
use Rattle.chaos_packet.specs.Opcode.{kind_of, is_rfc}
use Rattle.chaos_packet.specs.Packet.{PacketView, item_of}
use Rattle.chaos_packet.specs.Item.{ItemView}
use Rattle.chaos_packet.specs.declared.opcode.Kind.TheVariants as k
use Rattle.chaos_window.specs.Receive.{ReceiveView, is_held, is_within, is_past, arrival_of}
use Rattle.chaos_window.specs.declared.arrival.Arrived.{Arrived}
use Rattle.chaos_window.specs.declared.arrival.Arrived.TheVariants as arr
use Rattle.chaos_conn.specs.declared.state.State.TheVariants as st
use Rattle.chaos_conn.specs.declared.answers.Delivered.{Delivered}
use Rattle.chaos_conn.specs.View.{ConnView}
use Rattle.chaos_conn.specs.Acted.{Acted}
use Rattle.chaos_conn.specs.Act.{Call}
use Rattle.chaos_conn.specs.Act.Call.{Deliver as DeliverPacket}
use Rattle.chaos_conn.specs.Arriving.{act_deliver, deliver_open, heard_with_ack, after_arrived, after_second_opn_telling}
use Rattle.chaos_lab.specs.declared.side.Side.{Side}
use Rattle.chaos_lab.specs.declared.side.Side.TheVariants.{A, B}
use Rattle.chaos_lab.specs.declared.stamped.Stamped.{Stamped as Sent}
use Rattle.chaos_lab.specs.Numbers.{told_num}
use Rattle.chaos_lab.specs.Machine.{PlainEnd as Plain, Kind, Told, Copy, Machine, other, end_of}
use Rattle.chaos_lab.specs.Machine.Phase.{Open}
use Rattle.chaos_lab.specs.Machine.Kind.{Nth, Sns, Sts, Cls}
use Rattle.chaos_lab.specs.Machine.Told.{Nothing, Acknowledges, Status}
use Rattle.chaos_lab.specs.Shown.{Rest, recv_view, met_view, HasItems, IsWhat, StandsFor}
use Rattle.chaos_lab.specs.Tied.{HasMachine, Agrees, base_of}
use Rattle.chaos_lab.specs.Laboratory.{LabView, Done, lab_end, is_fresh, happen, after_call}
use Rattle.chaos_lab.specs.Headline.{IsCopyOf, len_at}
use Rattle.chaos_lab.specs.Laboratory.Happening.{DeliverCopy}
use Rattle.chaos_lab.specs.Progress.{ComesAgain, IsAnswered}
use Rattle.chaos_lab.proofs.ActCases.{act_rfc}
use Rattle.chaos_lab.proofs.DeliverOpen.{to_open}
use Rattle.chaos_lab.proofs.Known.{other_other}
use Rattle.chaos_lab.proofs.OnSide.{conn_at, first_at, items_at, read_at, written_at}
use Rattle.chaos_lab.proofs.CopyTies.{copy_known}
use Rattle.chaos_lab.proofs.HeadlineLaw.{open_at, taken, kind_at, item_kind}
use Rattle.chaos_lab.proofs.Machines.{reached_holds, end_holds}
use Rattle.chaos_lab.proofs.Ends.{announced_fits}
use Rattle.chaos_lab.proofs.Lists.{begins_shorter}
use Rattle.chaos_lab.proofs.Helping.{stands_to, stamp_after, copies_after, shows}

-- it puts out an STS, and nothing else
record IsSts (acted : Acted Delivered) : Type 0 where
  pub packet : PacketView
  pub one : acted.packets ≡ packet ∷ []
  pub op : packet.op ≡ 7

-- an item that was read before
not_within : (window d : ℕ) → (d ≡ 0) ⊎ (32768 ≤ d) → window ≤ 64 → (leb 1 d && leb d window) ≡ false
not_within window d (inl none) small = and_left _ _ (lt-leb 1 d (omega (arith, none)))
not_within window d (inr far) small = and_right _ _ (lt-leb d window (omega (arith, far, small)))

not_past : (window d : ℕ) → (d ≡ 0) ⊎ (32768 ≤ d) → (ltb window d && ltb d 32768) ≡ false
not_past window d (inl none) = and_left _ _ (le-ltb window d (omega (arith, none)))
not_past window d (inr far) = and_right _ _ (le-ltb d 32768 far)

behind : (b i read : ℕ) → i < read → read < i + 32705
    → (off (num b i) (told_num b read) ≡ 0) ⊎ (32768 ≤ off (num b i) (told_num b read))
behind b i read before near =
    ⊎_elim
    (λ (t : i + 1 < read). inr (omega (arith, t, near)))
    (λ (t : read ≤ i + 1). inl (omega (arith, t, before)))
    (cases_lt (i + 1) read)

read_before : (b i : ℕ) (p e : Plain) → e.announced ≤ 64 → i < length e.read → length e.read < i + 32705
    → arrival_of (recv_view b p e) (num b i) ≡ arr.Duplicate
read_before b i p e small before near =
    let v : ReceiveView = recv_view b p e in
    let d : ℕ = off (num b i) (told_num b (length e.read)) in
    let far = behind b i (length e.read) before near in
    let same : Arrived → Type 0 = λ a. a ≡ arr.Duplicate in
    cond_both (is_held v d) arr.Duplicate (cond (is_within v d) arr.Took (cond (is_past v d) arr.Outside arr.Duplicate))
    same (λ _. refl)
    (λ _. cond-false _ _ _ (not_within e.announced d far small) ∙ cond-false _ _ _ (not_past e.announced d far))

-- data or an EOF
item_again : (x : Side) (rest : Rest) (b b' i r : ℕ) (pk : PacketView) (now : ℕ) (p e : Plain) → HasItems (other x) b p
    → StandsFor (other x) b' b p pk (Nth (suc i)) (Acknowledges r) → e.announced ≤ 64 → suc i < length e.read
    → length e.read < suc i + 32705 → IsSts (act_deliver (met_view st.Open x rest b b' p e) pk now)
item_again x rest b b' i r pk now p e its s small before near =
    let item : ItemView = record { op = pk.op; body = pk.body } in
    let v : ConnView = met_view st.Open x rest b b' p e in
    let late : arrival_of (recv_view b' p e) pk.num ≡ arr.Duplicate =
    ap (arrival_of (recv_view b' p e)) s.what.1 ∙ read_before b' (suc i) p e small before near in
    let told : (item : ItemView)
    → IsSts (after_arrived (heard_with_ack v pk now) (arrival_of (recv_view b' p e) pk.num) pk.num item) =
    λ item.
    subst (λ a. IsSts (after_arrived (heard_with_ack v pk now) a pk.num item)) (sym late)
    (record { packet = _; one = refl; op = refl }) in
    ⊎_elim
    (λ (d : kind_of pk.op ≡ k.Data).
    subst IsSts
    (sym
    (to_open x rest b b' pk now p e (Nth (suc i)) s.header s.header.dst_index (ap is_rfc d)
    ∙ ap (deliver_open v pk now) d))
    (told item))
    (λ (d : (kind_of pk.op ≡ k.Eof) × (pk.body ≡ [])).
    subst IsSts
    (sym
    (to_open x rest b b' pk now p e (Nth (suc i)) s.header s.header.dst_index (ap is_rfc d.0)
    ∙ ap (deliver_open v pk now) d.0))
    (told (record { op = pk.op; body = [] })))
    (its.users i item s.what.0)

-- the OPN or the RFC
first_again : (x : Side) (told : Told) (rest : Rest) (b b' : ℕ) (pk : PacketView) (now : ℕ) (p e : Plain)
    → HasItems (other x) b p → Agrees (other x) (Nth 0) told → StandsFor (other x) b' b p pk (Nth 0) told
    → IsSts (act_deliver (met_view st.Open x rest b b' p e) pk now)
first_again A (Status r f w) rest b b' pk now p e its ag s =
    let v : ConnView = met_view st.Open A rest b b' p e in
    let kind : kind_of pk.op ≡ k.Opn = ap kind_of (its.first (record { op = pk.op; body = pk.body }) s.what.0).0 in
    subst IsSts
    (sym
    (to_open A rest b b' pk now p e (Nth 0) s.header s.header.dst_index (ap is_rfc kind)
    ∙ ap (deliver_open v pk now) kind ∙ ap (after_second_opn_telling v pk now) s.tells.1))
    (record { packet = _; one = refl; op = refl })
first_again A Nothing rest b b' pk now p e its ag s = absurd ag
first_again A (Acknowledges r) rest b b' pk now p e its ag s = absurd ag
first_again B told rest b b' pk now p e its ag s =
    let v : ConnView = met_view st.Open B rest b b' p e in
    let kind : kind_of pk.op ≡ k.Rfc = ap kind_of (its.first (record { op = pk.op; body = pk.body }) s.what.0) in
    subst IsSts
    (sym
    (act_rfc v pk now refl s.header.dst s.header.src kind refl (λ j. Some (sym s.header.src_index j)) s.what.1))
    (record { packet = _; one = refl; op = refl })

-- an SNS
sns_again : (x : Side) (told : Told) (rest : Rest) (b b' : ℕ) (pk : PacketView) (now : ℕ) (p e : Plain)
    → StandsFor (other x) b' b p pk Sns told → IsSts (act_deliver (met_view st.Open x rest b b' p e) pk now)
sns_again x told rest b b' pk now p e s =
    let v : ConnView = met_view st.Open x rest b b' p e in
    let kind : kind_of pk.op ≡ k.Sns = ap kind_of s.what.0 in
    subst IsSts
    (sym
    (to_open x rest b b' pk now p e Sns s.header s.header.dst_index (ap is_rfc kind)
    ∙ ap (deliver_open v pk now) kind))
    (record { packet = _; one = refl; op = refl })

nth_again : (i : ℕ) (x : Side) (told : Told) (rest : Rest) (b b' : ℕ) (pk : PacketView) (now : ℕ) (p e : Plain)
    → HasItems (other x) b p → Agrees (other x) (Nth i) told → StandsFor (other x) b' b p pk (Nth i) told
    → e.announced ≤ 64 → i < length e.read → length e.read < i + 32705
    → IsSts (act_deliver (met_view st.Open x rest b b' p e) pk now)
nth_again zero x told rest b b' pk now p e its ag s small before near = first_again x told rest b b' pk now p e its ag s
nth_again (suc i) x (Acknowledges r) rest b b' pk now p e its ag s small before near =
    item_again x rest b b' i r pk now p e its s small before near
nth_again (suc i) A Nothing rest b b' pk now p e its ag s small before near = absurd ag
nth_again (suc i) B Nothing rest b b' pk now p e its ag s small before near = absurd ag
nth_again (suc i) A (Status r f w) rest b b' pk now p e its ag s small before near = absurd ag
nth_again (suc i) B (Status r f w) rest b b' pk now p e its ag s small before near = absurd ag

-- ---- in the laboratory

sns_kind : (kind : Kind) (x : Side) (b b' : ℕ) (e : Plain) (pk : PacketView) → HasItems x b' e → IsWhat b e pk kind
    → pk.op ≡ 6 → kind ≡ Sns
sns_kind (Nth i) x b b' e pk its what is = absurd ((item_kind x b' i e (item_of pk) its what.0).0 (ap kind_of is))
sns_kind Sns x b b' e pk its what is = refl
sns_kind Sts x b b' e pk its what is = let no : 7 ≡ 6 = sym what.0 ∙ is in absurd (omega (arith, no))
sns_kind Cls x b b' e pk its what is = let no : 3 ≡ 6 = sym what.0 ∙ is in absurd (omega (arith, no))

fresh_at : (z : Side) (l : LabView) (s : Sent) → is_fresh l.a l.b s ≡ true
    → length (lab_end l z).written < len_at z s + 32640
fresh_at A l s near =
    let less = ltb-true (length l.a.written - s.len_a) 32640 (and_parts _ _ near).0 in omega (arith, less)
fresh_at B l s near =
    let less = ltb-true (length l.b.written - s.len_b) 32640 (and_parts _ _ near).1 in omega (arith, less)

pub answered : (l : LabView) → HasMachine l → (n : ℕ) (s : Sent) → ComesAgain l n s → IsAnswered l n s
answered l h n s comes =
    let w : Machine = h.plain in
    let t = h.ties in
    let z : Side = s.side in
    let y : Side = other z in
    let pk : PacketView = s.packet in
    let e : Plain = end_of w y in
    let p : Plain = end_of w (other y) in
    let at : e.phase ≡ Open = open_at y w l t comes.open_end in
    let found = copy_known w l n s t comes.sent comes.fresh in
    let c : Copy = found.0 in
    let know = found.2 in
    let call : Call = DeliverPacket pk l.clock in
    let lab : (happen l (DeliverCopy n)).lab ≡ after_call l y call =
    ap (λ (d : Done). d.lab) (taken w l n s t comes.sent comes.fresh at) in
    let from : c.sender ≡ z = sym found.1 in
    let stands : StandsFor z (base_of l.a.first l.b.first z) (base_of l.a.first l.b.first y) (end_of w z) pk c.kind
    c.told =
    subst
    (λ (q : Side). StandsFor q (base_of l.a.first l.b.first q) (base_of l.a.first l.b.first (other q)) (end_of w q)
    pk c.kind c.told)
    from know.stands in
    let there = stands_to z w l pk c.kind c.told stands in
    let its : HasItems (other y) (first_at l y) p =
    subst (λ (q : Side). HasItems (other y) (first_at l q) p) (other_other y) (items_at (other y) w l t) in
    let agrees : Agrees (other y) c.kind c.told =
    subst (λ (q : Side). Agrees q c.kind c.told) (from ∙ sym (other_other z)) know.agrees in
    let holds = end_holds w y (reached_holds w t.tied.reached) in
    let view = shows y w l t at in
    let most = announced_fits y e holds.ok in
    let sts : IsSts (act_deliver (conn_at l y) pk l.clock) =
    subst (λ (u : ConnView). IsSts (act_deliver u pk l.clock)) (sym view.is)
    (⊎_elim
    (λ (op : pk.op ≡ 6).
    let kind : c.kind ≡ Sns = sns_kind c.kind (other y) (first_at l (other y)) (first_at l y) p pk its there.what op in
    sns_again y c.told view.rest (first_at l y) (first_at l (other y)) pk l.clock p e
    (subst (λ (q : Kind). StandsFor (other y) (first_at l (other y)) (first_at l y) p pk q c.told) kind there))
    (λ (again : (i : ℕ) × IsCopyOf l s i × (i < length (lab_end l y).read)).
    let i : ℕ = again.0 in
    let kind : c.kind ≡ Nth i = kind_at z w l n s i c t from know again.1 in
    let read : length (lab_end l y).read ≡ length e.read = ap length (read_at y w l t) in
    let wrote : length (lab_end l z).written ≡ length p.written =
    ap length (written_at z w l t) ∙ ap (λ (q : Side). length (end_of w q).written) (sym (other_other z)) in
    let within = begins_shorter e.read p.written holds.reader.begins in
    let fresh = fresh_at z l s comes.fresh in
    nth_again i y c.told view.rest (first_at l y) (first_at l (other y)) pk l.clock p e its
    (subst (λ (q : Kind). Agrees (other y) q c.told) kind agrees)
    (subst (λ (q : Kind). StandsFor (other y) (first_at l (other y)) (first_at l y) p pk q c.told) kind there)
    (omega (arith, most, holds.ok.caps.3)) (omega (arith, again.2, read))
    (omega (arith, within, wrote, fresh, again.1.near)))
    comes.again) in (
      stamp_after l y call sts.packet,
      ap (λ (u : LabView). u.copies) lab ∙ copies_after y l call
          ∙ ap (λ ps. l.copies ++ map (stamp_after l y call) ps) sts.one,
      refl,
      sts.op,
    )
