-- The delivery of a copy keeps the tie of the laboratory.
use Rattle.std.proofs.Common.{◌≡◌, ℕ, zero, suc, ◌-◌, ◌<◌, List, [], ◌∷◌, length, true, Some, refl, sym, ap, ◌∙◌, subst, ⊎_elim, arith}
use Rattle.std.specs.Prelude.{slice_get}
use Rattle.std.specs.List.{AllZip}
use Rattle.std.specs.FinSet.{insert}
use Rattle.std.proofs.lemmas.Bool.{false≢true, and_parts, ltb-true}
use Rattle.std.proofs.lemmas.List.{append-nil}
use Rattle.std.proofs.lemmas.Option.{slice_get_within, get_or_from_slice_get}
use Rattle.chaos_packet.specs.Opcode.{kind_of}
use Rattle.chaos_packet.specs.Packet.{PacketView, item_of}
use Rattle.chaos_packet.specs.declared.opcode.Kind.TheVariants as k
use Rattle.chaos_conn.specs.declared.state.State.{State}
use Rattle.chaos_conn.specs.declared.state.State.TheVariants as st
use Rattle.chaos_conn.specs.View.{ConnView}
use Rattle.chaos_conn.specs.State.{is_ended}
use Rattle.chaos_conn.specs.Arriving.{act_deliver}
use Rattle.chaos_conn.specs.Opening.{act_take_request}
use Rattle.chaos_conn.specs.Act.Call.{TakeRequest, Deliver as DeliverPacket}
use Rattle.chaos_conn.specs.Act.Reply.{Did, Came}
use Rattle.chaos_lab.specs.declared.side.Side.{Side}
use Rattle.chaos_lab.specs.declared.side.Side.TheVariants.{A, B}
use Rattle.chaos_lab.specs.declared.stamped.Stamped.{Stamped as Sent}
use Rattle.chaos_lab.specs.Machine.{PlainEnd as Plain, Phase, Kind, Told, Copy, Machine, other, end_of, read_item, Fresh}
use Rattle.chaos_lab.specs.Machine.Phase.{Inactive, RfcSent, RfcReceived, Open, Ended, Closed}
use Rattle.chaos_lab.specs.Machine.Kind.{Nth, Sns, Sts, Cls}
use Rattle.chaos_lab.specs.Machine.Told.{Nothing, Acknowledges, Status}
use Rattle.chaos_lab.specs.Machine.Event.{Deliver}
use Rattle.chaos_lab.specs.Shown.{Rest, place_of, shown_at, HasItems, IsWhat, StandsFor, Leaves}
use Rattle.chaos_lab.specs.Laboratory.{LabView, with_opened, is_fresh, after_call}
use Rattle.chaos_lab.specs.Tied.{Ties, StandsCopy, Agrees, MetBefore, base_of}
use Rattle.chaos_lab.proofs.Machines.{reached_holds, copy_at}
use Rattle.chaos_lab.proofs.Copies.{IsCopyOk}
use Rattle.chaos_lab.proofs.Ends.{Fits, IsNew, IsNone, fits_at}
use Rattle.chaos_lab.proofs.Functions.{next_item}
use Rattle.chaos_lab.proofs.Total.{received, comes_received}
use Rattle.chaos_lab.proofs.Items.{new_by_request, reads_by_opening, same_heard_read, same_received, same_items, late_of}
use Rattle.chaos_lab.proofs.Known.{Known}
use Rattle.chaos_lab.proofs.Deliver.{deliver_leaves, request_leaves, opened_answer}
use Rattle.chaos_lab.proofs.Opened.{not_opened, nothing_opened}
use Rattle.chaos_lab.proofs.OnSide.{Stepped, stands_at, asked_keeps, renamed, ties_on}

-- the copy that a packet stands for
module _ {X Y : Type 0} where
  pub copy_of : (R : X → Y → Type 0) (xs : List X) (ys : List Y) (k : ℕ) (x : X) → AllZip R xs ys
      → slice_get xs k ≡ Some x → (y : Y) × (slice_get ys k ≡ Some y) × R x y
  copy_of R [] ys k x h at = absurd (cc)
  copy_of R (z ∷ xs) [] k x h at = absurd h
  copy_of R (z ∷ xs) (y ∷ ys) zero x h at = (y, refl, subst (λ (q : X). R q y) (let e : z ≡ x = cc in e) h.0)
  copy_of R (z ∷ xs) (y ∷ ys) (suc k) x h at = copy_of R xs ys k x h.1 at

-- ---- what is read by a delivery

-- only the OPN's opcode is of that kind
pub not_opn : (x : Side) (kind : Kind) (b b' : ℕ) (p : Plain) (pk : PacketView) → HasItems x b p → IsWhat b' p pk kind
    → (kind ≡ Nth 0 → ⊥) → kind_of pk.op ≡ k.Opn → ⊥
not_opn x (Nth zero) b b' p pk its what apart is = apart refl
not_opn x (Nth (suc i)) b b' p pk its what apart is =
    ⊎_elim
    (λ (d : kind_of pk.op ≡ k.Data). let no : k.Data ≡ k.Opn = sym d ∙ is in absurd (cc))
    (λ (d : (kind_of pk.op ≡ k.Eof) × (pk.body ≡ [])). let no : k.Eof ≡ k.Opn = sym d.0 ∙ is in absurd (cc))
    (its.users i (record { op = pk.op; body = pk.body }) what.0)
not_opn x Sns b b' p pk its what apart is = let no : k.Sns ≡ k.Opn = sym (ap kind_of what.0) ∙ is in absurd (cc)
not_opn x Sts b b' p pk its what apart is = let no : k.Sts ≡ k.Opn = sym (ap kind_of what.0) ∙ is in absurd (cc)
not_opn x Cls b b' p pk its what apart is = let no : k.Cls ≡ k.Opn = sym (ap kind_of what.0) ∙ is in absurd (cc)

-- where the end didn't ask, or the packet isn't item 0
shut_reads : (phase : Phase) (x : Side) (kind : Kind) (told : Told) (b b' : ℕ) (e p : Plain) (pk : PacketView) (now : ℕ)
    (v : ConnView)
    → (phase ≡ RfcSent → kind ≡ Nth 0 → ⊥) → (v.state ≡ st.RfcSent → phase ≡ RfcSent) → HasItems (other x) b p
    → IsWhat b' p pk kind → with_opened (act_deliver v pk now).answer pk e.read ≡ (received phase kind told p e).read
shut_reads phase x kind told b b' e p pk now v apart asks its what =
    nothing_opened (act_deliver v pk now).answer pk e.read
    (not_opened v pk now (λ s is. not_opn (other x) kind b b' p pk its what (apart (asks s)) is))
    ∙ sym (reads_by_opening phase kind told p e apart)

ended_not_asking : (s : State) → is_ended s ≡ true → s ≡ st.RfcSent → ⊥
ended_not_asking s h is = false≢true (sym (ap is_ended is) ∙ h)

deliver_reads_at : (phase : Phase) (x : Side) (kind : Kind) (told : Told) (rest : Rest) (b b' : ℕ) (pk : PacketView)
    (now : ℕ) (e p : Plain) (len_e len_p : ℕ)
    → e.phase ≡ phase → is_ended rest.ended ≡ true → Known x b b' e p len_e len_p → Agrees (other x) kind told
    → StandsFor (other x) b' b p pk kind told
    → with_opened (act_deliver (shown_at phase x rest b b' p e) pk now).answer pk e.read
    ≡ (received phase kind told p e).read
deliver_reads_at Inactive x kind told rest b b' pk now e p len_e len_p at end m ag s =
    shut_reads Inactive x kind told b b' e p pk now (shown_at Inactive x rest b b' p e)
    (λ i _. let no : Inactive ≡ RfcSent = i in absurd (cc))
    (λ i. let no : st.Inactive ≡ st.RfcSent = i in absurd (cc)) m.items s.what
deliver_reads_at RfcReceived x kind told rest b b' pk now e p len_e len_p at end m ag s =
    shut_reads RfcReceived x kind told b b' e p pk now (shown_at RfcReceived x rest b b' p e)
    (λ i _. let no : RfcReceived ≡ RfcSent = i in absurd (cc))
    (λ i. let no : st.RfcReceived ≡ st.RfcSent = i in absurd (cc)) m.items s.what
deliver_reads_at Open x kind told rest b b' pk now e p len_e len_p at end m ag s =
    shut_reads Open x kind told b b' e p pk now (shown_at Open x rest b b' p e)
    (λ i _. let no : Open ≡ RfcSent = i in absurd (cc)) (λ i. let no : st.Open ≡ st.RfcSent = i in absurd (cc))
    m.items s.what
deliver_reads_at Closed x kind told rest b b' pk now e p len_e len_p at end m ag s =
    shut_reads Closed x kind told b b' e p pk now (shown_at Closed x rest b b' p e)
    (λ i _. let no : Closed ≡ RfcSent = i in absurd (cc))
    (λ i. let no : st.Inactive ≡ st.RfcSent = i in absurd (cc)) m.items s.what
deliver_reads_at Ended x kind told rest b b' pk now e p len_e len_p at end m ag s =
    shut_reads Ended x kind told b b' e p pk now (shown_at Ended x rest b b' p e)
    (λ i _. let no : Ended ≡ RfcSent = i in absurd (cc)) (λ i. absurd (ended_not_asking rest.ended end i)) m.items
    s.what
deliver_reads_at RfcSent B kind told rest b b' pk now e p len_e len_p at end m ag s =
    absurd (subst (λ (ph : Phase). Fits ph B e.written e.read e.arrived) at m.ok.fits)
deliver_reads_at RfcSent A (Nth zero) (Status r f w) rest b b' pk now e p len_e len_p at end m ag s =
    let new : IsNew A e.written e.read × IsNone e.arrived =
    subst (λ (ph : Phase). Fits ph A e.written e.read e.arrived) at m.ok.fits in
    let next : next_item p e ≡ Some (item_of pk) = ap (slice_get p.written) new.0.0 ∙ s.what.0 in
    let told : Told = Status r f w in
    ap (λ d. with_opened d pk e.read) (opened_answer rest b b' r f w pk now e p len_e len_p m at s)
    ∙ sym (same_heard_read told (read_item (next_item p e) (record e { phase = Open; arrived = insert e.arrived 0 }))
    ∙ ap (λ o. (read_item o (record e { phase = Open; arrived = insert e.arrived 0 })).read) next)
deliver_reads_at RfcSent A (Nth zero) Nothing rest b b' pk now e p len_e len_p at end m ag s = absurd ag
deliver_reads_at RfcSent A (Nth zero) (Acknowledges r) rest b b' pk now e p len_e len_p at end m ag s = absurd ag
deliver_reads_at RfcSent A (Nth (suc i)) told rest b b' pk now e p len_e len_p at end m ag s =
    shut_reads RfcSent A (Nth (suc i)) told b b' e p pk now (shown_at RfcSent A rest b b' p e)
    (λ _ z. let no : (Nth (suc i)) ≡ Nth 0 = z in absurd (cc)) (λ _. refl) m.items s.what
deliver_reads_at RfcSent A Sns told rest b b' pk now e p len_e len_p at end m ag s =
    shut_reads RfcSent A Sns told b b' e p pk now (shown_at RfcSent A rest b b' p e)
    (λ _ z. let no : Sns ≡ Nth 0 = z in absurd (cc)) (λ _. refl) m.items s.what
deliver_reads_at RfcSent A Sts told rest b b' pk now e p len_e len_p at end m ag s =
    shut_reads RfcSent A Sts told b b' e p pk now (shown_at RfcSent A rest b b' p e)
    (λ _ z. let no : Sts ≡ Nth 0 = z in absurd (cc)) (λ _. refl) m.items s.what
deliver_reads_at RfcSent A Cls told rest b b' pk now e p len_e len_p at end m ag s =
    shut_reads RfcSent A Cls told b b' e p pk now (shown_at RfcSent A rest b b' p e)
    (λ _ z. let no : Cls ≡ Nth 0 = z in absurd (cc)) (λ _. refl) m.items s.what

-- ---- a copy that comes as a packet

-- what is known of the copy that a packet stands for. y: its sender
pub record CopyKnown (y : Side) (w : Machine) (l : LabView) (n : ℕ) (s : Sent) (c : Copy) : Type 0 where
  pub there : slice_get w.copies n ≡ Some c
  pub sender : c.sender ≡ y
  pub fresh : Fresh w c
  pub len_a : s.len_a ≡ c.len_a
  pub len_b : s.len_b ≡ c.len_b
  pub ok : IsCopyOk w c
  pub agrees : Agrees c.sender c.kind c.told
  pub met : MetBefore w c
  pub stands : StandsFor c.sender (base_of l.a.first l.b.first c.sender) (base_of l.a.first l.b.first (other c.sender))
      (end_of w c.sender) s.packet c.kind c.told

-- the copy, its sender's side being what its stamp says
pub copy_known : (w : Machine) (l : LabView) (n : ℕ) (s : Sent) → Ties w l → slice_get l.copies n ≡ Some s
    → is_fresh l.a l.b s ≡ true → (c : Copy) × (s.side ≡ c.sender) × CopyKnown c.sender w l n s c
copy_known w l n s t at near =
    let c = copy_of (StandsCopy l.a.first l.b.first w) l.copies w.copies n s t.tied.copies at in
    let h = reached_holds w t.tied.reached in
    let within = slice_get_within w.copies n c.0 c.1 in
    let is = get_or_from_slice_get w.copies n c.0 c.0 c.1 in
    let parts = and_parts _ _ near in
    let near_a : length l.a.written - s.len_a < 32640 = ltb-true _ _ parts.0 in
    let near_b : length l.b.written - s.len_b < 32640 = ltb-true _ _ parts.1 in
    let len_a : length l.a.written ≡ length w.a.written = ap length t.written_a in
    let len_b : length l.b.written ≡ length w.b.written = ap length t.written_b in (
      c.0,
      c.2.side,
      record {
        there = c.1;
        sender = refl;
        fresh = (omega (arith, near_a, len_a, c.2.len_a), omega (arith, near_b, len_b, c.2.len_b));
        len_a = c.2.len_a;
        len_b = c.2.len_b;
        ok = copy_at w n c.0 h c.1;
        agrees = subst (λ (x : Copy). Agrees x.sender x.kind x.told) is (t.tied.kinds n c.0 within);
        met = subst (MetBefore w) is (t.tied.met n c.0 within);
        stands = c.2.stands;
      },
    )

pub comes_to_a : (w : Machine) (l : LabView) (n now : ℕ) (s : Sent) (d : Copy) → d.sender ≡ B → Ties w l
    → CopyKnown d.sender w l n s d → Stepped w (Deliver n) (after_call l A (DeliverPacket s.packet now))
comes_to_a w l n now s d from t know =
    let c : Copy = record d { sender = B } in
    let same : d ≡ c = λ j. record d { sender = from j } in
    let m : CopyKnown c.sender w l n s c = subst (λ (x : Copy). CopyKnown x.sender w l n s x) same know in
    let h = reached_holds w t.tied.reached in
    let z = stands_at A w l t in
    let e : Plain = w.a in
    let p : Plain = w.b in
    let f : Plain = received e.phase c.kind c.told p e in
    let known : Known A l.a.first l.b.first e p c.len_a c.len_b =
    record { writer = h.ab; reader = h.ba; ok = h.a; peer_most = h.b.caps.1; fresh_e = m.fresh.0; fresh_p = m.fresh.1; items = t.tied.items_b } in
    let new : e.phase ≡ Inactive → c.kind ≡ Nth 0 → ⊥ = λ i _. absurd (fits_at A e Inactive h.a i) in
    let k : Leaves A l.a.first l.b.first p f (act_deliver l.a.conn s.packet now) =
    subst (λ v. Leaves A l.a.first l.b.first p f (act_deliver v s.packet now)) (sym z.2)
    (deliver_leaves A c.kind c.told z.0 l.a.first l.b.first s.packet now e p c.len_a c.len_b new z.1 known m.ok.kind_ok
    m.ok.told_ok m.ok.met m.agrees tt m.stands) in
    let reads : with_opened (act_deliver l.a.conn s.packet now).answer s.packet e.read ≡ f.read =
    subst (λ v. with_opened (act_deliver v s.packet now).answer s.packet e.read ≡ f.read) (sym z.2)
    (deliver_reads_at e.phase A c.kind c.told z.0 l.a.first l.b.first s.packet now e p c.len_a c.len_b refl z.1 known
    m.agrees m.stands) in
    let kept = same_received e.phase c.kind c.told p e in
    ties_on A w l (DeliverPacket s.packet now) (Deliver n) f t
    (record {
      leaves = renamed Came A _ _ p f (act_deliver l.a.conn s.packet now) k;
      step = λ sent all. (c, m.there, m.fresh, (f, comes_received c p e, (sent, all, refl)));
      more = [];
      longer = kept.0 ∙ sym (append-nil e.written);
      items = same_items A _ e f kept t.tied.items_a;
      wrote = t.written_a ∙ sym kept.0;
      got = ap (with_opened (act_deliver l.a.conn s.packet now).answer s.packet) t.read_a ∙ reads;
      first = refl;
      asked = asked_keeps A w l f t (new_by_request e.phase c.kind c.told p e refl new);
    })

pub comes_to_b : (w : Machine) (l : LabView) (n now : ℕ) (s : Sent) (d : Copy) → d.sender ≡ A → Ties w l
    → CopyKnown d.sender w l n s d → (w.b.phase ≡ Inactive → d.kind ≡ Nth 0 → ⊥)
    → Stepped w (Deliver n) (after_call l B (DeliverPacket s.packet now))
comes_to_b w l n now s d from t know new =
    let c : Copy = record d { sender = A } in
    let same : d ≡ c = λ j. record d { sender = from j } in
    let m : CopyKnown c.sender w l n s c = subst (λ (x : Copy). CopyKnown x.sender w l n s x) same know in
    let h = reached_holds w t.tied.reached in
    let z = stands_at B w l t in
    let e : Plain = w.b in
    let p : Plain = w.a in
    let f : Plain = received e.phase c.kind c.told p e in
    let known : Known B l.b.first l.a.first e p c.len_b c.len_a =
    record { writer = h.ba; reader = h.ab; ok = h.b; peer_most = h.a.caps.1; fresh_e = m.fresh.1; fresh_p = m.fresh.0; items = t.tied.items_a } in
    let k : Leaves B l.b.first l.a.first p f (act_deliver l.b.conn s.packet now) =
    subst (λ v. Leaves B l.b.first l.a.first p f (act_deliver v s.packet now)) (sym z.2)
    (deliver_leaves B c.kind c.told z.0 l.b.first l.a.first s.packet now e p c.len_b c.len_a new z.1 known m.ok.kind_ok
    m.ok.told_ok m.ok.met m.agrees (late_of c.kind e (m.met refl)) m.stands) in
    let reads : with_opened (act_deliver l.b.conn s.packet now).answer s.packet e.read ≡ f.read =
    subst (λ v. with_opened (act_deliver v s.packet now).answer s.packet e.read ≡ f.read) (sym z.2)
    (deliver_reads_at e.phase B c.kind c.told z.0 l.b.first l.a.first s.packet now e p c.len_b c.len_a refl z.1 known
    m.agrees m.stands) in
    let kept = same_received e.phase c.kind c.told p e in
    ties_on B w l (DeliverPacket s.packet now) (Deliver n) f t
    (record {
      leaves = renamed Came B _ _ p f (act_deliver l.b.conn s.packet now) k;
      step = λ sent all. (c, m.there, m.fresh, (f, comes_received c p e, (sent, all, refl)));
      more = [];
      longer = kept.0 ∙ sym (append-nil e.written);
      items = same_items B _ e f kept t.tied.items_b;
      wrote = t.written_b ∙ sym kept.0;
      got = ap (with_opened (act_deliver l.b.conn s.packet now).answer s.packet) t.read_b ∙ reads;
      first = refl;
      asked = asked_keeps B w l f t (new_by_request e.phase c.kind c.told p e refl new);
    })

-- ---- the RFC comes to B, which took no request yet

nothing_told : (told : Told) → Agrees A (Nth 0) told → told ≡ Nothing
nothing_told Nothing h = refl
nothing_told _ h = absurd h

pub takes_by_b : (w : Machine) (l : LabView) (n now : ℕ) (s : Sent) (d : Copy) → d.sender ≡ A → d.kind ≡ Nth 0
    → Ties w l → CopyKnown d.sender w l n s d → w.b.phase ≡ Inactive
    → Stepped w (Deliver n) (after_call l B (TakeRequest s.packet (place_of B) now))
takes_by_b w l n now s d from kind t know new =
    let c1 : Copy = record d { sender = A; kind = Nth 0 } in
    let same1 : d ≡ c1 = λ j. record d { sender = from j; kind = kind j } in
    let m1 : CopyKnown c1.sender w l n s c1 = subst (λ (x : Copy). CopyKnown x.sender w l n s x) same1 know in
    let told : d.told ≡ Nothing = nothing_told d.told m1.agrees in
    let c : Copy = record c1 { told = Nothing } in
    let same : c1 ≡ c = λ j. record c1 { told = told j } in
    let m : CopyKnown c.sender w l n s c = subst (λ (x : Copy). CopyKnown x.sender w l n s x) same m1 in
    let h = reached_holds w t.tied.reached in
    let z = stands_at B w l t in
    let e : Plain = w.b in
    let p : Plain = w.a in
    let f : Plain = received e.phase (Nth 0) Nothing p e in
    let known : Known B l.b.first l.a.first e p c.len_b c.len_a =
    record { writer = h.ba; reader = h.ab; ok = h.b; peer_most = h.a.caps.1; fresh_e = m.fresh.1; fresh_p = m.fresh.0; items = t.tied.items_a } in
    let k : Leaves B l.b.first l.a.first p f (act_take_request l.b.conn s.packet (place_of B) now) =
    subst (λ v. Leaves B l.b.first l.a.first p f (act_take_request v s.packet (place_of B) now)) (sym z.2)
    (request_leaves z.0 l.b.first l.a.first s.packet now e p c.len_b c.len_a z.1 known new m.ok.kind_ok m.stands) in
    let kept = same_received e.phase (Nth 0) Nothing p e in
    let phase : f.phase ≡ RfcReceived = ap (λ ph. (received ph (Nth 0) Nothing p e).phase) new in
    let reads : f.read ≡ e.read =
    reads_by_opening e.phase (Nth 0) Nothing p e
    (λ i _. let no : Inactive ≡ RfcSent = sym new ∙ i in absurd (cc)) in
    ties_on B w l (TakeRequest s.packet (place_of B) now) (Deliver n) f t
    (record {
      leaves = renamed Did B _ _ p f (act_take_request l.b.conn s.packet (place_of B) now) k;
      step = λ sent all. (c, m.there, m.fresh, (f, comes_received c p e, (sent, all, refl)));
      more = [];
      longer = kept.0 ∙ sym (append-nil e.written);
      items = same_items B _ e f kept t.tied.items_b;
      wrote = t.written_b ∙ sym kept.0;
      got = t.read_b ∙ sym reads;
      first = refl;
      asked =
          record { new = λ i. absurd (cc); old = λ _ i. let no : RfcReceived ≡ Inactive = sym phase ∙ i in absurd (cc) };
    })
