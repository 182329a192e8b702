-- Every event keeps the tie of the laboratory.
use Rattle.std.proofs.Common.{◌≡◌, ℕ, zero, suc, [], Bool, true, false, not, Option, Some, None, Ok, Err, refl, sym, ap, ◌∙◌, subst, inl, inr, ◌⊎◌, ⊎_elim}
use Rattle.std.specs.Prelude.{slice_get}
use Rattle.std.proofs.lemmas.Bool.{cond_both, false≢true, and_parts, and_from}
use Rattle.chaos_packet.specs.Opcode.{kind_of, is_rfc}
use Rattle.chaos_packet.specs.declared.opcode.Kind.TheVariants as k
use Rattle.chaos_packet.specs.Packet.{PacketView}
use Rattle.chaos_conn.specs.Act.{Call}
use Rattle.chaos_conn.specs.Act.Call.{TakeRequest, Accept, Write, Read, Announce, Close, Tick, Deliver as DeliverPacket}
use Rattle.chaos_lab.specs.declared.side.Side.{Side}
use Rattle.chaos_lab.specs.declared.side.Side.TheVariants.{A, B}
use Rattle.chaos_lab.specs.declared.stamped.Stamped.{Stamped as Sent}
use Rattle.chaos_conn.specs.declared.fault.ConnFault.{ConnFault}
use Rattle.chaos_lab.specs.declared.event.Stepped.{Stepped as Answer}
use Rattle.chaos_lab.specs.declared.fault.LabFault.{LabFault}
use Rattle.chaos_lab.specs.declared.fault.LabFault.TheVariants as fault
use Rattle.chaos_lab.specs.Machine.{PlainEnd as Plain, Kind, Copy, Machine, other}
use Rattle.chaos_lab.specs.Machine.Phase.{Inactive}
use Rattle.chaos_lab.specs.Machine.Kind.{Nth, Sns, Sts, Cls}
use Rattle.chaos_lab.specs.Machine.Event.{WriteAt, ReadAt, ResizeAt, TickAt, CloseAt, Deliver}
use Rattle.chaos_lab.specs.Shown.{place_of, is_a, HasItems, IsWhat}
use Rattle.chaos_lab.specs.Laboratory.{LabView, Happening, Done, happen, delivery_effect, delivery, is_fresh, is_request, call_at, call_effect, refusal}
use Rattle.chaos_lab.specs.Laboratory.Happening.{WriteBy, ReadBy, AnnounceBy, TickOf, CloseBy, AcceptFrom, DeliverCopy}
use Rattle.chaos_lab.specs.Tied.{Ties, plain_event}
use Rattle.chaos_lab.proofs.OnSide.{Outcome, Refuses, settle, refusal_at}
use Rattle.chaos_lab.proofs.UserTies.{read_ties, write_ties, resize_ties, tick_ties, close_ties, accept_ties}
use Rattle.chaos_lab.proofs.CopyTies.{CopyKnown, copy_known, comes_to_a, comes_to_b, takes_by_b}

-- ---- a copy for B: the RFC asks it, where it took no request yet

pub is_first : (kind : Kind) (b b' : ℕ) (p : Plain) (pk : PacketView) → HasItems A b p → IsWhat b' p pk kind
    → is_rfc (kind_of pk.op) ≡ true → kind ≡ Nth 0
is_first (Nth zero) b b' p pk its what is = refl
is_first (Nth (suc i)) b b' p pk its what is =
    ⊎_elim
    (λ (d : kind_of pk.op ≡ k.Data). absurd (false≢true (sym (ap is_rfc d) ∙ is)))
    (λ (d : (kind_of pk.op ≡ k.Eof) × (pk.body ≡ [])). absurd (false≢true (sym (ap is_rfc d.0) ∙ is)))
    (its.users i (record { op = pk.op; body = pk.body }) what.0)
is_first Sns b b' p pk its what is = absurd (false≢true (sym (ap (λ op. is_rfc (kind_of op)) what.0) ∙ is))
is_first Sts b b' p pk its what is = absurd (false≢true (sym (ap (λ op. is_rfc (kind_of op)) what.0) ∙ is))
is_first Cls b b' p pk its what is = absurd (false≢true (sym (ap (λ op. is_rfc (kind_of op)) what.0) ∙ is))

pub first_is : (kind : Kind) (b b' : ℕ) (p : Plain) (pk : PacketView) → HasItems A b p → IsWhat b' p pk kind
    → kind ≡ Nth 0 → is_rfc (kind_of pk.op) ≡ true
first_is kind b b' p pk its what is =
    let first : IsWhat b' p pk (Nth 0) = subst (IsWhat b' p pk) is what in
    ap (λ op. is_rfc (kind_of op)) (its.first (record { op = pk.op; body = pk.body }) first.0)

-- A's copy comes to B
for_b : (w : Machine) (l : LabView) (n : ℕ) (s : Sent) (c : Copy) → s.side ≡ A → c.sender ≡ A → Ties w l → CopyKnown c.sender w l n s c → Outcome w (Deliver n) l (call_at l B (delivery l.asked l.clock s))
for_b w l n s c side from t know =
    let m : CopyKnown A w l n s (record c { sender = A }) = subst (λ (x : Copy). CopyKnown x.sender w l n s x) (λ j. record c { sender = from j }) know in
    cond_both (is_request l.asked s) (TakeRequest s.packet (place_of B) l.clock) (DeliverPacket s.packet l.clock) (λ (call : Call). Outcome w (Deliver n) l (call_at l B call))
    (λ (yes : is_request l.asked s ≡ true).
    let parts = and_parts _ _ yes in
    let more = and_parts _ _ parts.1 in
    let new : w.b.phase ≡ Inactive = t.asked.new (not_true l.asked more.0) in
    let kind : c.kind ≡ Nth 0 = is_first c.kind l.b.first l.a.first w.a s.packet t.tied.items_a m.stands.what more.1 in
    settle B w l (TakeRequest s.packet (place_of B) l.clock) (Deliver n) (inr (takes_by_b w l n l.clock s c from kind t know new)))
    (λ (no : is_request l.asked s ≡ false).
    let apart : w.b.phase ≡ Inactive → c.kind ≡ Nth 0 → ⊥ = λ new kind.
    let asked : l.asked ≡ false = not_asked l.asked (λ is. t.asked.old is new) in
    let rfc : is_rfc (kind_of s.packet.op) ≡ true = first_is c.kind l.b.first l.a.first w.a s.packet t.tied.items_a m.stands.what kind in
    false≢true (sym no ∙ and_from _ _ (ap is_a side) (and_from _ _ (ap not asked) rfc)) in
    settle B w l (DeliverPacket s.packet l.clock) (Deliver n) (inr (comes_to_b w l n l.clock s c from t know apart)))
  where
    not_true : (b : Bool) → not b ≡ true → b ≡ false
    not_true false h = refl
    not_true true h = absurd (cc)

    not_asked : (b : Bool) → (b ≡ true → ⊥) → b ≡ false
    not_asked false h = refl
    not_asked true h = absurd (h refl)

-- B's copy comes to A
for_a : (w : Machine) (l : LabView) (n : ℕ) (s : Sent) (c : Copy) → s.side ≡ B → c.sender ≡ B → Ties w l
    → CopyKnown c.sender w l n s c → Outcome w (Deliver n) l (call_at l A (delivery l.asked l.clock s))
for_a w l n s c side from t know =
    cond_both (is_request l.asked s) (TakeRequest s.packet (place_of B) l.clock) (DeliverPacket s.packet l.clock)
    (λ (call : Call). Outcome w (Deliver n) l (call_at l A call))
    (λ (yes : is_request l.asked s ≡ true). absurd (false≢true (sym (ap is_a side) ∙ (and_parts _ _ yes).0)))
    (λ (no : is_request l.asked s ≡ false). settle A w l (DeliverPacket s.packet l.clock) (Deliver n)
    (inr (comes_to_a w l n l.clock s c from t know)))

for_side : (y : Side) (w : Machine) (l : LabView) (n : ℕ) (s : Sent) (c : Copy) → s.side ≡ y → c.sender ≡ y → Ties w l
    → CopyKnown c.sender w l n s c → Outcome w (Deliver n) l (call_at l (other y) (delivery l.asked l.clock s))
for_side A w l n s c side from t know = for_b w l n s c side from t know
for_side B w l n s c side from t know = for_a w l n s c side from t know

copy_ties : (w : Machine) (l : LabView) (n : ℕ) (o : Option Sent) → slice_get l.copies n ≡ o → Ties w l
    → Outcome w (Deliver n) l (delivery_effect l o)
copy_ties w l n None at t = Refuses fault.NoSuchCopy refl
copy_ties w l n (Some s) at t =
    cond_both (is_fresh l.a l.b s) (call_at l (other s.side) (delivery l.asked l.clock s)) (refusal l fault.Stale)
    (Outcome w (Deliver n) l)
    (λ (near : is_fresh l.a l.b s ≡ true).
    let c = copy_known w l n s t at near in
    for_side s.side w l n s c.0 refl (sym c.1) t c.2)
    (λ _. Refuses fault.Stale refl)

-- ---- any event

pub event_ties : (w : Machine) (l : LabView) (event : Happening) → Ties w l
    → Outcome w (plain_event l event) l (happen l event)
event_ties w l (WriteBy x op bytes) t =
    settle x w l (Write op bytes l.clock) (WriteAt x (record { op = op; body = bytes }))
    (write_ties x w l op bytes l.clock t)
event_ties w l (ReadBy x) t = settle x w l Read (ReadAt x) (inr (read_ties x w l t))
event_ties w l (AnnounceBy x window) t = settle x w l (Announce window) (ResizeAt x window) (resize_ties x w l window t)
event_ties w l (TickOf x now) t = settle x w l (Tick now) (TickAt x) (inr (tick_ties x w l now t))
event_ties w l (CloseBy x text) t = settle x w l (Close text) (CloseAt x) (close_ties x w l text t)
event_ties w l (AcceptFrom start) t = settle B w l (Accept start l.clock) _ (accept_ties w l start l.clock t)
event_ties w l (DeliverCopy n) t = copy_ties w l n (slice_get l.copies n) refl t

-- ---- any event is taken, or refused and nothing changes

abbrev pub Answered : LabView → Done → Type 0
Answered l done = ((s : Answer) × (done.answer ≡ Ok s)) ⊎ ((why : LabFault) × (done.answer ≡ Err why) × (done.lab ≡ l))

called_answers : (l : LabView) (x : Side) (call : Call) (o : Option ConnFault) → Answered l (call_effect l x call o)
called_answers l x call None = inl (_, refl)
called_answers l x call (Some why) = inr (_, refl, refl)

copy_answers : (l : LabView) (o : Option Sent) → Answered l (delivery_effect l o)
copy_answers l None = inr (_, refl, refl)
copy_answers l (Some s) =
    cond_both (is_fresh l.a l.b s) (call_at l (other s.side) (delivery l.asked l.clock s)) (refusal l fault.Stale)
    (Answered l)
    (λ _. called_answers l (other s.side) (delivery l.asked l.clock s)
    (refusal_at l (other s.side) (delivery l.asked l.clock s)))
    (λ _. inr (_, refl, refl))

pub ok_or_refused : (l : LabView) (event : Happening) → Answered l (happen l event)
ok_or_refused l (WriteBy x op bytes) =
    called_answers l x (Write op bytes l.clock) (refusal_at l x (Write op bytes l.clock))
ok_or_refused l (ReadBy x) = called_answers l x Read (refusal_at l x Read)
ok_or_refused l (AnnounceBy x window) = called_answers l x (Announce window) (refusal_at l x (Announce window))
ok_or_refused l (TickOf x now) = called_answers l x (Tick now) (refusal_at l x (Tick now))
ok_or_refused l (CloseBy x text) = called_answers l x (Close text) (refusal_at l x (Close text))
ok_or_refused l (AcceptFrom start) = called_answers l B (Accept start l.clock) (refusal_at l B (Accept start l.clock))
ok_or_refused l (DeliverCopy n) = copy_answers l (slice_get l.copies n)
