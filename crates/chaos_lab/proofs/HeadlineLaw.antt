-- The headline: the delivery law, of every laboratory.
use Rattle.std.proofs.Common.{◌≡◌, ℕ, zero, suc, ◌+◌, ◌<◌, ◌≤◌, List, [], ◌∷◌, ◌++◌, length, map, Bool, true, false, not, Some, Ok, Err, refl, sym, ap, ◌∙◌, subst, ⊎_elim, arith}
use Rattle.std.specs.Prelude.{slice_get}
use Rattle.std.proofs.lemmas.Option.{slice_get_within}
use Rattle.std.proofs.lemmas.Bool.{cond-true, cond-false, cases_Bool, false≢true, and_parts}
use Rattle.chaos_packet.specs.Begins.{Begins}
use Rattle.chaos_packet.specs.Item.{ItemView}
use Rattle.chaos_packet.specs.Number.{num}
use Rattle.chaos_packet.specs.Opcode.{kind_of, is_controlled}
use Rattle.chaos_packet.specs.Packet.{PacketView, item_of}
use Rattle.chaos_packet.specs.declared.opcode.Kind.TheVariants as k
use Rattle.chaos_conn.specs.declared.state.State.TheVariants as st
use Rattle.chaos_conn.specs.declared.answers.ReadEnd.{ReadEnd}
use Rattle.chaos_conn.specs.declared.answers.ReadEnd.TheVariants as gave
use Rattle.chaos_conn.specs.Calls.{act_read}
use Rattle.chaos_conn.specs.Acted.{Acted}
use Rattle.chaos_conn.specs.Opening.{Outcome as Asked}
use Rattle.chaos_conn.specs.View.{new_conn}
use Rattle.chaos_conn.specs.Config.{ConfigView, IsConfig}
use Rattle.chaos_conn.specs.State.{is_ended}
use Rattle.chaos_conn.specs.Act.Call.{Read, Deliver as DeliverPacket}
use Rattle.chaos_lab.specs.declared.side.Side.{Side}
use Rattle.chaos_lab.specs.declared.side.Side.TheVariants.{A, B}
use Rattle.chaos_lab.specs.declared.stamped.Stamped.{Stamped as Sent}
use Rattle.chaos_lab.specs.declared.event.Stepped.TheVariants as stepped
use Rattle.chaos_lab.specs.Machine.{PlainEnd as Plain, Phase, Kind, Copy, Machine, other, end_of}
use Rattle.chaos_lab.specs.Machine.Phase.{Inactive, RfcSent, RfcReceived, Open, Ended, Closed}
use Rattle.chaos_lab.specs.Machine.Kind.{Nth, Sns, Sts, Cls}
use Rattle.chaos_lab.specs.Machine.Event.{Deliver}
use Rattle.chaos_lab.specs.Law.{DeliversInside}
use Rattle.chaos_lab.specs.Shown.{Rest, shown_at, HasItems, IsWhat, is_a}
use Rattle.chaos_lab.specs.Laboratory.{LabView, Happening, lab_end, start_for, stamp, with_given, happen, delivery_effect, is_fresh, is_request, call_at, after_call, after_all}
use Rattle.chaos_lab.specs.Laboratory.Happening.{DeliverCopy}
use Rattle.chaos_lab.specs.Tied.{HasMachine, StandsCopy, Tied, Ties, base_of, machine_for, plain_run}
use Rattle.chaos_lab.specs.Headline.{len_at, IsCopyOf, ComesInside, Unclosed, ReadsInTurn}
use Rattle.chaos_lab.proofs.Copies.{KindOk, len_of}
use Rattle.chaos_lab.proofs.Calls.{last_item}
use Rattle.chaos_lab.proofs.Lists.{length-one_more}
use Rattle.chaos_lab.proofs.Machines.{Holds, copy_at, reached_holds, end_holds}
use Rattle.chaos_lab.proofs.Phases.{open_met}
use Rattle.chaos_lab.proofs.OpenEnd.{is_open, open_is}
use Rattle.chaos_lab.proofs.DeliveryLaw.{beginning, in_turn}
use Rattle.chaos_lab.proofs.StartTie.{asked_for, asks, tied_start}
use Rattle.chaos_lab.proofs.OnSide.{Outcome, Refuses, Steps, Stepped, conn_at, stands_at, written_at, read_at}
use Rattle.chaos_lab.proofs.UserTies.{read_ties}
use Rattle.chaos_lab.proofs.CopyTies.{CopyKnown, copy_known, copy_of}
use Rattle.chaos_lab.proofs.LabTies.{event_ties}
use Rattle.chaos_lab.proofs.Runs.{runs, unclosed}

-- ---- the start

pub start_ties : (contact : List ℕ) (config_a config_b : ConfigView) (number : ℕ) → length contact ≤ 488
    → number < 65536 → IsConfig config_a → IsConfig config_b
    → Ties (machine_for contact config_a config_b) (start_for contact config_a config_b number)
start_ties contact config_a config_b number short fits a b =
    let t =
    tied_start number 0 contact config_a config_b fits (a.some_send, a.send_fits, a.some_recv, a.recv_fits)
    (b.some_send, b.send_fits, b.some_recv, b.recv_fits) in
    let sent : Tied number 0 (machine_for contact config_a config_b) (asked_for contact config_a number).view
    (new_conn config_b) (map (stamp A 1 0) (asked_for contact config_a number).packets) =
    subst
    (λ ps. Tied number 0 (machine_for contact config_a config_b) (asked_for contact config_a number).view
    (new_conn config_b) (map (stamp A 1 0) ps))
    (sym t.1) t.2 in
    record {
      tied =
          subst
          (λ (acted : Acted Asked). Tied number 0 (machine_for contact config_a config_b) acted.view
          (new_conn config_b) (map (stamp A 1 0) acted.packets))
          (sym (asks contact config_a number short)) sent;
      written_a = refl;
      written_b = refl;
      read_a = refl;
      read_b = refl;
      asked = record { new = λ _. refl; old = λ h _. absurd (false≢true h) };
    }

-- ---- what was read begins what was written

pub begins : (l : LabView) (x : Side) → HasMachine l → Begins (lab_end l (other x)).read (lab_end l x).written
begins l x h =
    subst (λ (z : List ItemView × List ItemView). Begins z.0 z.1)
    (λ j. (sym (read_at (other x) h.plain l h.ties) j, sym (written_at x h.plain l h.ties) j))
    (beginning h.plain x h.ties.tied.reached)

-- ---- what a read gave

some_is : {x y : ItemView} → Some x ≡ Some y → x ≡ y
some_is h = cc

pub given_is : (g : ReadEnd) (items : List ItemView) (item : ItemView) → with_given g items ≡ items ++ item ∷ []
    → g ≡ gave.Item item
given_is (gave.Item other) items item h =
    ap gave.Item
    (some_is (sym (last_item items other) ∙ ap (λ xs. slice_get xs (length items)) h ∙ last_item items item))
given_is gave.Nothing items item h =
    absurd (let longer = length-one_more items item in let same = ap length h in omega arith)
given_is (gave.Ended state) items item h =
    absurd (let longer = length-one_more items item in let same = ap length h in omega arith)

pub after_read : (x : Side) (l : LabView)
    → (lab_end (after_call l x Read) x).read ≡ with_given (act_read (conn_at l x)).answer (lab_end l x).read
after_read A l = refl
after_read B l = refl

-- ---- an open end

pub open_by : (phase : Phase) (x : Side) (rest : Rest) (b b' : ℕ) (p e : Plain) → is_ended rest.ended ≡ true
    → (shown_at phase x rest b b' p e).state ≡ st.Open → phase ≡ Open
open_by Inactive x rest b b' p e end h = let no : st.Inactive ≡ st.Open = h in absurd (cc)
open_by RfcSent x rest b b' p e end h = let no : st.RfcSent ≡ st.Open = h in absurd (cc)
open_by RfcReceived x rest b b' p e end h = let no : st.RfcReceived ≡ st.Open = h in absurd (cc)
open_by Open x rest b b' p e end h = refl
open_by Ended x rest b b' p e end h = absurd (false≢true (sym (ap is_ended h) ∙ end))
open_by Closed x rest b b' p e end h = let no : st.Inactive ≡ st.Open = h in absurd (cc)

pub open_at : (x : Side) (w : Machine) (l : LabView) → Ties w l → (conn_at l x).state ≡ st.Open
    → (end_of w x).phase ≡ Open
open_at x w l t h =
    let s = stands_at x w l t in open_by (end_of w x).phase x s.0 _ _ (end_of w (other x)) (end_of w x) s.1
    (sym (ap (λ v. v.state) s.2) ∙ h)

-- its user has read the first item of the other end
pub opened : (l : LabView) (x : Side) → HasMachine l → (lab_end l x).conn.state ≡ st.Open
    → 1 ≤ length (lab_end l x).read
opened l x h is =
    subst (λ (xs : List ItemView). 1 ≤ length xs) (sym (read_at x h.plain l h.ties))
    (open_met h.plain x h.ties.tied.reached (open_at x h.plain l h.ties is)).1

-- and it announces what its connection does
pub window_at : (x : Side) (w : Machine) (l : LabView) → Ties w l → (end_of w x).phase ≡ Open
    → (conn_at l x).recv.window ≡ (end_of w x).announced
window_at x w l t is =
    let s = stands_at x w l t in
    let h = end_holds w x (reached_holds w t.tied.reached) in
    ap (λ v. v.recv.window)
    (s.2
    ∙ open_is x s.0 _ _ (end_of w (other x)) (end_of w x)
    (is_open x (end_of w (other x)) (end_of w x) is h.ok h.reader))

-- ---- the copy's index

-- the kinds of an end's items
pub item_kind : (x : Side) (b' i : ℕ) (e : Plain) (item : ItemView) → HasItems x b' e
    → slice_get e.written i ≡ Some item
    → (kind_of item.op ≡ k.Sns → ⊥) × (kind_of item.op ≡ k.Sts → ⊥) × (kind_of item.op ≡ k.Cls → ⊥)
item_kind A b' zero e item its at =
    let is : kind_of item.op ≡ k.Rfc = ap kind_of (its.first item at) in
    (λ t. let no : k.Rfc ≡ k.Sns = sym is ∙ t in absurd (cc), λ t. let no : k.Rfc ≡ k.Sts = sym is ∙ t in absurd (cc), λ t. let no : k.Rfc ≡ k.Cls = sym is ∙ t in absurd (cc))
item_kind B b' zero e item its at =
    let is : kind_of item.op ≡ k.Opn = ap kind_of (its.first item at).0 in
    (λ t. let no : k.Opn ≡ k.Sns = sym is ∙ t in absurd (cc), λ t. let no : k.Opn ≡ k.Sts = sym is ∙ t in absurd (cc), λ t. let no : k.Opn ≡ k.Cls = sym is ∙ t in absurd (cc))
item_kind x b' (suc i) e item its at =
    ⊎_elim
    (λ (is : kind_of item.op ≡ k.Data).
    (λ t. let no : k.Data ≡ k.Sns = sym is ∙ t in absurd (cc), λ t. let no : k.Data ≡ k.Sts = sym is ∙ t in absurd (cc), λ t. let no : k.Data ≡ k.Cls = sym is ∙ t in absurd (cc)))
    (λ (d : (kind_of item.op ≡ k.Eof) × (item.body ≡ [])).
    let is = d.0 in (λ t. let no : k.Eof ≡ k.Sns = sym is ∙ t in absurd (cc), λ t. let no : k.Eof ≡ k.Sts = sym is ∙ t in absurd (cc), λ t. let no : k.Eof ≡ k.Cls = sym is ∙ t in absurd (cc)))
    (its.users i item at)

-- b: the first number. len: its sender had written so many by then
pub nth_of : (kind : Kind) (x : Side) (b b' i len : ℕ) (e : Plain) (pk : PacketView) → HasItems x b' e
    → IsWhat b e pk kind → KindOk kind e len → e.send_cap ≤ 64 → length e.written < len + 32640
    → slice_get e.written i ≡ Some (item_of pk) → pk.num ≡ num b i → i < length e.written → len ≤ i + 64 → kind ≡ Nth i
nth_of (Nth j) x b b' i len e pk its what ok cap fresh at number before near =
    ap Nth (let same : j ≡ i = omega (arith, what.1, ok.0, ok.1, cap, fresh, number, before, near) in same)
nth_of Sns x b b' i len e pk its what ok cap fresh at number before near =
    absurd ((item_kind x b' i e (item_of pk) its at).0 (ap kind_of what.0))
nth_of Sts x b b' i len e pk its what ok cap fresh at number before near =
    absurd ((item_kind x b' i e (item_of pk) its at).1 (ap kind_of what.0))
nth_of Cls x b b' i len e pk its what ok cap fresh at number before near =
    absurd ((item_kind x b' i e (item_of pk) its at).2 (ap kind_of what.0))

-- a copy of the end at z
pub record IsItem (z : Side) (l : LabView) (s : Sent) (i : ℕ) : Type 0 where
  pub item : slice_get (lab_end l z).written i ≡ Some (item_of s.packet)
  pub number : s.packet.num ≡ num (lab_end l z).first i
  pub near : len_at z s ≤ i + 64

-- the copy of the plain machine is of the item that its packet is of
pub kind_at : (x : Side) (w : Machine) (l : LabView) (n : ℕ) (s : Sent) (i : ℕ) (d : Copy) → Ties w l
    → d.sender ≡ s.side → CopyKnown d.sender w l n s d → IsCopyOf l s i → d.kind ≡ Nth i
kind_at x w l n s i d t from know of_item = by s.side refl
  where
    by : (z : Side) → s.side ≡ z → d.kind ≡ Nth i
    by A side =
        let c : Copy = record d { sender = A } in
        let m : CopyKnown A w l n s c =
        subst (λ (x : Copy). CopyKnown x.sender w l n s x) (λ j. record d { sender = (from ∙ side) j }) know in
        let f : IsItem A l s i =
        subst (λ z. IsItem z l s i) side
        (record { item = of_item.item; number = of_item.number; near = of_item.near }) in
        nth_of c.kind A l.a.first l.b.first i c.len_a w.a s.packet t.tied.items_a m.stands.what m.ok.kind_ok
        (reached_holds w t.tied.reached).a.caps.1 m.fresh.0
        (ap (λ ws. slice_get ws i) (sym t.written_a) ∙ f.item) f.number
        (slice_get_within w.a.written i (item_of s.packet) (ap (λ ws. slice_get ws i) (sym t.written_a) ∙ f.item))
        (omega (arith, f.near, m.len_a))
    by B side =
        let c : Copy = record d { sender = B } in
        let m : CopyKnown B w l n s c =
        subst (λ (x : Copy). CopyKnown x.sender w l n s x) (λ j. record d { sender = (from ∙ side) j }) know in
        let f : IsItem B l s i =
        subst (λ z. IsItem z l s i) side
        (record { item = of_item.item; number = of_item.number; near = of_item.near }) in
        nth_of c.kind B l.b.first l.a.first i c.len_b w.b s.packet t.tied.items_b m.stands.what m.ok.kind_ok
        (reached_holds w t.tied.reached).b.caps.1 m.fresh.1
        (ap (λ ws. slice_get ws i) (sym t.written_b) ∙ f.item) f.number
        (slice_get_within w.b.written i (item_of s.packet) (ap (λ ws. slice_get ws i) (sym t.written_b) ∙ f.item))
        (omega (arith, f.near, m.len_b))

-- ---- every copy of a numbered packet is of an item

item_by : (kind : Kind) (b len : ℕ) (e : Plain) (pk : PacketView) → IsWhat b e pk kind → KindOk kind e len
    → e.send_cap ≤ 64 → is_controlled pk.op ≡ true
    → (i : ℕ) × (slice_get e.written i ≡ Some (item_of pk)) × (pk.num ≡ num b i) × (len ≤ i + 64)
item_by (Nth j) b len e pk what ok cap is = (j, what.0, what.1, omega (arith, ok.1, cap))
item_by Sns b len e pk what ok cap is = absurd (false≢true (sym (ap is_controlled what.0) ∙ is))
item_by Sts b len e pk what ok cap is = absurd (false≢true (sym (ap is_controlled what.0) ∙ is))
item_by Cls b len e pk what ok cap is = absurd (false≢true (sym (ap is_controlled what.0) ∙ is))

cap_of : (z : Side) (w : Machine) → Holds w → (end_of w z).send_cap ≤ 64
cap_of A w h = h.a.caps.1
cap_of B w h = h.b.caps.1

base_at : (z : Side) (l : LabView) → base_of l.a.first l.b.first z ≡ (lab_end l z).first
base_at A l = refl
base_at B l = refl

len_same : (z : Side) (s : Sent) (c : Copy) → s.len_a ≡ c.len_a → s.len_b ≡ c.len_b → len_at z s ≡ len_of c z
len_same A s c a b = a
len_same B s c a b = b

pub items : (l : LabView) (n : ℕ) (s : Sent) → HasMachine l → slice_get l.copies n ≡ Some s
    → is_controlled s.packet.op ≡ true → (i : ℕ) × IsCopyOf l s i
items l n s h at is =
    let w : Machine = h.plain in
    let t = h.ties in
    let holds = reached_holds w t.tied.reached in
    let c = copy_of (StandsCopy l.a.first l.b.first w) l.copies w.copies n s t.tied.copies at in
    let z : Side = c.0.sender in
    let r =
    item_by c.0.kind (base_of l.a.first l.b.first z) (len_of c.0 z) (end_of w z) s.packet c.2.stands.what
    (copy_at w n c.0 holds c.1).kind_ok (cap_of z w holds) is in
    let stamp : len_at z s ≡ len_of c.0 z = len_same z s c.0 c.2.len_a c.2.len_b in
    let of_item : IsItem z l s r.0 = record {
      item = ap (λ ws. slice_get ws r.0) (written_at z w l t) ∙ r.1;
      number = r.2 ∙ ap (λ b. num b r.0) (base_at z l);
      near = omega (arith, r.3, stamp);
    } in
    let f : IsItem s.side l s r.0 = subst (λ y. IsItem y l s r.0) (sym c.2.side) of_item in
    (r.0, record { item = f.item; number = f.number; near = f.near })

-- ---- a copy that comes to an open end

-- it isn't a request
no_request : (w : Machine) (l : LabView) (s : Sent) → Ties w l → (end_of w (other s.side)).phase ≡ Open
    → is_request l.asked s ≡ false
no_request w l s t is =
    ⊎_elim
    (λ (yes : is_request l.asked s ≡ true).
    let parts = and_parts _ _ yes in
    let new : w.b.phase ≡ Inactive = t.asked.new (not_true l.asked (and_parts _ _ parts.1).0) in
    let at_b : w.b.phase ≡ Open = sym (ap (λ y. (end_of w y).phase) (other_is s.side parts.0)) ∙ is in
    let no : Inactive ≡ Open = sym new ∙ at_b in
    absurd (cc))
    (λ (no : is_request l.asked s ≡ false). no)
    (cases_Bool (is_request l.asked s))
  where
    not_true : (b : Bool) → not b ≡ true → b ≡ false
    not_true false h = refl
    not_true true h = absurd (cc)

    other_is : (x : Side) → is_a x ≡ true → other x ≡ B
    other_is A h = refl
    other_is B h = absurd (cc)

-- it is taken
pub taken : (w : Machine) (l : LabView) (n : ℕ) (s : Sent) → Ties w l → slice_get l.copies n ≡ Some s
    → is_fresh l.a l.b s ≡ true → (end_of w (other s.side)).phase ≡ Open
    → happen l (DeliverCopy n) ≡ call_at l (other s.side) (DeliverPacket s.packet l.clock)
taken w l n s t at near is =
    ap (delivery_effect l) at
    ∙ cond-true _ _ _ near
    ∙ ap (call_at l (other s.side)) (cond-false _ _ _ (no_request w l s t is))

pub steps_open : (w : Machine) (l : LabView) (n : ℕ) (s : Sent) → Ties w l → slice_get l.copies n ≡ Some s
    → is_fresh l.a l.b s ≡ true → (end_of w (other s.side)).phase ≡ Open
    → Stepped w (Deliver n) (happen l (DeliverCopy n)).lab
steps_open w l n s t at near is = by (event_ties w l (DeliverCopy n) t)
  where
    by : Outcome w (Deliver n) l (happen l (DeliverCopy n)) → Stepped w (Deliver n) (happen l (DeliverCopy n)).lab
    by (Refuses why r) =
        let no : Err why ≡ Ok _ = sym (ap (λ d. d.answer) r)
        ∙ ap (λ d. d.answer) (taken w l n s t at near is) in absurd (cc)
    by (Steps k) = k

-- the plain machine's copy, which is of that item
inside_of : (w : Machine) (l : LabView) (n : ℕ) (s : Sent) (i : ℕ) → Ties w l → ComesInside l n s i
    → (end_of w (other s.side)).phase ≡ Open → (k : Stepped w (Deliver n) (happen l (DeliverCopy n)).lab)
    → DeliversInside w s.side i k.machine
inside_of w l n s i t c is k =
    let d = copy_known w l n s t c.sent c.fresh in
    let y : Side = other s.side in
    let read : length (lab_end l y).read ≡ length (end_of w y).read = ap length (read_at y w l t) in
    let window : (conn_at l y).recv.window ≡ (end_of w y).announced = window_at y w l t is in
    record {
      number = n;
      copy = d.0;
      sent = d.2.there;
      sender = sym d.1;
      kind = kind_at s.side w l n s i d.0 t (sym d.1) d.2 c.of_item;
      open_end = is;
      inside = omega (arith, c.inside, read, window);
      step = k.step;
    }

-- ---- in its turn

pub turns : (l : LabView) (n : ℕ) (s : Sent) (i : ℕ) (events : List Happening) → HasMachine l → ComesInside l n s i
    → Unclosed (other s.side) events
    → ReadsInTurn (after_all l (DeliverCopy n ∷ events)) (other s.side) i (item_of s.packet)
turns l n s i events h c u next =
    let w : Machine = h.plain in
    let t = h.ties in
    let y : Side = other s.side in
    let m : LabView = (happen l (DeliverCopy n)).lab in
    let v : LabView = after_all m events in
    let is = open_at y w l t c.open_end in
    let first = steps_open w l n s t c.sent c.fresh is in
    let ran = runs events first.machine m first.ties in
    let last = read_ties y ran.machine v ran.ties in
    let inside = inside_of w l n s i h.ties c is first in
    let turn =
    in_turn w first.machine ran.machine last.machine s.side (plain_run m events) i t.tied.reached inside
    (ran.run, unclosed y events m u)
    (sym (ap length (read_at y ran.machine v ran.ties)) ∙ next) last.step in
    let same : turn.0 ≡ item_of s.packet =
    some_is (sym turn.1 ∙ sym (ap (λ ws. slice_get ws i) (written_at s.side w l t)) ∙ c.of_item.item) in
    let reads : (lab_end (after_call v y Read) y).read ≡ (lab_end v y).read ++ item_of s.packet ∷ [] =
    read_at y last.machine (after_call v y Read) last.ties ∙ turn.2
    ∙ (λ j. sym (read_at y ran.machine v ran.ties) j ++ same j ∷ []) in
    (ap (λ g. Ok (stepped.Read g)) (given_is (act_read (conn_at v y)).answer (lab_end v y).read (item_of s.packet) (sym (after_read y v) ∙ reads)), reads)
