-- The users' events and ticks keep the tie of the laboratory.
use Rattle.std.proofs.Common.{◌≡◌, ℕ, suc, List, [], ◌∷◌, ◌++◌, length, map, true, Option, Some, None, Err, refl, sym, ap, ◌∙◌, subst, inl, inr, ◌⊎◌, ⊎_elim}
use Rattle.std.specs.Option.{option_to_list}
use Rattle.std.proofs.lemmas.List.{append-nil, nil_from_length}
use Rattle.std.specs.Prelude.{slice_get}
use Rattle.std.specs.FinSet.{contains}
use Rattle.chaos_packet.specs.Item.{ItemView}
use Rattle.chaos_packet.specs.Words.{halves}
use Rattle.chaos_packet.specs.Packet.{PacketView, item_of}
use Rattle.chaos_conn.specs.declared.fault.ConnFault.{ConnFault}
use Rattle.chaos_conn.specs.declared.fault.ConnFault.TheVariants as fa
use Rattle.chaos_conn.specs.Acted.{quietly}
use Rattle.chaos_conn.specs.Calls.{act_read, act_write, act_announce, act_close}
use Rattle.chaos_conn.specs.Opening.{act_accept}
use Rattle.chaos_conn.specs.Time.{act_tick}
use Rattle.chaos_conn.specs.Act.{Call}
use Rattle.chaos_conn.specs.Act.Call.{Accept, Write, Read, Announce, Close, Tick}
use Rattle.chaos_conn.specs.Act.Reply.{Did, Wrote, Gave, Ticks}
use Rattle.chaos_lab.specs.declared.side.Side.{Side}
use Rattle.chaos_lab.specs.declared.side.Side.TheVariants.{B}
use Rattle.chaos_lab.specs.Machine.{PlainEnd as Plain, Phase, Machine, Event, other, end_of, read_item}
use Rattle.chaos_lab.specs.Machine.Phase.{Inactive, RfcSent, RfcReceived, Open, Ended, Closed}
use Rattle.chaos_lab.specs.Machine.Event.{AcceptAt, WriteAt, ReadAt, ResizeAt, TickAt, CloseAt}
use Rattle.chaos_lab.specs.Numbers.{told_num}
use Rattle.chaos_lab.specs.Shown.{HasItems, IsFirst, Leaves}
use Rattle.chaos_lab.specs.Laboratory.{LabView, with_given, refusal_of, after_call}
use Rattle.chaos_lab.specs.Tied.{Ties, sent_item}
use Rattle.chaos_lab.proofs.Machines.{reached_holds, end_holds}
use Rattle.chaos_lab.proofs.Ends.{Fits, IsNew}
use Rattle.chaos_lab.proofs.Functions.{read_row, close_row, tick_row, ended_phase, closed_phase, next_item, readable}
use Rattle.chaos_lab.proofs.Items.{SameNew, same_phase, not_new, same_read, same_items, more_items}
use Rattle.chaos_lab.proofs.OpenEnd.{is_open}
use Rattle.chaos_lab.proofs.ReadTie.{ReadLeaves, read_leaves}
use Rattle.chaos_lab.proofs.Calls.{Resizes, write_leaves, resize_leaves, close_leaves}
use Rattle.chaos_lab.proofs.TickTie.{Ticks as TickLeaves, tick_leaves}
use Rattle.chaos_lab.proofs.AcceptTie.{Accepted, accept_leaves, opn_of}
use Rattle.chaos_lab.proofs.Rebase.{rebase}
use Rattle.chaos_lab.proofs.OnSide.{KeepsTie, Stepped, conn_at, first_at, stands_at, items_at, written_at, read_at, asked_keeps, renamed, ties_on, refusal_at}

-- ---- a read

read_phase : (o : Option ItemView) (e : Plain) → (read_item o e).phase ≡ e.phase
read_phase None e = refl
read_phase (Some item) e = refl

pub read_ties : (x : Side) (w : Machine) (l : LabView) → Ties w l → Stepped w (ReadAt x) (after_call l x Read)
read_ties x w l t =
    let e : Plain = end_of w x in
    let p : Plain = end_of w (other x) in
    let f : Plain = read_item (readable p e) e in
    let h = end_holds w x (reached_holds w t.tied.reached) in
    let s = stands_at x w l t in
    let same = same_read (readable p e) e in
    let reads : ReadLeaves x (first_at l x) (first_at l (other x)) p e f (act_read (conn_at l x)) =
    subst (λ v. ReadLeaves x (first_at l x) (first_at l (other x)) p e f (act_read v)) (sym s.2)
    (read_leaves x s.0 (first_at l x) (first_at l (other x)) e p s.1 h.reader h.ok) in
    ties_on x w l Read (ReadAt x) f t
    (record {
      leaves = renamed Gave x _ _ p f (act_read (conn_at l x)) reads.0;
      step = λ sent all. (f, read_row p e, (sent, all, refl));
      more = [];
      longer = same.0 ∙ sym (append-nil e.written);
      items = same_items x _ e f same (items_at x w l t);
      wrote = written_at x w l t ∙ sym same.0;
      got = ap (with_given (act_read (conn_at l x)).answer) (read_at x w l t) ∙ reads.1;
      first = refl;
      asked = asked_keeps x w l f t (same_phase e f (read_phase (readable p e) e));
    })

-- ---- a tick

pub ended_new : (phase : Phase) (e : Plain) → e.phase ≡ phase → SameNew e (record e { phase = ended_phase phase })
ended_new RfcSent e at = not_new e _ (λ t. let no : RfcSent ≡ Inactive = sym at ∙ t in absurd (cc)) (λ t. absurd (cc))
ended_new Open e at = not_new e _ (λ t. let no : Open ≡ Inactive = sym at ∙ t in absurd (cc)) (λ t. absurd (cc))
ended_new Inactive e at = same_phase e _ (sym at)
ended_new RfcReceived e at = same_phase e _ (sym at)
ended_new Ended e at = same_phase e _ (sym at)
ended_new Closed e at = same_phase e _ (sym at)

pub tick_ties : (x : Side) (w : Machine) (l : LabView) (now : ℕ) → Ties w l
    → Stepped w (TickAt x) (after_call l x (Tick now))
tick_ties x w l now t =
    let e : Plain = end_of w x in
    let p : Plain = end_of w (other x) in
    let h = end_holds w x (reached_holds w t.tied.reached) in
    let s = stands_at x w l t in
    let f : Plain = record e { phase = ended_phase e.phase } in
    let ticks : TickLeaves x (first_at l x) (first_at l (other x)) p e (act_tick (conn_at l x) now) =
    subst (λ v. TickLeaves x (first_at l x) (first_at l (other x)) p e (act_tick v now)) (sym s.2)
    (tick_leaves x s.0 (first_at l x) (first_at l (other x)) now e p s.1 h.reader h.ok (items_at x w l t)) in
    ⊎_elim
    (λ (k : Leaves x (first_at l x) (first_at l (other x)) p e (act_tick (conn_at l x) now)).
    ties_on x w l (Tick now) (TickAt x) e t
    (record {
      leaves = renamed Ticks x _ _ p e (act_tick (conn_at l x) now) k;
      step = λ sent all. (e, inl (inr refl), (sent, all, refl));
      more = [];
      longer = sym (append-nil e.written);
      items = items_at x w l t;
      wrote = written_at x w l t;
      got = read_at x w l t;
      first = refl;
      asked = asked_keeps x w l e t (same_phase e e refl);
    }))
    (λ (k : Leaves x (first_at l x) (first_at l (other x)) p f (act_tick (conn_at l x) now)).
    ties_on x w l (Tick now) (TickAt x) f t
    (record {
      leaves = renamed Ticks x _ _ p f (act_tick (conn_at l x) now) k;
      step = λ sent all. (f, tick_row p e, (sent, all, refl));
      more = [];
      longer = sym (append-nil e.written);
      items = same_items x _ e f (refl, refl) (items_at x w l t);
      wrote = written_at x w l t;
      got = read_at x w l t;
      first = refl;
      asked = asked_keeps x w l f t (ended_new e.phase e refl);
    }))
    ticks

-- ---- a close

closed_new : (phase : Phase) (e : Plain) → e.phase ≡ phase → SameNew e (record e { phase = closed_phase phase })
closed_new Inactive e at = same_phase e _ (sym at)
closed_new RfcSent e at = not_new e _ (λ t. let no : RfcSent ≡ Inactive = sym at ∙ t in absurd (cc)) (λ t. absurd (cc))
closed_new RfcReceived e at =
    not_new e _ (λ t. let no : RfcReceived ≡ Inactive = sym at ∙ t in absurd (cc)) (λ t. absurd (cc))
closed_new Open e at = not_new e _ (λ t. let no : Open ≡ Inactive = sym at ∙ t in absurd (cc)) (λ t. absurd (cc))
closed_new Ended e at = not_new e _ (λ t. let no : Ended ≡ Inactive = sym at ∙ t in absurd (cc)) (λ t. absurd (cc))
closed_new Closed e at = not_new e _ (λ t. let no : Closed ≡ Inactive = sym at ∙ t in absurd (cc)) (λ t. absurd (cc))

-- a call was refused, or keeps the tie
abbrev pub Refuses : Side → Machine → LabView → Call → Event → Type 0
Refuses x w l call event =
    ((why : ConnFault) × (refusal_at l x call ≡ Some why)) ⊎ Stepped w event (after_call l x call)

pub close_ties : (x : Side) (w : Machine) (l : LabView) (text : List ℕ) → Ties w l
    → Refuses x w l (Close text) (CloseAt x)
close_ties x w l text t =
    let e : Plain = end_of w x in
    let p : Plain = end_of w (other x) in
    let h = end_holds w x (reached_holds w t.tied.reached) in
    let s = stands_at x w l t in
    let f : Plain = record e { phase = closed_phase e.phase } in
    ⊎_elim
    (λ r. inl
    (fa.TooLong, ap (λ a. refusal_of (Did a.answer)) (subst (λ v. act_close v text ≡ quietly v (Err fa.TooLong)) (sym s.2) r)))
    (λ d.
    let k : Leaves x (first_at l x) (first_at l (other x)) p f (act_close (conn_at l x) text) =
    subst (λ v. Leaves x (first_at l x) (first_at l (other x)) p f (act_close v text)) (sym s.2) d in
    inr (ties_on x w l (Close text) (CloseAt x) f t
    (record {
      leaves = renamed Did x _ _ p f (act_close (conn_at l x) text) k;
      step = λ sent all. (f, close_row p e, (sent, all, refl));
      more = [];
      longer = sym (append-nil e.written);
      items = same_items x _ e f (refl, refl) (items_at x w l t);
      wrote = written_at x w l t;
      got = read_at x w l t;
      first = refl;
      asked = asked_keeps x w l f t (closed_new e.phase e refl);
    })))
    (close_leaves x s.0 (first_at l x) (first_at l (other x)) text e p s.1 h.ok)

-- ---- a write

pub write_ties : (x : Side) (w : Machine) (l : LabView) (op : ℕ) (bytes : List ℕ) (now : ℕ) → Ties w l
    → Refuses x w l (Write op bytes now) (WriteAt x (record { op = op; body = bytes }))
write_ties x w l op bytes now t =
    let item : ItemView = record { op = op; body = bytes } in
    let e : Plain = end_of w x in
    let p : Plain = end_of w (other x) in
    let h = end_holds w x (reached_holds w t.tied.reached) in
    let s = stands_at x w l t in
    let f : Plain = record e { written = e.written ++ item ∷ [] } in
    ⊎_elim
    (λ r. inl
    (r.0, ap (λ a. refusal_of (Wrote a.answer)) (subst (λ v. act_write v op bytes now ≡ quietly v (Err r.0)) (sym s.2) r.1)))
    (λ d.
    let k : Leaves x (first_at l x) (first_at l (other x)) p f (act_write (conn_at l x) op bytes now) =
    subst (λ v. Leaves x (first_at l x) (first_at l (other x)) p f (act_write v op bytes now)) (sym s.2) d.3 in
    inr (ties_on x w l (Write op bytes now) (WriteAt x item) f t
    (record {
      leaves = renamed Wrote x _ _ p f (act_write (conn_at l x) op bytes now) k;
      step = λ sent all. (f, inl (d.0, d.1, refl), (sent, all, refl));
      more = item ∷ [];
      longer = refl;
      items = more_items x _ e item (is_open x p e d.0 h.ok h.reader).met.1 d.2 (items_at x w l t);
      wrote = ap (λ ws. ws ++ item ∷ []) (written_at x w l t);
      got = read_at x w l t;
      first = refl;
      asked = asked_keeps x w l f t (same_phase e f refl);
    })))
    (write_leaves x s.0 (first_at l x) (first_at l (other x)) item now e p s.1 h.writer h.reader h.ok)

-- ---- another window

pub resize_ties : (x : Side) (w : Machine) (l : LabView) (window : ℕ) → Ties w l
    → Refuses x w l (Announce window) (ResizeAt x window)
resize_ties x w l window t =
    let e : Plain = end_of w x in
    let p : Plain = end_of w (other x) in
    let h = end_holds w x (reached_holds w t.tied.reached) in
    let s = stands_at x w l t in
    let f : Plain = record e { announced = window } in
    let resizes : Resizes x (first_at l x) (first_at l (other x)) window p e (conn_at l x) =
    subst (Resizes x (first_at l x) (first_at l (other x)) window p e) (sym s.2)
    (resize_leaves x s.0 (first_at l x) (first_at l (other x)) window e p s.1 h.reader h.ok) in
    ⊎_elim
    (λ r. inl (r.0, ap (λ a. refusal_of (Did a.answer)) r.1))
    (λ d.
    inr (ties_on x w l (Announce window) (ResizeAt x window) f t
    (record {
      leaves = renamed Did x _ _ p f (act_announce (conn_at l x) window) d.2;
      step = λ sent all. (f, inl (d.0, d.1, refl), (sent, all, refl));
      more = [];
      longer = sym (append-nil e.written);
      items = same_items x _ e f (refl, refl) (items_at x w l t);
      wrote = written_at x w l t;
      got = read_at x w l t;
      first = refl;
      asked = asked_keeps x w l f t (same_phase e f refl);
    })))
    resizes

-- ---- an acceptance

-- B's first number may be any until it accepts
rebased : (start : ℕ) (w : Machine) (l : LabView) → length w.b.written ≡ 0 → Ties w l
    → Ties w (record l { b = record l.b { first = start } })
rebased start w l none t = record {
  tied = rebase l.a.first l.b.first start w l.a.conn l.b.conn l.copies none t.tied;
  written_a = t.written_a;
  written_b = t.written_b;
  read_a = t.read_a;
  read_b = t.read_b;
  asked = t.asked;
}

first_items : (b' : ℕ) (p e : Plain) → p.written ≡ [] → e.written ≡ p.written ++ opn_of b' p.recv_cap ∷ []
    → e.recv_cap ≡ p.recv_cap → HasItems B b' e
first_items b' p e nil is cap =
    let one : e.written ≡ opn_of b' p.recv_cap ∷ [] = is ∙ ap (λ ws. ws ++ opn_of b' p.recv_cap ∷ []) nil in
    record {
      first =
          λ i h. let same : opn_of b' p.recv_cap
          ≡ i = some_is (sym (ap (λ ws. slice_get ws 0) one) ∙ h) in subst (IsFirst B b' e.recv_cap) same
          (refl, ap (λ c. halves (told_num b' 1 ∷ c ∷ [])) (sym cap));
      users = λ n i h. let none : None ≡ Some i = sym (ap (λ ws. slice_get ws (suc n)) one) ∙ h in absurd (cc);
    }
  where
    some_is : {x y : ItemView} → Some x ≡ Some y → x ≡ y
    some_is h = cc

one_sent : (packets : List PacketView) (item : ItemView) → map item_of packets ≡ item ∷ [] → item ≡ sent_item packets
one_sent [] item h = absurd (cc)
one_sent (packet ∷ packets) item h = cc

pub accept_ties : (w : Machine) (l : LabView) (start now : ℕ) → Ties w l
    → Refuses B w l (Accept start now) (AcceptAt B (sent_item (act_accept l.b.conn start now).packets))
accept_ties w l start now t =
    let e : Plain = w.b in
    let p : Plain = w.a in
    let opn : ItemView = opn_of l.a.first e.recv_cap in
    let h = end_holds w B (reached_holds w t.tied.reached) in
    let s = stands_at B w l t in
    let packets = (act_accept l.b.conn start now).packets in
    let f : Plain = record (read_item (next_item p e) e) { phase = Open; written = e.written ++ opn ∷ [] } in
    ⊎_elim
    (λ r. inl
    (fa.WrongState, ap (λ a. refusal_of (Did a.answer)) (subst (λ v. act_accept v start now ≡ quietly v (Err fa.WrongState)) (sym s.2) r)))
    (λ d.
    let was : IsNew B e.written e.read × (contains e.arrived 0 ≡ true)
    × ((i : ℕ) → contains e.arrived i ≡ true → i ≡ 0) =
    subst (λ (ph : Phase). Fits ph B e.written e.read e.arrived) d.0 h.ok.fits in
    let all : Accepted s.0 l.b.first l.a.first start now p e l.b.conn =
    subst (Accepted s.0 l.b.first l.a.first start now p e) (sym s.2) d.1 in
    let sent : opn ≡ sent_item packets = one_sent packets opn all.accepts.1 in
    let m : LabView = record l { b = record l.b { first = start } } in
    let keeps : KeepsTie B w m (Accept start now) (AcceptAt B opn) f = record {
      leaves = renamed Did B _ _ p f (act_accept l.b.conn start now) all.leaves;
      step = λ sent all. (f, inl (d.0, refl), (sent, all, refl));
      more = opn ∷ [];
      longer = refl;
      items = first_items l.a.first e f (nil_from_length e.written was.0.1) refl (same_read (next_item p e) e).1;
      wrote = (λ j. t.written_b j ++ all.accepts.1 j);
      got = (λ j. t.read_b j ++ option_to_list (all.front j)) ∙ sym (ap (λ o. (read_item o e).read) all.next);
      first = refl;
      asked =
          asked_keeps B w m f (rebased start w l was.0.1 t)
          (not_new e f (λ i. let no : RfcReceived ≡ Inactive = sym d.0 ∙ i in absurd (cc)) (λ i. absurd (cc)));
    } in
    inr (subst (λ o. Stepped w (AcceptAt B o) (after_call l B (Accept start now))) sent
    (ties_on B w m (Accept start now) (AcceptAt B opn) f (rebased start w l was.0.1 t) keeps)))
    (accept_leaves s.0 l.b.first l.a.first start now e p s.1 h.writer h.reader h.ok)
