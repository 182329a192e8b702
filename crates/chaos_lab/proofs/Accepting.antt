-- The OPN is put out: B's user accepts, or B sends again what it keeps.
use Rattle.std.proofs.Common.{◌≡◌, ℕ, zero, suc, ◌+◌, ◌<◌, ◌≤◌, List, [], ◌∷◌, ◌++◌, length, map, drop, Some, None, refl, sym, ap, ◌∙◌, subst, inl, inr, arith, length-append}
use Rattle.std.specs.Prelude.{slice_get}
use Rattle.std.proofs.lemmas.Bool.{cond-true}
use Rattle.std.proofs.lemmas.List.{nil_from_length}
use Rattle.std.proofs.lemmas.Option.{slice_get_within}
use Rattle.chaos_packet.specs.Item.{ItemView}
use Rattle.chaos_packet.specs.Number.{num}
use Rattle.chaos_packet.specs.Opcode.{kind_of}
use Rattle.chaos_packet.specs.Packet.{PacketView, item_of}
use Rattle.chaos_packet.specs.declared.opcode.Kind.TheVariants as k
use Rattle.chaos_window.specs.Send.{next_of}
use Rattle.chaos_conn.specs.declared.state.State.TheVariants as st
use Rattle.chaos_conn.specs.declared.time.Due.TheVariants as due
use Rattle.chaos_conn.specs.Act.{Call, act}
use Rattle.chaos_conn.specs.Act.Call.{Tick, Accept}
use Rattle.chaos_conn.specs.Act.Reply.{Did}
use Rattle.chaos_conn.specs.Opening.{act_accept, after_accepting, opn_item, with_opn}
use Rattle.chaos_conn.specs.Sending.{item_packet}
use Rattle.chaos_conn.specs.State.{awaits_peer, is_requested}
use Rattle.chaos_conn.specs.Time.{at_moment, ticked_by, act_tick}
use Rattle.chaos_conn.specs.View.{ConnView, IsConn, moment}
use Rattle.chaos_lab.specs.declared.side.Side.TheVariants.{A, B}
use Rattle.chaos_lab.specs.declared.side.Side.{Side}
use Rattle.chaos_lab.specs.declared.stamped.Stamped.{Stamped as Sent}
use Rattle.chaos_lab.specs.Machine.{PlainEnd as Plain, Kind, Told, Copy, Machine, Tells}
use Rattle.chaos_lab.specs.Machine.Phase.{RfcReceived, Open}
use Rattle.chaos_lab.specs.Machine.Kind.{Nth, Sns, Sts, Cls}
use Rattle.chaos_lab.specs.Machine.Told.{Status}
use Rattle.chaos_lab.specs.Machine.Event.{AcceptAt, TickAt}
use Rattle.chaos_lab.specs.Shown.{IsWhat, HasItems}
use Rattle.chaos_lab.specs.Laboratory.{LabView, Done, happen, call_effect, after_call, refusal_of}
use Rattle.chaos_lab.specs.Laboratory.Happening.{AcceptFrom}
use Rattle.chaos_lab.specs.Opening.{again_moment, SendsInTime}
use Rattle.chaos_lab.specs.Tied.{Ties, sent_item}
use Rattle.chaos_lab.proofs.Asking.{first_packet, holding_at, none_receipted}
use Rattle.chaos_lab.proofs.CopyTies.{not_opn}
use Rattle.chaos_lab.proofs.Due.{resends_due, due_again}
use Rattle.chaos_lab.proofs.Ends.{Fits, IsNone, fits_at}
use Rattle.chaos_lab.proofs.HeadlineLaw.{open_at}
use Rattle.chaos_lab.proofs.Lists.{member_at}
use Rattle.chaos_lab.proofs.Machines.{reached_holds, end_holds}
use Rattle.chaos_lab.proofs.Phases.{open_met}
use Rattle.chaos_lab.proofs.OnSide.{Stepped, first_at, items_at, refusal_at}
use Rattle.chaos_lab.proofs.UserTies.{Refuses, accept_ties, tick_ties}
use Rattle.chaos_lab.proofs.Keeps.{CopyAt}
use Rattle.chaos_lab.proofs.Helping.{IsTaken, SentAt, same_count, sent_at, sent_what, shows, stamp_after, put_at}

-- only item 0 is an OPN
opn_is_first : (kind : Kind) (x : Side) (b b' : ℕ) (p : Plain) (pk : PacketView) → HasItems x b p → IsWhat b' p pk kind
    → kind_of pk.op ≡ k.Opn → kind ≡ Nth 0
opn_is_first (Nth zero) x b b' p pk its what is = refl
opn_is_first (Nth (suc i)) x b b' p pk its what is =
    absurd (not_opn x (Nth (suc i)) b b' p pk its what (λ z. let no : Nth (suc i) ≡ Nth 0 = z in absurd (cc)) is)
opn_is_first Sns x b b' p pk its what is =
    absurd (not_opn x Sns b b' p pk its what (λ z. let no : Sns ≡ Nth 0 = z in absurd (cc)) is)
opn_is_first Sts x b b' p pk its what is =
    absurd (not_opn x Sts b b' p pk its what (λ z. let no : Sts ≡ Nth 0 = z in absurd (cc)) is)
opn_is_first Cls x b b' p pk its what is =
    absurd (not_opn x Cls b b' p pk its what (λ z. let no : Cls ≡ Nth 0 = z in absurd (cc)) is)

-- a copy of the OPN, which tells that its sender has read something
pub record OpnAt (v : Machine) (n : ℕ) : Type 0 where
  pub copy : Copy
  pub at : CopyAt v B n copy
  pub kind : copy.kind ≡ Nth 0
  pub read : ℕ
  pub receipt : ℕ
  pub window : ℕ
  pub told : copy.told ≡ Status read receipt window
  pub some : 1 ≤ read

opn_told : (kind : Kind) (e : Plain) (told : Told) → kind ≡ Nth 0 → Tells kind B e told
    → told ≡ Status (length e.read) 1 e.recv_cap
opn_told kind e told is h = subst (λ (q : Kind). Tells q B e told) is h

opn_at : (v : Machine) (m : LabView) (n : ℕ) (s : Sent) → Ties v m → v.b.phase ≡ Open → SentAt B v m n s
    → kind_of s.packet.op ≡ k.Opn → OpnAt v n
opn_at v m n s t at sent op =
    let kind : sent.copy.kind ≡ Nth 0 =
    opn_is_first sent.copy.kind B (first_at m A) (first_at m B) v.b s.packet (items_at B v m t)
    (sent_what B v m n s sent) op in
    record {
      copy = sent.copy;
      at = sent.at;
      kind = kind;
      read = length v.b.read;
      receipt = 1;
      window = v.b.recv_cap;
      told = opn_told sent.copy.kind v.b sent.copy.told kind sent.tells;
      some = (open_met v B t.tied.reached at).1;
    }

-- ---- B's user accepts

not_refused : (w : Machine) (l : LabView) (start now : ℕ) → refusal_at l B (Accept start now) ≡ None
    → Refuses B w l (Accept start now) (AcceptAt B (sent_item (act_accept l.b.conn start now).packets))
    → Stepped w (AcceptAt B (sent_item (act_accept l.b.conn start now).packets)) (after_call l B (Accept start now))
not_refused w l start now none (inl r) = let no : None ≡ Some r.0 = sym none ∙ r.1 in absurd (cc)
not_refused w l start now none (inr s) = s

-- it writes its OPN alone
pub record WroteOpn (before after : List ItemView) : Type 0 where
  pub nothing : before ≡ []
  pub opn : ItemView
  pub one : after ≡ opn ∷ []
  pub op : opn.op ≡ 2

pub record Accepts (w : Machine) (l : LabView) (start : ℕ) : Type 0 where
  pub machine : Machine
  pub ties : Ties machine (happen l (AcceptFrom start)).lab
  pub taken : IsTaken l (AcceptFrom start)
  pub lab : (happen l (AcceptFrom start)).lab ≡ after_call l B (Accept start l.clock)
  pub acts : act_accept l.b.conn start l.clock ≡ with_opn (after_accepting l.b.conn start (moment l.b.conn l.clock))
  pub opn : OpnAt machine (length l.copies)
  pub wrote : WroteOpn l.b.written (after_call l B (Accept start l.clock)).b.written
  pub count : length (after_call l B (Accept start l.clock)).copies ≡ length l.copies + 1

pub accept_event : (w : Machine) (l : LabView) (start : ℕ) → Ties w l → l.b.conn.state ≡ st.RfcReceived
    → Accepts w l start
accept_event w l start t state =
    let v : ConnView = l.b.conn in
    let u : ConnView = after_accepting v start (moment v l.clock) in
    let call : Call = Accept start l.clock in
    let m : LabView = after_call l B call in
    let pk : PacketView = item_packet u (next_of u.send) (opn_item u) in
    let h = end_holds w B (reached_holds w t.tied.reached) in
    let fits : Fits RfcReceived B w.b.written w.b.read w.b.arrived =
    fits_at B w.b RfcReceived h.ok (holding_at B w l t state) in
    let nothing : l.b.written ≡ [] = t.written_b ∙ nil_from_length w.b.written fits.0.1 in
    let acts : act_accept v start l.clock ≡ with_opn u = cond-true _ _ _ (ap is_requested state) in
    let none : refusal_at l B call ≡ None = ap (λ a. refusal_of (Did a.answer)) acts in
    let done : happen l (AcceptFrom start) ≡ call_effect l B call None = ap (call_effect l B call) none in
    let lab : (happen l (AcceptFrom start)).lab ≡ m = ap (λ (d : Done). d.lab) done in
    let s = not_refused w l start l.clock none (accept_ties w l start l.clock t) in
    let n : ℕ = length l.copies in
    let put : slice_get m.copies n ≡ Some (stamp_after l B call pk) =
    put_at B l call n 0 pk (omega arith) (ap (λ a. slice_get a.packets 0) acts) in
    let count : length l.copies ≡ length w.copies = same_count w l t in
    let sent =
    sent_at B w s.machine s.step.0 m n 0 (stamp_after l B call pk) s.ties s.step.2 (omega (arith, count)) put in
    let opens : m.b.conn.state ≡ st.Open = ap (λ a. a.view.state) acts in
    record {
      machine = s.machine;
      ties = subst (Ties s.machine) (sym lab) s.ties;
      taken = (_, ap (λ (d : Done). d.answer) done);
      lab = lab;
      acts = acts;
      opn = opn_at s.machine m n (stamp_after l B call pk) s.ties (open_at B s.machine m s.ties opens) sent refl;
      wrote =
          record { nothing = nothing; opn = item_of pk; one = λ j. nothing j ++ map item_of (acts j).packets; op = refl };
      count =
          (λ j. length (l.copies ++ map (stamp_after l B call) (acts j).packets))
          ∙ length-append l.copies (stamp_after l B call pk ∷ []);
    }

-- ---- B sends again what it keeps

-- the OPN is the first that it keeps
record KeepsOpn (v : ConnView) : Type 0 where
  item : ItemView
  op : item.op ≡ 2
  first : slice_get v.send.kept 0 ≡ Some item

keeps_opn : (w : Machine) (l : LabView) → Ties w l → w.b.phase ≡ Open → IsNone w.a.arrived → KeepsOpn l.b.conn
keeps_opn w l t at none =
    let e : Plain = w.b in
    let h = end_holds w B (reached_holds w t.tied.reached) in
    let receipted : e.receipted ≡ 0 = none_receipted e w.a h.writer none in
    let kept : l.b.conn.send.kept ≡ e.written =
    ap (λ (v : ConnView). v.send.kept) (shows B w l t at).is ∙ ap (λ r. drop r e.written) receipted in
    let met = open_met w B t.tied.reached at in
    let first = member_at e.written 0 (omega (arith, met.0, met.1)) in
    record { item = first.0; op = ((items_at B w l t).first first.0 first.1).0; first = ap (λ ks. slice_get ks 0) kept ∙ first.1 }

pub record Repeats (w : Machine) (l : LabView) : Type 0 where
  pub machine : Machine
  pub ties : Ties machine (after_call l B (Tick (again_moment l.b.conn)))
  pub opn : OpnAt machine (length l.copies)
  pub acts : act_tick l.b.conn (again_moment l.b.conn)
      ≡ ticked_by due.Resend (at_moment l.b.conn (again_moment l.b.conn))

pub repeat_event : (w : Machine) (l : LabView) → Ties w l → l.b.conn.state ≡ st.Open → IsNone w.a.arrived
    → IsConn l.b.conn → SendsInTime l.b.conn → Repeats w l
repeat_event w l t state none conn time =
    let v : ConnView = l.b.conn in
    let now : ℕ = again_moment v in
    let u : ConnView = at_moment v now in
    let call : Call = Tick now in
    let m : LabView = after_call l B call in
    let keeps = keeps_opn w l t (open_at B w l t state) none in
    let some : 0 < length v.send.kept = slice_get_within v.send.kept 0 keeps.item keeps.first in
    let acts = resends_due v now conn (due_again v (ap awaits_peer state) some time) in
    let pk : PacketView = item_packet u (num u.send.receipted 1) keeps.item in
    let first : slice_get (act v call).packets 0 ≡ Some pk =
    ap (λ a. slice_get a.packets 0) acts
    ∙ first_packet v.send.kept u (num u.send.receipted 1) keeps.item keeps.first in
    let s : Stepped w (TickAt B) m = tick_ties B w l now t in
    let n : ℕ = length l.copies in
    let put : slice_get m.copies n ≡ Some (stamp_after l B call pk) = put_at B l call n 0 pk (omega arith) first in
    let count : length l.copies ≡ length w.copies = same_count w l t in
    let sent =
    sent_at B w s.machine s.step.0 m n 0 (stamp_after l B call pk) s.ties s.step.2 (omega (arith, count)) put in
    let opens : m.b.conn.state ≡ st.Open = ap (λ a. a.view.state) acts ∙ state in
    record {
      machine = s.machine;
      ties = s.ties;
      opn =
          opn_at s.machine m n (stamp_after l B call pk) s.ties (open_at B s.machine m s.ties opens) sent
          (ap kind_of keeps.op);
      acts = acts;
    }
