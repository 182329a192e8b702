-- The OPN comes to A, which opens by it and tells its status. That comes to B.
use Rattle.std.proofs.Common.{◌≡◌, ℕ, ◌≤◌, length, false, ◌&&◌, not, Some, refl, sym, ap, ◌∙◌, subst, inl, inr, arith}
use Rattle.std.specs.Prelude.{slice_get}
use Rattle.std.specs.FinSet.{insert}
use Rattle.std.proofs.lemmas.Bool.{cond-false}
use Rattle.chaos_packet.specs.Opcode.{kind_of, is_rfc}
use Rattle.chaos_packet.specs.Packet.{PacketView}
use Rattle.chaos_packet.specs.declared.opcode.Kind.TheVariants as k
use Rattle.chaos_conn.specs.declared.state.State.TheVariants as st
use Rattle.chaos_conn.specs.declared.answers.Delivered.TheVariants as de
use Rattle.chaos_conn.specs.Act.{Call}
use Rattle.chaos_conn.specs.Act.Call.{Deliver as DeliverPacket}
use Rattle.chaos_conn.specs.Arriving.{act_deliver, deliver_asking, after_opening, after_opn_telling, heard_with_status}
use Rattle.chaos_conn.specs.Sending.{sts_of, with_sts}
use Rattle.chaos_conn.specs.View.{ConnView}
use Rattle.chaos_lab.specs.declared.side.Side.TheVariants.{A, B}
use Rattle.chaos_lab.specs.declared.stamped.Stamped.{Stamped as Sent}
use Rattle.chaos_lab.specs.Machine.{PlainEnd as Plain, Kind, Told, Copy, Machine, Comes, Moves, OrNothing, Step, other, hear, read_next}
use Rattle.chaos_lab.specs.Machine.Phase.{Inactive, RfcSent, Open}
use Rattle.chaos_lab.specs.Machine.Kind.{Nth, Sts, Cls}
use Rattle.chaos_lab.specs.Machine.Told.{Status}
use Rattle.chaos_lab.specs.Machine.Event.{Deliver}
use Rattle.chaos_lab.specs.Shown.{StandsFor, is_a, shown_in, shown_at}
use Rattle.chaos_lab.specs.Laboratory.{LabView, Done, happen, after_call, delivery, is_request}
use Rattle.chaos_lab.specs.Laboratory.Happening.{DeliverCopy}
use Rattle.chaos_lab.specs.Numbers.{told_num}
use Rattle.chaos_lab.specs.Tied.{Ties}
use Rattle.chaos_lab.proofs.Accepting.{OpnAt}
use Rattle.chaos_lab.proofs.Asking.{FirstCopy, first_copy, delivers, asked_at}
use Rattle.chaos_lab.proofs.CopyTies.{comes_to_a}
use Rattle.chaos_lab.proofs.Deliver.{to_asked}
use Rattle.chaos_lab.proofs.Ends.{IsNew, IsNone, fits_at}
use Rattle.chaos_lab.proofs.HeadlineLaw.{open_at}
use Rattle.chaos_lab.proofs.Machines.{reached_holds, end_holds}
use Rattle.chaos_lab.proofs.Phases.{open_met}
use Rattle.chaos_lab.proofs.OnSide.{Stepped, first_at, stands_at, items_at}
use Rattle.chaos_lab.proofs.Reading.{becomes_same}
use Rattle.chaos_lab.proofs.Keeps.{CopyAt}
use Rattle.chaos_lab.proofs.Helping.{IsTaken, stands_at_side, same_count, sent_at, sent_what, stamp_after, put_at, sts_kind, told_status}

-- ---- what the plain machine makes of it

opens_by : (c : Copy) (p e f : Plain) → c.kind ≡ Nth 0 → e.phase ≡ RfcSent → OrNothing (Comes c) p e f
    → f ≡ hear c.told (read_next p (record e { phase = Open; arrived = insert e.arrived 0 }))
opens_by c p e f kind at (inl (inl r)) = let no : RfcSent ≡ Inactive = sym at ∙ r.1 in absurd (cc)
opens_by c p e f kind at (inl (inr (inl r))) = r.2
opens_by c p e f kind at (inl (inr (inr (inl r)))) = let no : RfcSent ≡ Open = sym at ∙ r.0 in absurd (cc)
opens_by c p e f kind at (inl (inr (inr (inr (inl r))))) = let no : RfcSent ≡ Open = sym at ∙ r.0 in absurd (cc)
opens_by c p e f kind at (inl (inr (inr (inr (inr r))))) = let no : Nth 0 ≡ Cls = sym kind ∙ r.0 in absurd (cc)
opens_by c p e f kind at (inr r) = absurd (r.0 _ (inr (inl (kind, at, refl))))

-- the end knows that its peer read so many
knows_read : (told : Told) (e : Plain) (read receipt window : ℕ) → told ≡ Status read receipt window
    → read ≤ (hear told e).acknowledged
knows_read told e read receipt window is = subst (λ (t : Told). read ≤ (hear t e).acknowledged) (sym is) (omega arith)

-- A, to which this copy came
acknowledged_at : (w v : Machine) (n : ℕ) (c : Copy) (read receipt window : ℕ) → w.a.phase ≡ RfcSent
    → slice_get w.copies n ≡ Some c → c.sender ≡ B → c.kind ≡ Nth 0 → c.told ≡ Status read receipt window
    → Step w (Deliver n) v → read ≤ v.a.acknowledged
acknowledged_at w v n c read receipt window at there from kind told s =
    let same : s.0 ≡ c = let e = s.1 in let e' = there in cc in
    let m : Moves (Comes c) w (other c.sender) v =
    subst (λ (d : Copy). Moves (Comes d) w (other d.sender) v) same s.3 in
    let g : Moves (Comes c) w A v = subst (λ y. Moves (Comes c) w (other y) v) from m in
    let is = becomes_same w A g.0 v g.2 ∙ opens_by c w.b w.a g.0 kind at g.1 in
    subst (λ (e : Plain). read ≤ e.acknowledged) (sym is) (knows_read c.told _ read receipt window told)

-- ---- the OPN comes to A

-- the OPN's status, as the packet tells it
record OpnPacket (w : Machine) (l : LabView) (pk : PacketView) : Type 0 where
  told : ℕ × ℕ
  acts : act_deliver l.a.conn pk l.clock
      ≡ with_sts (after_opening (heard_with_status l.a.conn pk l.clock told) pk) de.Opened

opn_packet : (w : Machine) (l : LabView) (n read receipt window : ℕ) → Ties w l → l.a.conn.state ≡ st.RfcSent
    → (f : FirstCopy B w l n) → f.copy.told ≡ Status read receipt window → OpnPacket w l f.stamped.packet
opn_packet w l n read receipt window t state f told =
    let pk : PacketView = f.stamped.packet in
    let e : Plain = w.a in
    let at = asked_at A w l t state in
    let h = end_holds w A (reached_holds w t.tied.reached) in
    let new : IsNew A e.written e.read × IsNone e.arrived = fits_at A e RfcSent h.ok at in
    let z = stands_at A w l t in
    let view : l.a.conn ≡ shown_in st.RfcSent A z.0 l.a.first l.b.first w.b e =
    z.2 ∙ ap (λ ph. shown_at ph A z.0 l.a.first l.b.first w.b e) at in
    let s0 = stands_at_side B f.copy.sender w l.a.first l.b.first pk f.copy.kind f.copy.told f.sender f.known.stands in
    let s : StandsFor B l.b.first l.a.first w.b pk (Nth 0) (Status read receipt window) =
    subst (λ (q : Kind × Told). StandsFor B l.b.first l.a.first w.b pk q.0 q.1) (λ j. (f.kind j, told j)) s0 in
    let kind : kind_of pk.op ≡ k.Opn =
    ap kind_of (t.tied.items_b.first (record { op = pk.op; body = pk.body }) s.what.0).0 in
    let v : ConnView = shown_in st.RfcSent A z.0 l.a.first l.b.first w.b e in
    let acts : act_deliver v pk l.clock ≡ after_opn_telling v pk l.clock (Some (told_num l.a.first receipt, window)) =
    to_asked z.0 l.a.first l.b.first pk l.clock w.b e (Nth 0) new.0.0 s.header s.header.dst_index (ap is_rfc kind)
    ∙ ap (deliver_asking v pk l.clock) kind ∙ ap (after_opn_telling v pk l.clock) s.tells.1 in
    record {
      told = (told_num l.a.first receipt, window);
      acts =
          ap (λ (u : ConnView). act_deliver u pk l.clock) view ∙ acts
          ∙ ap
          (λ (u : ConnView). with_sts
          (after_opening (heard_with_status u pk l.clock (told_num l.a.first receipt, window)) pk)
          de.Opened)
          (sym view);
    }

pub record Meets (w : Machine) (l : LabView) (n : ℕ) : Type 0 where
  pub machine : Machine
  pub ties : Ties machine (happen l (DeliverCopy n)).lab
  pub taken : IsTaken l (DeliverCopy n)
  pub packet : PacketView
  pub told : ℕ × ℕ
  pub lab : (happen l (DeliverCopy n)).lab ≡ after_call l A (DeliverPacket packet l.clock)
  pub acts : act_deliver l.a.conn packet l.clock
      ≡ with_sts (after_opening (heard_with_status l.a.conn packet l.clock told) packet) de.Opened
  pub opens : machine.a.phase ≡ Open
  pub knows : 1 ≤ machine.a.acknowledged
  pub copy : Copy
  pub at : CopyAt machine A (length l.copies) copy
  pub kind : copy.kind ≡ Sts
  pub status : (f : ℕ) × (copy.told ≡ Status (length machine.a.read) f machine.a.announced)
  pub read : 1 ≤ length machine.a.read

pub meet_event : (w : Machine) (l : LabView) (n : ℕ) → Ties w l → l.a.conn.state ≡ st.RfcSent → OpnAt w n → Meets w l n
meet_event w l n t state o =
    let f = first_copy B w l n o.copy t o.at o.kind in
    let s : Sent = f.stamped in
    let pk : PacketView = s.packet in
    let call : Call = DeliverPacket pk l.clock in
    let m : LabView = after_call l A call in
    let same : f.copy ≡ o.copy = let e = f.known.there in let e' = o.at.there in cc in
    let told : f.copy.told ≡ Status o.read o.receipt o.window = ap (λ (c : Copy). c.told) same ∙ o.told in
    let opn = opn_packet w l n o.read o.receipt o.window t state f told in
    let apart : is_request l.asked s ≡ false = λ j. is_a (f.side j) && (not l.asked && is_rfc (kind_of s.packet.op)) in
    let picks : delivery l.asked l.clock s ≡ call = cond-false _ _ _ apart in
    let done = delivers B w l n f call picks in
    let lab : (happen l (DeliverCopy n)).lab ≡ m = ap (λ (d : Done). d.lab) done in
    let step : Stepped w (Deliver n) m = comes_to_a w l n l.clock s f.copy f.sender t f.known in
    let v : Machine = step.machine in
    let opens : v.a.phase ≡ Open = open_at A v m step.ties (ap (λ a. a.view.state) opn.acts) in
    let sts : PacketView = sts_of (after_opening (heard_with_status l.a.conn pk l.clock opn.told) pk) in
    let number : ℕ = length l.copies in
    let put : slice_get m.copies number ≡ Some (stamp_after l A call sts) =
    put_at A l call number 0 sts (omega arith) (ap (λ a. slice_get a.packets 0) opn.acts) in
    let count : length l.copies ≡ length w.copies = same_count w l t in
    let goes = step.step.3 in
    let moves : Moves (Comes step.step.0) w A v =
    subst (λ y. Moves (Comes step.step.0) w y v)
    (ap (λ (c : Copy). other c.sender)
    (let e = step.step.1 in let e' = o.at.there in let is : step.step.0 ≡ o.copy = cc in is)
    ∙ ap other o.at.sender)
    goes in
    let sent =
    sent_at A w v moves.0 m number 0 (stamp_after l A call sts) step.ties moves.2 (omega (arith, count)) put in
    let kind : sent.copy.kind ≡ Sts =
    sts_kind sent.copy.kind A (first_at m A) (first_at m B) v.a sts (items_at A v m step.ties)
    (sent_what A v m number (stamp_after l A call sts) sent) refl in
    let knows : o.read ≤ v.a.acknowledged =
    acknowledged_at w v n o.copy o.read o.receipt o.window (asked_at A w l t state) o.at.there o.at.sender o.kind
    o.told step.step in
    record {
      machine = v;
      ties = subst (Ties v) (sym lab) step.ties;
      taken = (_, ap (λ (d : Done). d.answer) done);
      packet = pk;
      told = opn.told;
      lab = lab;
      acts = opn.acts;
      opens = opens;
      knows = omega (arith, knows, o.some);
      copy = sent.copy;
      at = sent.at;
      kind = kind;
      status = told_status sent.copy.kind A v.a sent.copy.told kind sent.tells;
      read = (open_met v A step.ties.tied.reached opens).1;
    }
