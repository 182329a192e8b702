-- Each call of a connection is played by an end of a laboratory.
use Rattle.std.proofs.Common.{◌≡◌, ℕ, zero, suc, max, List, [], ◌∷◌, ◌++◌, length, map, drop, true, false, Some, None, refl, sym, ap, ◌∙◌, subst, inl, inr, ◌⊎◌, ⊎_elim, arith}
use Rattle.std.specs.Prelude.{slice_get}
use Rattle.std.specs.List.{All, AllByRecursion}
use Rattle.std.proofs.lemmas.Bool.{cond-true, cond-false, false≢true, lt-ltb, le-ltb}
use Rattle.std.proofs.lemmas.List.{append-nil, nil_from_length}
use Rattle.std.proofs.lemmas.List.Elements.{All-nil}
use Rattle.chaos_packet.specs.Item.{ItemView}
use Rattle.chaos_packet.specs.Opcode.{kind_of, is_rfc}
use Rattle.chaos_packet.specs.Packet.{PacketView}
use Rattle.chaos_conn.specs.declared.state.State.{State}
use Rattle.chaos_conn.specs.declared.state.State.TheVariants as st
use Rattle.chaos_conn.specs.State.{is_ended, is_inactive, awaits_peer}
use Rattle.chaos_conn.specs.View.{ConnView, heard_at, new_conn}
use Rattle.chaos_conn.specs.Acted.{Acted, quietly}
use Rattle.chaos_conn.specs.Sending.{carries_ack, with_sts}
use Rattle.chaos_conn.specs.Opening.{act_request, Outcome as Asked, closed_conn}
use Rattle.chaos_conn.specs.Act.Call.{Request, TakeRequest, Accept, Answer, Reject, Write, Unc, Read, FinishRead, Announce, Close, Tick, Deliver as DeliverPacket}
use Rattle.chaos_conn.specs.Names.{Quiet, MayBe, quiet}
use Rattle.chaos_conn.specs.Names.Quiet.{Same, Heard, Tells, Ends}
use Rattle.chaos_conn.proofs.Ended.{ended_is_over}
use Rattle.chaos_lab.specs.declared.side.Side.{Side}
use Rattle.chaos_lab.specs.declared.side.Side.TheVariants.{A, B}
use Rattle.chaos_lab.specs.Machine.{PlainEnd as Plain, Phase, Kind, Copy, Machine, Event, other, end_of, with_end, IsSent, Step}
use Rattle.chaos_lab.specs.Machine.Phase.{Inactive, RfcSent, RfcReceived, Open, Ended, Closed}
use Rattle.chaos_lab.specs.Machine.Kind.{Nth, Sns, Sts, Cls}
use Rattle.chaos_packet.specs.declared.opcode.Kind.TheVariants as k
use Rattle.chaos_lab.specs.Machine.Event.{WriteAt, ResizeAt, TickAt, Deliver}
use Rattle.chaos_lab.specs.Shown.{Rest, shown_at, shown_in, send_shown, send_view, index_of, idle, place_of, address_of, to_index, HasItems, IsWhat, Leaves, Stands}
use Rattle.chaos_lab.specs.Laboratory.{LabView, Done, lab_end, with_lab_end, with_sent, call_at, stamp}
use Rattle.chaos_lab.specs.Tied.{Tied, Ties, HasMachine, StandsCopy, AskedFits, base_of, machine_for}
use Rattle.chaos_lab.specs.Plays.{IsCopyTo, KeepsPlay, KeepsQuiet, MayBegin, MayReplace, ReadsBegin, RfcIsFirst, AskingWaits, UnaskedIsNew, KnowsSides, OthersNameIndex, OpenHasRead, UnreadIsAlone}
use Rattle.chaos_lab.proofs.Ends.{EndOk, IsNew, IsNone, HasMet, fits_at}
use Rattle.chaos_lab.proofs.Functions.{ended_phase, tick_row}
use Rattle.chaos_lab.proofs.Items.{same_phase, same_items}
use Rattle.chaos_lab.proofs.Machines.{reached_holds, end_holds}
use Rattle.chaos_lab.proofs.SendTie.{read_within}
use Rattle.chaos_lab.proofs.OpenEnd.{is_open, open_is, leaves_sts}
use Rattle.chaos_lab.proofs.DeliverOpen.{heard_rest}
use Rattle.chaos_lab.proofs.TiedOn.{on_a, on_b}
use Rattle.chaos_lab.proofs.OnSide.{Outcome, Refuses, Steps, conn_at, first_at, stands_at, items_at, asked_keeps, settle}
use Rattle.chaos_lab.proofs.UserTies.{read_ties, write_ties, resize_ties, tick_ties, accept_ties, ended_new}
use Rattle.chaos_lab.proofs.CopyTies.{CopyKnown, copy_known, copy_of, comes_to_a, comes_to_b, takes_by_b}
use Rattle.chaos_lab.proofs.LabTies.{is_first, first_is}
use Rattle.chaos_lab.proofs.HeadlineLaw.{begins, start_ties, open_by, opened}

-- ---- calls

played : (w : Machine) (event : Event) (l : LabView) (done : Done) → HasMachine l → Outcome w event l done
    → HasMachine done.lab
played w event l done h (Refuses why is) = subst HasMachine (sym (ap (λ d. d.lab) is)) h
played w event l done h (Steps s) = record { plain = s.machine; ties = s.ties }

-- a copy comes to either end, and isn't an RFC
pub copy_comes : (x : Side) (w : Machine) (l : LabView) (p : PacketView) (now : ℕ) → Ties w l
    → is_rfc (kind_of p.op) ≡ false → (c : IsCopyTo l x p)
    → Outcome w (Deliver c.number) l (call_at l x (DeliverPacket p now))
copy_comes A w l p now t no_rfc c =
    let k = copy_known w l c.number c.copy t c.there c.fresh in
    subst (λ (q : PacketView). Outcome w (Deliver c.number) l (call_at l A (DeliverPacket q now))) c.packet
    (settle A w l (DeliverPacket c.copy.packet now) (Deliver c.number)
    (inr (comes_to_a w l c.number now c.copy k.0 (sym k.1 ∙ c.side) t k.2)))
copy_comes B w l p now t no_rfc c =
    let k = copy_known w l c.number c.copy t c.there c.fresh in
    let from : k.0.sender ≡ A = sym k.1 ∙ c.side in
    let d : Copy = record k.0 { sender = A } in
    let m : CopyKnown A w l c.number c.copy d =
    subst (λ (y : Copy). CopyKnown y.sender w l c.number c.copy y) (λ j. record k.0 { sender = from j }) k.2 in
    let apart : w.b.phase ≡ Inactive → k.0.kind ≡ Nth 0 → ⊥ = λ new kind.
    false≢true
    (sym (ap (λ (q : PacketView). is_rfc (kind_of q.op)) c.packet ∙ no_rfc)
    ∙ first_is k.0.kind l.b.first l.a.first w.a c.copy.packet t.tied.items_a m.stands.what kind) in
    subst (λ (q : PacketView). Outcome w (Deliver c.number) l (call_at l B (DeliverPacket q now))) c.packet
    (settle B w l (DeliverPacket c.copy.packet now) (Deliver c.number)
    (inr (comes_to_b w l c.number now c.copy k.0 from t k.2 apart)))

-- an RFC comes to a B that took none
request_comes : (w : Machine) (l : LabView) (p : PacketView) (now : ℕ) → Ties w l → is_rfc (kind_of p.op) ≡ true
    → l.asked ≡ false → (c : IsCopyTo l B p)
    → Outcome w (Deliver c.number) l (call_at l B (TakeRequest p (place_of B) now))
request_comes w l p now t rfc asked c =
    let k = copy_known w l c.number c.copy t c.there c.fresh in
    let from : k.0.sender ≡ A = sym k.1 ∙ c.side in
    let d : Copy = record k.0 { sender = A } in
    let m : CopyKnown A w l c.number c.copy d =
    subst (λ (y : Copy). CopyKnown y.sender w l c.number c.copy y) (λ j. record k.0 { sender = from j }) k.2 in
    let kind : k.0.kind ≡ Nth 0 =
    is_first k.0.kind l.b.first l.a.first w.a c.copy.packet t.tied.items_a m.stands.what
    (ap (λ (q : PacketView). is_rfc (kind_of q.op)) c.packet ∙ rfc) in
    subst (λ (q : PacketView). Outcome w (Deliver c.number) l (call_at l B (TakeRequest q (place_of B) now))) c.packet
    (settle B w l (TakeRequest c.copy.packet (place_of B) now) (Deliver c.number)
    (inr (takes_by_b w l c.number now c.copy k.0 from kind t k.2 (t.asked.new asked))))

pub keeps_play : KeepsPlay
keeps_play l x (Write op bytes now) h can =
    played h.plain (WriteAt x (record { op = op; body = bytes })) l _ h
    (settle x h.plain l (Write op bytes now) (WriteAt x (record { op = op; body = bytes }))
    (write_ties x h.plain l op bytes now h.ties))
keeps_play l x Read h can = played h.plain _ l _ h (settle x h.plain l Read _ (inr (read_ties x h.plain l h.ties)))
keeps_play l x (Announce window) h can =
    played h.plain (ResizeAt x window) l _ h
    (settle x h.plain l (Announce window) (ResizeAt x window) (resize_ties x h.plain l window h.ties))
keeps_play l x (Tick now) h can =
    played h.plain (TickAt x) l _ h (settle x h.plain l (Tick now) (TickAt x) (inr (tick_ties x h.plain l now h.ties)))
keeps_play l B (Accept start now) h can =
    played h.plain _ l _ h (settle B h.plain l (Accept start now) _ (accept_ties h.plain l start now h.ties))
keeps_play l A (Accept start now) h can = let no : A ≡ B = can in absurd (cc)
keeps_play l x (DeliverPacket p now) h can =
    played h.plain (Deliver can.1.number) l _ h (copy_comes x h.plain l p now h.ties can.0 can.1)
keeps_play l B (TakeRequest p me now) h can =
    subst (λ m. HasMachine (call_at l B (TakeRequest p m now)).lab) (sym can.1)
    (played h.plain (Deliver can.4.number) l _ h (request_comes h.plain l p now h.ties can.2 can.3 can.4))
keeps_play l A (TakeRequest p me now) h can = let no : A ≡ B = can.0 in absurd (cc)
keeps_play l x (Request me peer contact start now) h can = absurd can
keeps_play l x (Answer bytes) h can = absurd can
keeps_play l x (Reject text) h can = absurd can
keeps_play l x (Unc bytes) h can = absurd can
keeps_play l x FinishRead h can = absurd can
keeps_play l x (Close text) h can = absurd can

-- ---- packets that make little of a connection

-- an end goes on to e, by a tick, and its lists stay
quiet_ties : (x : Side) (w : Machine) (l : LabView) (e : Plain) (acted : Acted (Unit {0})) → Ties w l
    → Leaves x (first_at l x) (first_at l (other x)) (end_of w (other x)) e acted
    → ((sent : List Copy) → All (IsSent (with_end w x e) x) sent
    → Step w (TickAt x) (record (with_end w x e) { copies = w.copies ++ sent }))
    → e.written ≡ (end_of w x).written → e.read ≡ (end_of w x).read → HasItems x (first_at l (other x)) e
    → AskedFits l.asked (end_of (with_end w x e) B).phase
    → HasMachine (with_sent (with_lab_end l x (record (lab_end l x) { conn = acted.view })) x acted.packets)
quiet_ties A w l e acted t k step wrote got items asked =
    let r =
    on_a l.a.first l.b.first w l.a.conn l.b.conn l.copies (TickAt A) e [] acted t.tied k step
    (wrote ∙ sym (append-nil w.a.written)) items in
    record {
      plain = r.0;
      ties = record {
        tied =
            subst
            (λ (z : ℕ × ℕ). Tied l.a.first l.b.first r.0 acted.view l.b.conn
            (l.copies ++ map (stamp A z.0 z.1) acted.packets))
            (λ j. (ap length (wrote ∙ sym t.written_a) j, sym (ap length t.written_b) j)) r.2;
        written_a = t.written_a ∙ sym wrote ∙ sym (ap (λ f. f.written) r.3);
        written_b = t.written_b ∙ sym (ap (λ f. f.written) r.4);
        read_a = t.read_a ∙ sym got ∙ sym (ap (λ f. f.read) r.3);
        read_b = t.read_b ∙ sym (ap (λ f. f.read) r.4);
        asked = subst (AskedFits l.asked) (sym (ap (λ f. f.phase) r.4)) asked;
      };
    }
quiet_ties B w l e acted t k step wrote got items asked =
    let r =
    on_b l.a.first l.b.first w l.a.conn l.b.conn l.copies (TickAt B) e [] acted t.tied k step
    (wrote ∙ sym (append-nil w.b.written)) items in
    record {
      plain = r.0;
      ties = record {
        tied =
            subst
            (λ (z : ℕ × ℕ). Tied l.a.first l.b.first r.0 l.a.conn acted.view
            (l.copies ++ map (stamp B z.0 z.1) acted.packets))
            (λ j. (sym (ap length t.written_a) j, ap length (wrote ∙ sym t.written_b) j)) r.2;
        written_a = t.written_a ∙ sym (ap (λ f. f.written) r.3);
        written_b = t.written_b ∙ sym wrote ∙ sym (ap (λ f. f.written) r.4);
        read_a = t.read_a ∙ sym (ap (λ f. f.read) r.3);
        read_b = t.read_b ∙ sym got ∙ sym (ap (λ f. f.read) r.4);
        asked = subst (AskedFits l.asked) (sym (ap (λ f. f.phase) r.4)) asked;
      };
    }

heard_shown : (phase : Phase) (x : Side) (rest : Rest) (b b' now : ℕ) (p e : Plain)
    → heard_at (shown_at phase x rest b b' p e) now ≡ shown_at phase x (heard_rest rest now) b b' p e
heard_shown Inactive x rest b b' now p e = refl
heard_shown RfcSent x rest b b' now p e = refl
heard_shown RfcReceived x rest b b' now p e = refl
heard_shown Open x rest b b' now p e = refl
heard_shown Ended x rest b b' now p e = refl
heard_shown Closed x rest b b' now p e = refl

-- where an end waits for its peer
asks_or_open : (phase : Phase) (x : Side) (rest : Rest) (b b' : ℕ) (p e : Plain) → is_ended rest.ended ≡ true
    → awaits_peer (shown_at phase x rest b b' p e).state ≡ true → (phase ≡ RfcSent) ⊎ (phase ≡ Open)
asks_or_open Inactive x rest b b' p e end h = absurd (false≢true h)
asks_or_open RfcSent x rest b b' p e end h = inl refl
asks_or_open RfcReceived x rest b b' p e end h = absurd (false≢true h)
asks_or_open Open x rest b b' p e end h = inr refl
asks_or_open Ended x rest b b' p e end h = absurd (false≢true (sym (ended_is_over rest.ended end).awaits_nobody ∙ h))
asks_or_open Closed x rest b b' p e end h = absurd (false≢true h)

-- it ends
ended_by : (phase : Phase) (x : Side) (rest : Rest) (b b' now : ℕ) (p e : Plain) (state : State) → is_ended state ≡ true
    → (phase ≡ RfcSent) ⊎ (phase ≡ Open)
    → Leaves x b b' p (record e { phase = ended_phase phase })
    (quietly {A = Unit {0}} (record (heard_at (shown_at phase x rest b b' p e) now) { state = state }) tt)
ended_by RfcSent x rest b b' now p e state end h =
    record { rest = record (heard_rest rest now) { ended = state }; ended = end; view = refl; packets = All-nil _ }
ended_by Open x rest b b' now p e state end h =
    record { rest = record (heard_rest rest now) { ended = state }; ended = end; view = refl; packets = All-nil _ }
ended_by Inactive x rest b b' now p e state end h =
    absurd
    (⊎_elim (λ (q : Inactive ≡ RfcSent). let r : ⊥ = absurd (cc) in r)
    (λ (q : Inactive ≡ Open). let r : ⊥ = absurd (cc) in r) h)
ended_by RfcReceived x rest b b' now p e state end h =
    absurd
    (⊎_elim (λ (q : RfcReceived ≡ RfcSent). let r : ⊥ = absurd (cc) in r)
    (λ (q : RfcReceived ≡ Open). let r : ⊥ = absurd (cc) in r) h)
ended_by Ended x rest b b' now p e state end h =
    absurd
    (⊎_elim (λ (q : Ended ≡ RfcSent). let r : ⊥ = absurd (cc) in r)
    (λ (q : Ended ≡ Open). let r : ⊥ = absurd (cc) in r) h)
ended_by Closed x rest b b' now p e state end h =
    absurd
    (⊎_elim (λ (q : Closed ≡ RfcSent). let r : ⊥ = absurd (cc) in r)
    (λ (q : Closed ≡ Open). let r : ⊥ = absurd (cc) in r) h)

quiet_leaves : (x : Side) (kind : Quiet) (now : ℕ) (w : Machine) (l : LabView) → Ties w l → MayBe kind (conn_at l x)
    → let e =
    end_of w x in
    Leaves x (first_at l x) (first_at l (other x)) (end_of w (other x)) e (quiet kind (conn_at l x) now)
    ⊎ Leaves x (first_at l x) (first_at l (other x)) (end_of w (other x)) (record e { phase = ended_phase e.phase })
    (quiet kind (conn_at l x) now)
quiet_leaves x Same now w l t may =
    let s = stands_at x w l t in
    inl (record { rest = s.0; ended = s.1; view = s.2; packets = All-nil _ })
quiet_leaves x Heard now w l t may =
    let s = stands_at x w l t in
    let e = end_of w x in
    inl
    (record
    { rest = heard_rest s.0 now; ended = s.1; view = ap (λ v. heard_at v now) s.2 ∙ heard_shown e.phase x s.0 _ _ now (end_of w (other x)) e; packets = All-nil _ })
quiet_leaves x Tells now w l t may =
    let s = stands_at x w l t in
    let e = end_of w x in
    let p = end_of w (other x) in
    let h = end_holds w x (reached_holds w t.tied.reached) in
    let at : e.phase ≡ Open =
    open_by e.phase x s.0 (first_at l x) (first_at l (other x)) p e s.1 (sym (ap (λ v. v.state) s.2) ∙ may) in
    let o = is_open x p e at h.ok h.reader in
    let same : heard_at (conn_at l x) now ≡ _ =
    ap (λ v. heard_at v now) s.2 ∙ heard_shown e.phase x s.0 (first_at l x) (first_at l (other x)) now p e
    ∙ open_is x (heard_rest s.0 now) (first_at l x) (first_at l (other x)) p e o in
    inl
    (subst (λ v. Leaves x (first_at l x) (first_at l (other x)) p e (with_sts {A = Unit {0}} v tt)) (sym same)
    (leaves_sts tt x (heard_rest s.0 now) (first_at l x) (first_at l (other x)) p e s.1 o))
quiet_leaves x (Ends state) now w l t may =
    let s = stands_at x w l t in
    let e = end_of w x in
    let p = end_of w (other x) in
    let at =
    asks_or_open e.phase x s.0 (first_at l x) (first_at l (other x)) p e s.1
    (sym (ap (λ v. awaits_peer v.state) s.2) ∙ may.1) in
    inr
    (subst
    (λ v. Leaves x (first_at l x) (first_at l (other x)) p (record e { phase = ended_phase e.phase })
    (quietly {A = Unit {0}} (record (heard_at v now) { state = state }) tt))
    (sym s.2)
    (ended_by e.phase x s.0 (first_at l x) (first_at l (other x)) now p e state may.0 at))

pub keeps_quiet : KeepsQuiet
keeps_quiet l x kind now h may =
    let w = h.plain in
    let t = h.ties in
    let e = end_of w x in
    let p = end_of w (other x) in
    let f : Plain = record e { phase = ended_phase e.phase } in
    ⊎_elim
    (λ k. quiet_ties x w l e (quiet kind (conn_at l x) now) t k (λ sent all. (e, inl (inr refl), (sent, all, refl)))
    refl refl (items_at x w l t) (asked_keeps x w l e t (same_phase e e refl)))
    (λ k. quiet_ties x w l f (quiet kind (conn_at l x) now) t k (λ sent all. (f, tick_row p e, (sent, all, refl))) refl
    refl (same_items x _ e f (refl, refl) (items_at x w l t)) (asked_keeps x w l f t (ended_new e.phase e refl)))
    (quiet_leaves x kind now w l t may)

-- ---- the beginning

pub may_begin : MayBegin
may_begin contact conn config_b start now closed short fits a b =
    let v : ConnView = conn in
    let w = machine_for contact conn.config config_b in
    let t = start_ties contact conn.config config_b start short fits a b in
    let begun : ConnView = (act_request conn (place_of A) (address_of B) contact start now).view in
    let first : ConnView = (act_request (new_conn conn.config) (place_of A) (address_of B) contact start 0).view in
    let same : begun ≡ record first { last = max conn.last now; heard = max conn.last now; resent = max conn.last now; probed = conn.probed } =
    ap (λ c. (act_request c (place_of A) (address_of B) contact start now).view) closed
    ∙ ap (λ (a : Acted Asked). a.view) (cond-false _ _ _ (le-ltb 488 (length contact) short))
    ∙ sym (ap (λ (a : Acted Asked). record a.view { last = max conn.last now; heard = max conn.last now; resent = max conn.last now; probed = conn.probed }) (cond-false _ _ _ (le-ltb 488 (length contact) short))) in
    let s = t.tied.a in
    let rest : Rest = record s.0 { last = max conn.last now; heard = max conn.last now; resent = max conn.last now; probed = conn.probed } in
    record {
      plain = w;
      ties = record {
        tied = record {
          reached = t.tied.reached;
          a = (rest, s.1, same ∙ ap (λ (c : ConnView). record c { last = max conn.last now; heard = max conn.last now; resent = max conn.last now; probed = conn.probed }) s.2);
          b = t.tied.b;
          copies = t.tied.copies;
          kinds = t.tied.kinds;
          met = t.tied.met;
          items_a = t.tied.items_a;
          items_b = t.tied.items_b;
        };
        written_a = t.written_a;
        written_b = t.written_b;
        read_a = t.read_a;
        read_b = t.read_b;
        asked = t.asked;
      };
    }

-- a new or closed connection stands for an end that wasn't asked
idle_stands : (w : Machine) (l : LabView) (conn : ConnView) → w.b.phase ≡ Inactive
    → Stands B l.b.first l.a.first w.a w.b l.b.conn → conn ≡ closed_conn conn → conn.config ≡ l.b.conn.config
    → Stands B l.b.first l.a.first w.a w.b conn
idle_stands w l conn new s closed config =
    let was : l.b.conn ≡ idle s.0 w.b = s.2 ∙ ap (λ ph. shown_at ph B s.0 l.b.first l.a.first w.a w.b) new in
    let same : conn.config ≡ (idle s.0 w.b).config = config ∙ ap (λ v. v.config) was in
    let rest : Rest =
    record s.0 { last = conn.last; heard = conn.heard; resent = conn.resent; probed = conn.probed } in (
      rest,
      s.1,
      closed
          ∙ (λ j. record (new_conn (same j))
          { last = conn.last; heard = conn.heard; resent = conn.resent; probed = conn.probed })
          ∙ sym (ap (λ ph. shown_at ph B rest l.b.first l.a.first w.a w.b) new),
    )

pub may_replace : MayReplace
may_replace l conn h asked closed config =
    let t = h.ties in
    record {
      plain = h.plain;
      ties = record {
        tied = record {
          reached = t.tied.reached;
          a = t.tied.a;
          b = idle_stands h.plain l conn (t.asked.new asked) t.tied.b closed config;
          copies = t.tied.copies;
          kinds = t.tied.kinds;
          met = t.tied.met;
          items_a = t.tied.items_a;
          items_b = t.tied.items_b;
        };
        written_a = t.written_a;
        written_b = t.written_b;
        read_a = t.read_a;
        read_b = t.read_b;
        asked = t.asked;
      };
    }

-- ---- what is true of every laboratory

pub reads_begin : ReadsBegin
reads_begin l x h = begins l x h

-- an RFC is an item 0 of A
rfc_side : (y : Side) (kind : Kind) (b b' : ℕ) (e : Plain) (pk : PacketView) → HasItems y b' e → IsWhat b e pk kind
    → is_rfc (kind_of pk.op) ≡ true → (y ≡ A) × (kind ≡ Nth 0)
rfc_side A kind b b' e pk its what is = (refl, is_first kind b' b e pk its what is)
rfc_side B (Nth zero) b b' e pk its what is =
    absurd
    (false≢true
    (sym (ap (λ op. is_rfc (kind_of op)) (its.first (record { op = pk.op; body = pk.body }) what.0).0) ∙ is))
rfc_side B (Nth (suc i)) b b' e pk its what is =
    ⊎_elim
    (λ (d : kind_of pk.op ≡ k.Data). absurd (false≢true (sym (ap is_rfc d) ∙ is)))
    (λ (d : (kind_of pk.op ≡ k.Eof) × (pk.body ≡ [])). absurd (false≢true (sym (ap is_rfc d.0) ∙ is)))
    (its.users i (record { op = pk.op; body = pk.body }) what.0)
rfc_side B Sns b b' e pk its what is = absurd (false≢true (sym (ap (λ op. is_rfc (kind_of op)) what.0) ∙ is))
rfc_side B Sts b b' e pk its what is = absurd (false≢true (sym (ap (λ op. is_rfc (kind_of op)) what.0) ∙ is))
rfc_side B Cls b b' e pk its what is = absurd (false≢true (sym (ap (λ op. is_rfc (kind_of op)) what.0) ∙ is))

items_of : (y : Side) (w : Machine) (l : LabView) → Ties w l
    → HasItems y (base_of l.a.first l.b.first (other y)) (end_of w y)
items_of A w l t = t.tied.items_a
items_of B w l t = t.tied.items_b

pub rfc_is_first : RfcIsFirst
rfc_is_first l n s h there is =
    let w = h.plain in
    let t = h.ties in
    let c = copy_of (StandsCopy l.a.first l.b.first w) l.copies w.copies n s t.tied.copies there in
    let k =
    rfc_side c.0.sender c.0.kind (base_of l.a.first l.b.first c.0.sender)
    (base_of l.a.first l.b.first (other c.0.sender)) (end_of w c.0.sender) s.packet (items_of c.0.sender w l t)
    c.2.stands.what is in
    let d : Copy = record c.0 { sender = A; kind = Nth 0 } in
    let m : StandsCopy l.a.first l.b.first w s d =
    subst (λ (y : Copy). StandsCopy l.a.first l.b.first w s y) (λ j. record c.0 { sender = k.0 j; kind = k.1 j })
    c.2 in
    record {
      side = m.side;
      number = m.stands.what.1;
      item = ap (λ ws. slice_get ws 0) t.written_a ∙ m.stands.what.0;
      src = m.stands.header.src;
      src_index = m.stands.header.src_index;
    }

-- the phase of an end by its state
asks_by : (phase : Phase) (x : Side) (rest : Rest) (b b' : ℕ) (p e : Plain) → is_ended rest.ended ≡ true
    → (shown_at phase x rest b b' p e).state ≡ st.RfcSent → phase ≡ RfcSent
asks_by Inactive x rest b b' p e end h = let no : st.Inactive ≡ st.RfcSent = h in absurd (cc)
asks_by RfcSent x rest b b' p e end h = refl
asks_by RfcReceived x rest b b' p e end h = let no : st.RfcReceived ≡ st.RfcSent = h in absurd (cc)
asks_by Open x rest b b' p e end h = let no : st.Open ≡ st.RfcSent = h in absurd (cc)
asks_by Ended x rest b b' p e end h = absurd (false≢true (sym (ap is_ended h) ∙ end))
asks_by Closed x rest b b' p e end h = let no : st.Inactive ≡ st.RfcSent = h in absurd (cc)

asked_by : (phase : Phase) (x : Side) (rest : Rest) (b b' : ℕ) (p e : Plain) → is_ended rest.ended ≡ true
    → (shown_at phase x rest b b' p e).state ≡ st.RfcReceived → phase ≡ RfcReceived
asked_by Inactive x rest b b' p e end h = let no : st.Inactive ≡ st.RfcReceived = h in absurd (cc)
asked_by RfcSent x rest b b' p e end h = let no : st.RfcSent ≡ st.RfcReceived = h in absurd (cc)
asked_by RfcReceived x rest b b' p e end h = refl
asked_by Open x rest b b' p e end h = let no : st.Open ≡ st.RfcReceived = h in absurd (cc)
asked_by Ended x rest b b' p e end h = absurd (false≢true (sym (ap is_ended h) ∙ end))
asked_by Closed x rest b b' p e end h = let no : st.Inactive ≡ st.RfcReceived = h in absurd (cc)

-- a list of one RFC, from any place on
one_rfc : (items : List ItemView) (k : ℕ) → length items ≡ 1
    → ((item : ItemView) → slice_get items 0 ≡ Some item → item.op ≡ 1)
    → AllByRecursion (λ item. carries_ack (kind_of item.op) ≡ false) (drop k items)
one_rfc [] k one first = absurd (omega arith)
one_rfc (item ∷ []) zero one first = (ap (λ op. carries_ack (kind_of op)) (first item refl), tt)
one_rfc (item ∷ []) (suc zero) one first = tt
one_rfc (item ∷ []) (suc (suc k)) one first = tt
one_rfc (item ∷ other ∷ items) k one first = absurd (omega arith)

pub asking_waits : AskingWaits
asking_waits l h is =
    let w = h.plain in
    let t = h.ties in
    let e = w.a in
    let p = w.b in
    let s = t.tied.a in
    let o = (reached_holds w t.tied.reached).a in
    let at : e.phase ≡ RfcSent = asks_by e.phase A s.0 l.a.first l.b.first p e s.1 (sym (ap (λ v. v.state) s.2) ∙ is) in
    let new : IsNew A e.written e.read × IsNone e.arrived = fits_at A e RfcSent o at in
    let shows : l.a.conn ≡ shown_in st.RfcSent A s.0 l.a.first l.b.first p e =
    s.2 ∙ ap (λ ph. shown_at ph A s.0 l.a.first l.b.first p e) at in
    let wrote : send_shown l.a.first e ≡ send_view l.a.first e =
    cond-true _ _ _ (lt-ltb 0 (length e.written) (omega (arith, new.0.1))) in
    record {
      written = ap length t.written_a ∙ new.0.1;
      read = t.read_a ∙ nil_from_length e.read new.0.0;
      index = ap (λ v. v.peer_index) shows ∙ cond-false _ _ _ (le-ltb 0 (length e.read) (omega (arith, new.0.0)));
      kept =
          subst (λ v. AllByRecursion (λ item. carries_ack (kind_of item.op) ≡ false) v.kept)
          (sym (ap (λ v. v.send) shows ∙ wrote))
          (one_rfc e.written e.receipted new.0.1 (λ item at0. t.tied.items_a.first item at0));
    }

-- while B is new, A has read nothing
unmet : (phase : Phase) (e : Plain) → e.phase ≡ phase → EndOk A e → length e.read ≡ 0 → length e.written ≡ 1
unmet Inactive e at o none = absurd (fits_at A e Inactive o at)
unmet RfcSent e at o none = (fits_at A e RfcSent o at).0.1
unmet RfcReceived e at o none = absurd (fits_at A e RfcReceived o at)
unmet Open e at o none = let met = fits_at A e Open o at in absurd (omega (arith, met.0))
unmet Ended e at o none =
    ⊎_elim (λ (n : IsNew A e.written e.read × IsNone e.arrived). n.0.1)
    (λ (met : HasMet e.written e.read). absurd (omega (arith, met.0))) (fits_at A e Ended o at)
unmet Closed e at o none =
    ⊎_elim (λ (n : IsNew A e.written e.read). n.1) (λ (met : HasMet e.written e.read). absurd (omega (arith, met.0)))
    (fits_at A e Closed o at)

pub unasked_is_new : UnaskedIsNew
unasked_is_new l h asked =
    let w = h.plain in
    let t = h.ties in
    let holds = reached_holds w t.tied.reached in
    let new : IsNew B w.b.written w.b.read × IsNone w.b.arrived = fits_at B w.b Inactive holds.b (t.asked.new asked) in
    let within = read_within w.a w.b holds.ba in
    record {
      wrote = ap length t.written_a ∙ unmet w.a.phase w.a refl holds.a (omega (arith, within, new.0.1));
      written = t.written_b ∙ nil_from_length w.b.written new.0.1;
      read = t.read_b ∙ nil_from_length w.b.read new.0.0;
    }

-- an A that knows no index has read nothing
no_index : (phase : Phase) (rest : Rest) (b b' : ℕ) (p e : Plain)
    → is_inactive (shown_at phase A rest b b' p e).state ≡ false → (shown_at phase A rest b b' p e).peer_index ≡ None
    → length e.read ≡ 0
no_index phase rest b b' p e used none = by phase used none (length e.read) refl
  where
    known : (n : ℕ) → index_of A n ≡ None → n ≡ 0
    known zero h = refl
    known (suc n) h =
        let yes : index_of A (suc n) ≡ Some 1 = cond-true _ _ _ (lt-ltb 0 (suc n) (omega arith)) in let no : Some 1
        ≡ None = sym yes
        ∙ h in absurd (cc)

    by : (phase : Phase) → is_inactive (shown_at phase A rest b b' p e).state ≡ false
        → (shown_at phase A rest b b' p e).peer_index ≡ None → (n : ℕ) → length e.read ≡ n → length e.read ≡ 0
    by Inactive used none n is = absurd (false≢true (sym used))
    by Closed used none n is = absurd (false≢true (sym used))
    by RfcSent used none n is = known (length e.read) none
    by RfcReceived used none n is = known (length e.read) none
    by Open used none n is = known (length e.read) none
    by Ended used none n is = known (length e.read) none

pub knows_sides : KnowsSides
knows_sides l h =
    let w = h.plain in
    let t = h.ties in
    let holds = reached_holds w t.tied.reached in
    let sa = t.tied.a in
    let sb = t.tied.b in (
      λ is. fits_at A w.a RfcReceived holds.a
          (asked_by w.a.phase A sa.0 l.a.first l.b.first w.b w.a sa.1 (sym (ap (λ v. v.state) sa.2) ∙ is)),
      λ is. fits_at B w.b RfcSent holds.b
          (asks_by w.b.phase B sb.0 l.b.first l.a.first w.a w.b sb.1 (sym (ap (λ v. v.state) sb.2) ∙ is)),
      λ used none. t.read_a ∙ nil_from_length w.a.read
          (no_index w.a.phase sa.0 l.a.first l.b.first w.b w.a (sym (ap (λ v. is_inactive v.state) sa.2) ∙ used)
          (sym (ap (λ v. v.peer_index) sa.2) ∙ none)),
    )

index_by : (y : Side) (kind : Kind) (b b' : ℕ) (e : Plain) (pk : PacketView) → HasItems y b' e → IsWhat b e pk kind
    → is_rfc (kind_of pk.op) ≡ false → to_index kind y ≡ 1
index_by A (Nth zero) b b' e pk its what is =
    absurd
    (false≢true
    (sym is ∙ ap (λ op. is_rfc (kind_of op)) (its.first (record { op = pk.op; body = pk.body }) what.0)))
index_by B (Nth zero) b b' e pk its what is = refl
index_by y (Nth (suc i)) b b' e pk its what is = refl
index_by y Sns b b' e pk its what is = refl
index_by y Sts b b' e pk its what is = refl
index_by y Cls b b' e pk its what is = refl

pub others_name_index : OthersNameIndex
others_name_index l n s h there is =
    let w = h.plain in
    let t = h.ties in
    let c = copy_of (StandsCopy l.a.first l.b.first w) l.copies w.copies n s t.tied.copies there in
    c.2.stands.header.dst_index
    ∙ index_by c.0.sender c.0.kind (base_of l.a.first l.b.first c.0.sender)
    (base_of l.a.first l.b.first (other c.0.sender)) (end_of w c.0.sender) s.packet (items_of c.0.sender w l t)
    c.2.stands.what is

pub open_has_read : OpenHasRead
open_has_read l x h is = opened l x h is

pub unread_is_alone : UnreadIsAlone
unread_is_alone l h none =
    let w = h.plain in
    let t = h.ties in
    ap length t.written_a
    ∙ unmet w.a.phase w.a refl (reached_holds w t.tied.reached).a (ap length (sym t.read_a ∙ none))
