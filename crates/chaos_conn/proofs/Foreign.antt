-- Packets that make little of a connection, and connections that are over.
use Rattle.std.proofs.Common.{◌≡◌, ℕ, zero, suc, Bool, true, false, ◌&&◌, ◌||◌, not, ◌==◌, if◌then◌else◌, List, [], ◌∷◌, length, replicate, nat_lt, slice_get, Option, Some, None, refl, sym, ap, ◌∙◌, inl, inr, ◌⊎◌, unwrap_or}
use Rattle.std.specs.List.{AllByRecursion}
use Rattle.std.proofs.lemmas.Bool.{false≢true}
use Rattle.chaos_packet.specs.Item.{ItemView}
use Rattle.chaos_packet.specs.Opcode.{op_cls, op_ans, kind_of, is_rfc}
use Rattle.chaos_packet.specs.Packet.{PacketView}
use Rattle.chaos_packet.specs.declared.limits.TheConstants.{MAX_DATA}
use Rattle.chaos_packet.specs.declared.opcode.Kind.{Kind}
use Rattle.chaos_packet.specs.declared.opcode.Kind.TheVariants as kind
use Rattle.chaos_window.specs.Receive.{item_at, clear_receive}
use Rattle.chaos_conn.specs.declared.state.State.{State}
use Rattle.chaos_conn.specs.declared.state.State.TheVariants as st
use Rattle.chaos_conn.specs.declared.answers.Delivered.{Delivered}
use Rattle.chaos_conn.specs.declared.answers.Delivered.TheVariants as answer
use Rattle.chaos_conn.specs.State.{is_live, is_open, is_opening, is_requested, is_inactive, is_ended, awaits_peer, tells_close}
use Rattle.chaos_conn.specs.View.{ConnView, moment, heard_at}
use Rattle.chaos_conn.specs.Acted.{Acted, quietly}
use Rattle.chaos_conn.specs.Sending.{carries_ack}
use Rattle.chaos_conn.specs.Time.{ticked_by, at_moment, is_down, is_resend_due, is_probe_due}
use Rattle.chaos_conn.specs.Opening.{Outcome, closed_conn, turn_away}
use Rattle.chaos_conn.specs.Calls.{write_at_most, most_bytes, has_window, read_at_end, front_of}
use Rattle.chaos_conn.specs.Arriving.{is_between_hosts, is_between_indices, is_index, deliver_in, deliver_open, deliver_asking, deliver_requested, after_rfc, repeated_request}
use Rattle.chaos_conn.specs.Act.{Reply}
use Rattle.chaos_conn.specs.Act.Reply.{Did, Wrote}
use Rattle.chaos_conn.specs.declared.time.Due.TheVariants as due
use Rattle.chaos_conn.specs.Act.Call.{Request, TakeRequest, Accept, Answer, Reject, Deliver, Write, Unc, Read, FinishRead, Announce, Close, Tick}
use Rattle.chaos_conn.specs.Names.{is_opened, IsQuiet, IsLost, IsOver, IsBare, is_named, is_refused, ForeignIsQuiet, OverStays, RefusedIsSame, EndsAreOver}
use Rattle.chaos_conn.specs.Names.Quiet.{Same, Heard, Tells, Ends}

-- little or lost
abbrev Little : ConnView → ℕ → Acted Delivered → Type 0
Little v now acted = IsQuiet v now acted ⊎ IsLost acted

either : {A : Type 0} (P : A → Type 0) (b : Bool) (x y : A) → (b ≡ true → P x) → (b ≡ false → P y)
    → P (if b then x else y)
either P true x y p q = p refl
either P false x y p q = q refl

same : (v : ConnView) (now : ℕ) (acted : Acted Delivered) → (acted.view ≡ v) → acted.packets ≡ []
    → (is_opened acted.answer ≡ false) → Little v now acted
same v now acted h p a = inl (record { kind = Same; may = tt; view = h; packets = p; answer = a })

-- ---- nothing is held by a clear window

abbrev none : Option ItemView
none = None

slots_empty : (n k : ℕ) → unwrap_or (slice_get (replicate n none) k) None ≡ None
slots_empty zero k = refl
slots_empty (suc n) zero = refl
slots_empty (suc n) (suc k) = slots_empty n k

clear_empty : (cap : ℕ) → item_at (clear_receive cap) 1 ≡ None
clear_empty cap = slots_empty cap 0

closed_over : (v : ConnView) → IsOver (closed_conn v)
closed_over v = record { dead = refl; empty = clear_empty v.config.recv_cap }

-- ---- packets to each live end

heard_only : (v : ConnView) (now : ℕ) (a : Delivered) → is_opened a ≡ false → Little v now (quietly (heard_at v now) a)
heard_only v now a h = inl (record { kind = Heard; may = tt; view = refl; packets = refl; answer = h })

repeated : (v : ConnView) (now : ℕ) (s : State) → v.state ≡ s → Little v now (repeated_request (heard_at v now) s)
repeated v now st.Open e = inl (record { kind = Tells; may = e; view = refl; packets = refl; answer = refl })
repeated v now st.Inactive e = heard_only v now answer.Duplicate refl
repeated v now st.RfcSent e = heard_only v now answer.Duplicate refl
repeated v now st.RfcReceived e = heard_only v now answer.Duplicate refl
repeated v now st.Answered e = heard_only v now answer.Duplicate refl
repeated v now st.ClsReceived e = heard_only v now answer.Duplicate refl
repeated v now st.LosReceived e = heard_only v now answer.Duplicate refl
repeated v now st.HostDown e = heard_only v now answer.Duplicate refl
repeated v now st.Forwarded e = heard_only v now answer.Duplicate refl

rfc_little : (v : ConnView) (p : PacketView) (now : ℕ) → Little v now (after_rfc v p now)
rfc_little v p now =
    either (Little v now) v.asked _ _ (λ _. same v now _ refl refl refl)
    (λ _. either (Little v now) (not (is_index v.peer_index p.src_index)) _ _ (λ _. same v now _ refl refl refl)
    (λ _. either (Little v now) (not (p.num == v.request)) _ _ (λ _. same v now _ refl refl refl)
    (λ _. repeated v now v.state refl)))

-- an end that waits for packets, but asked or is open, is ended
ended : (v : ConnView) (now : ℕ) (s t : State) (a : Delivered) → v.state ≡ s → is_ended t ≡ true → awaits_peer s ≡ true
    → is_requested s ≡ false → (is_opened a ≡ false)
    → Little v now
    (quietly
    (record (heard_at v now)
    { state = t; recv = if is_requested v.state then clear_receive v.recv.cap else v.recv })
    a)
ended v now s t a e over waits open_end shut =
    inl (record {
      kind = Ends t;
      may = (over, ap awaits_peer e ∙ waits);
      view =
          λ j. record (heard_at v now)
          { state = t; recv = if (ap is_requested e ∙ open_end) j then clear_receive v.recv.cap else v.recv };
      packets = refl;
      answer = shut;
    })

lost : (v : ConnView) (now : ℕ) (t : State) (a : Delivered) → v.state ≡ st.RfcReceived → is_live t ≡ false
    → (is_opened a ≡ false)
    → Little v now
    (quietly
    (record (heard_at v now)
    { state = t; recv = if is_requested v.state then clear_receive v.recv.cap else v.recv })
    a)
lost v now t a e dead shut =
    inr
    (record
    { over = record { dead = dead; empty = ap (λ s. item_at (if is_requested s then clear_receive v.recv.cap else v.recv) 1) e ∙ clear_empty v.recv.cap }; packets = refl; answer = shut })

asking_little : (v : ConnView) (p : PacketView) (now : ℕ) (k : Kind) → v.state ≡ st.RfcSent → carries_ack k ≡ false
    → Little v now (deliver_asking v p now k)
asking_little v p now kind.Ans e h =
    inl (record { kind = Ends st.Answered; may = (refl, ap awaits_peer e); view = refl; packets = refl; answer = refl })
asking_little v p now kind.Fwd e h =
    inl
    (record
    { kind = Ends st.Forwarded; may = (refl, ap awaits_peer e); view = refl; packets = refl; answer = refl })
asking_little v p now kind.Cls e h = ended v now st.RfcSent st.ClsReceived (answer.Closed p) e refl refl refl refl
asking_little v p now kind.Los e h = ended v now st.RfcSent st.LosReceived (answer.Lost p) e refl refl refl refl
asking_little v p now kind.Rfc e h = same v now _ refl refl refl
asking_little v p now kind.Lsn e h = same v now _ refl refl refl
asking_little v p now kind.Unc e h = same v now _ refl refl refl
asking_little v p now kind.Other e h = same v now _ refl refl refl
asking_little v p now kind.Opn e h = absurd (false≢true (sym h))
asking_little v p now kind.Sns e h = absurd (false≢true (sym h))
asking_little v p now kind.Sts e h = absurd (false≢true (sym h))
asking_little v p now kind.Eof e h = absurd (false≢true (sym h))
asking_little v p now kind.Data e h = absurd (false≢true (sym h))

requested_little : (v : ConnView) (p : PacketView) (now : ℕ) (k : Kind) → v.state ≡ st.RfcReceived
    → carries_ack k ≡ false → Little v now (deliver_requested v p now k)
requested_little v p now kind.Cls e h = lost v now st.ClsReceived (answer.Closed p) e refl refl
requested_little v p now kind.Los e h = lost v now st.LosReceived (answer.Lost p) e refl refl
requested_little v p now kind.Ans e h = same v now _ refl refl refl
requested_little v p now kind.Fwd e h = same v now _ refl refl refl
requested_little v p now kind.Rfc e h = same v now _ refl refl refl
requested_little v p now kind.Lsn e h = same v now _ refl refl refl
requested_little v p now kind.Unc e h = same v now _ refl refl refl
requested_little v p now kind.Other e h = same v now _ refl refl refl
requested_little v p now kind.Opn e h = absurd (false≢true (sym h))
requested_little v p now kind.Sns e h = absurd (false≢true (sym h))
requested_little v p now kind.Sts e h = absurd (false≢true (sym h))
requested_little v p now kind.Eof e h = absurd (false≢true (sym h))
requested_little v p now kind.Data e h = absurd (false≢true (sym h))

open_little : (v : ConnView) (p : PacketView) (now : ℕ) (k : Kind) → v.state ≡ st.Open → carries_ack k ≡ false
    → Little v now (deliver_open v p now k)
open_little v p now kind.Cls e h = ended v now st.Open st.ClsReceived (answer.Closed p) e refl refl refl refl
open_little v p now kind.Los e h = ended v now st.Open st.LosReceived (answer.Lost p) e refl refl refl refl
open_little v p now kind.Unc e h = heard_only v now (answer.Unc p) refl
open_little v p now kind.Ans e h = same v now _ refl refl refl
open_little v p now kind.Fwd e h = same v now _ refl refl refl
open_little v p now kind.Rfc e h = same v now _ refl refl refl
open_little v p now kind.Lsn e h = same v now _ refl refl refl
open_little v p now kind.Other e h = same v now _ refl refl refl
open_little v p now kind.Opn e h = absurd (false≢true (sym h))
open_little v p now kind.Sns e h = absurd (false≢true (sym h))
open_little v p now kind.Sts e h = absurd (false≢true (sym h))
open_little v p now kind.Eof e h = absurd (false≢true (sym h))
open_little v p now kind.Data e h = absurd (false≢true (sym h))

in_little : (v : ConnView) (p : PacketView) (now : ℕ) (s : State) → v.state ≡ s → carries_ack (kind_of p.op) ≡ false
    → Little v now (deliver_in s v p now)
in_little v p now st.RfcSent e h = asking_little v p now (kind_of p.op) e h
in_little v p now st.RfcReceived e h = requested_little v p now (kind_of p.op) e h
in_little v p now st.Open e h = open_little v p now (kind_of p.op) e h
in_little v p now st.Inactive e h = same v now _ refl refl refl
in_little v p now st.Answered e h = same v now _ refl refl refl
in_little v p now st.ClsReceived e h = same v now _ refl refl refl
in_little v p now st.LosReceived e h = same v now _ refl refl refl
in_little v p now st.HostDown e h = same v now _ refl refl refl
in_little v p now st.Forwarded e h = same v now _ refl refl refl

not_both : (a b : Bool) → (a && b) ≡ false → not a ≡ false → not b ≡ false → ⊥
not_both true true h p q = false≢true (sym h)
not_both true false h p q = false≢true (sym q)
not_both false b h p q = false≢true (sym p)

pub foreign_is_quiet : ForeignIsQuiet
foreign_is_quiet v p now h =
    either (Little v now) (not (is_live v.state)) _ _ (λ _. same v now _ refl refl refl)
    (λ _. either (Little v now) (not (is_between_hosts v p)) _ _ (λ _. same v now _ refl refl refl)
    (λ hosts. either (Little v now) (is_rfc (kind_of p.op)) _ _ (λ _. rfc_little v p now)
    (λ _. either (Little v now) (not (is_between_indices v p)) _ _ (λ _. same v now _ refl refl refl)
    (λ indices. by h hosts indices))))
  where
    by : (carries_ack (kind_of p.op) ≡ false) ⊎ (is_named v p ≡ false) → not (is_between_hosts v p) ≡ false
        → not (is_between_indices v p) ≡ false → Little v now (deliver_in v.state v p now)
    by (inl bare) hosts indices = in_little v p now v.state refl bare
    by (inr other) hosts indices = absurd (not_both (is_between_hosts v p) (is_between_indices v p) other hosts indices)

-- ---- connections that are over

-- what each test of a state says of one that isn't live
pub record IsDead (s : State) : Type 0 where
  pub not_opening : is_opening s ≡ false
  pub not_requested : is_requested s ≡ false
  pub not_open : is_open s ≡ false
  pub awaits_nobody : awaits_peer s ≡ false
  pub tells_no_close : tells_close s ≡ false

pub dead_is : (s : State) → is_live s ≡ false → IsDead s
dead_is st.RfcSent e = absurd (false≢true (sym e))
dead_is st.RfcReceived e = absurd (false≢true (sym e))
dead_is st.Open e = absurd (false≢true (sym e))
dead_is st.Inactive e =
    record { not_opening = refl; not_requested = refl; not_open = refl; awaits_nobody = refl; tells_no_close = refl }
dead_is st.Answered e =
    record { not_opening = refl; not_requested = refl; not_open = refl; awaits_nobody = refl; tells_no_close = refl }
dead_is st.ClsReceived e =
    record { not_opening = refl; not_requested = refl; not_open = refl; awaits_nobody = refl; tells_no_close = refl }
dead_is st.LosReceived e =
    record { not_opening = refl; not_requested = refl; not_open = refl; awaits_nobody = refl; tells_no_close = refl }
dead_is st.HostDown e =
    record { not_opening = refl; not_requested = refl; not_open = refl; awaits_nobody = refl; tells_no_close = refl }
dead_is st.Forwarded e =
    record { not_opening = refl; not_requested = refl; not_open = refl; awaits_nobody = refl; tells_no_close = refl }

module _ {A : Type 0} where
  abbrev Stays : Acted A → Type 0
  Stays acted = IsOver acted.view × (acted.packets ≡ [])

  never : (P : Acted A → Type 0) (b : Bool) (x y : Acted A) → b ≡ false → P y → P (if b then x else y)
  never P false x y h q = q
  never P true x y h q = absurd (false≢true (sym h))

  not_never : (P : Acted A → Type 0) (b : Bool) (x y : Acted A) → b ≡ false → P x → P (if not b then x else y)
  not_never P false x y h q = q
  not_never P true x y h q = absurd (false≢true (sym h))

nothing_read : (v : ConnView) (o : Option ItemView) → o ≡ None → IsOver v → Stays (read_at_end v o)
nothing_read v None e h = (h, refl)
nothing_read v (Some item) e h = absurd (cc)

nothing_due : (v : ConnView) (w r p : Bool) → w ≡ false → r ≡ false → p ≡ false → IsOver v
    → Stays
    (ticked_by (if w then due.HostDown else (if r then due.Resend else (if p then due.Probe else due.Nothing))) v)
nothing_due v false false false a b c h = (h, refl)
nothing_due v true r p a b c h = absurd (false≢true (sym a))
nothing_due v false true p a b c h = absurd (false≢true (sym b))
nothing_due v false false true a b c h = absurd (false≢true (sym c))

false_and : (a b : Bool) → a ≡ false → (a && b) ≡ false
false_and false b h = refl
false_and true b h = absurd (false≢true (sym h))

pub over_stays : OverStays
over_stays v (Request me peer contact start now) b h = absurd (false≢true (sym b))
over_stays v (TakeRequest rfc me now) b h = absurd (false≢true (sym b))
over_stays v (Accept start now) b h =
    never Stays (is_requested v.state) _ _ (dead_is v.state h.dead).not_requested (h, refl)
over_stays v (Answer bytes) b h =
    either Stays (nat_lt MAX_DATA (length bytes)) _ _ (λ _. (h, refl))
    (λ _. never Stays (is_requested v.state) _ _ (dead_is v.state h.dead).not_requested (h, refl))
over_stays v (Reject text) b h =
    either Stays (nat_lt MAX_DATA (length text)) _ _ (λ _. (h, refl))
    (λ _. never Stays (is_requested v.state) _ _ (dead_is v.state h.dead).not_requested (h, refl))
over_stays v (Deliver p now) b h = not_never Stays (is_live v.state) _ _ h.dead (h, refl)
over_stays v (Write op bytes now) b h = never Stays (is_open v.state) _ _ (dead_is v.state h.dead).not_open (h, refl)
over_stays v (Unc bytes) b h = never Stays (is_open v.state) _ _ (dead_is v.state h.dead).not_open (h, refl)
over_stays v Read b h =
    never Stays (is_opening v.state) _ _ (dead_is v.state h.dead).not_opening
    (never Stays (is_open v.state) _ _ (dead_is v.state h.dead).not_open (nothing_read v (front_of v) h.empty h))
over_stays v FinishRead b h =
    never Stays (is_opening v.state) _ _ (dead_is v.state h.dead).not_opening
    (never Stays (is_open v.state) _ _ (dead_is v.state h.dead).not_open (nothing_read v (front_of v) h.empty h))
over_stays v (Announce window) b h = never Stays (is_open v.state) _ _ (dead_is v.state h.dead).not_open (h, refl)
over_stays v (Close text) b h =
    either Stays (nat_lt MAX_DATA (length text)) _ _ (λ _. (h, refl))
    (λ _. (closed_over v, silent (tells_close v.state) _ (dead_is v.state h.dead).tells_no_close))
  where
    silent : (t : Bool) (p : PacketView) → t ≡ false → (if t then p ∷ [] else []) ≡ []
    silent false p e = refl
    silent true p e = absurd (false≢true (sym e))
over_stays v (Tick now) b h =
    let d = dead_is v.state h.dead in
    let u = at_moment v now in
    nothing_due u (is_down u) (is_resend_due u) (is_probe_due u) (false_and _ _ d.awaits_nobody)
    (false_and _ _ d.awaits_nobody) (false_and _ _ d.not_open) (record { dead = h.dead; empty = h.empty })

-- ---- refused calls

module _ {A : Type 0} (name : A → Reply) where
  abbrev Unchanged : ConnView → Acted A → Type 0
  Unchanged v acted = is_refused (name acted.answer) ≡ true → (acted.view ≡ v) × (acted.packets ≡ [])

refused_at_most : (v : ConnView) (most : Option ℕ) (item : ItemView) (t : ℕ)
    → Unchanged Wrote v (write_at_most v most item t)
refused_at_most v None item t = λ _. (refl, refl)
refused_at_most v (Some most) item t =
    either (Unchanged Wrote v) (nat_lt most (length item.body)) _ _ (λ _ _. (refl, refl))
    (λ _. either (Unchanged Wrote v) (has_window v.send) _ _ (λ _ r. absurd (false≢true r)) (λ _ _. (refl, refl)))

abbrev Plain : ConnView → Acted Outcome → Type 0
Plain v acted = Unchanged Did v acted

pub refused_is_same : RefusedIsSame
refused_is_same v (Request me peer contact start now) =
    either (Plain v) (nat_lt MAX_DATA (length contact)) _ _ (λ _ _. (refl, refl))
    (λ _. either (Plain v) (is_inactive v.state) _ _
    (λ _. either (Plain v) (me.address == 0 || peer == 0) _ _ (λ _ _. (refl, refl)) (λ _ r. absurd (false≢true r)))
    (λ _ _. (refl, refl)))
refused_is_same v (TakeRequest rfc me now) =
    either (Plain v) (is_inactive v.state) _ _
    (λ _. either (Plain v) (me.address == 0 || rfc.src == 0) _ _ (λ _ _. (refl, refl))
    (λ _. either (Plain v) (is_rfc (kind_of rfc.op)) _ _ (λ _ r. absurd (false≢true r)) (λ _ _. (refl, refl))))
    (λ _ _. (refl, refl))
refused_is_same v (Accept start now) =
    either (Plain v) (is_requested v.state) _ _ (λ _ r. absurd (false≢true r)) (λ _ _. (refl, refl))
refused_is_same v (Answer bytes) =
    either (Plain v) (nat_lt MAX_DATA (length bytes)) _ _ (λ _ _. (refl, refl))
    (λ _. either (Plain v) (is_requested v.state) _ _ (λ _ r. absurd (false≢true r)) (λ _ _. (refl, refl)))
refused_is_same v (Reject text) =
    either (Plain v) (nat_lt MAX_DATA (length text)) _ _ (λ _ _. (refl, refl))
    (λ _. either (Plain v) (is_requested v.state) _ _ (λ _ r. absurd (false≢true r)) (λ _ _. (refl, refl)))
refused_is_same v (Deliver p now) = λ r. absurd (false≢true r)
refused_is_same v (Write op bytes now) =
    either (Unchanged Wrote v) (is_open v.state) _ _
    (λ _. refused_at_most v (most_bytes (kind_of op)) (record { op = op; body = bytes }) (moment v now))
    (λ _ _. (refl, refl))
refused_is_same v (Unc bytes) =
    either (Plain v) (is_open v.state) _ _
    (λ _. either (Plain v) (nat_lt MAX_DATA (length bytes)) _ _ (λ _ _. (refl, refl))
    (λ _ r. absurd (false≢true r)))
    (λ _ _. (refl, refl))
refused_is_same v Read = λ r. absurd (false≢true r)
refused_is_same v FinishRead = λ r. absurd (false≢true r)
refused_is_same v (Announce window) =
    either (Plain v) (is_open v.state) _ _
    (λ _. either (Plain v) (nat_lt v.config.recv_cap window) _ _ (λ _ _. (refl, refl))
    (λ _ r. absurd (false≢true r)))
    (λ _ _. (refl, refl))
refused_is_same v (Close text) =
    either (Plain v) (nat_lt MAX_DATA (length text)) _ _ (λ _ _. (refl, refl)) (λ _ r. absurd (false≢true r))
refused_is_same v (Tick now) = λ r. absurd (false≢true r)

-- ---- the calls that end a connection

module _ (v : ConnView) where
  abbrev IsEnd : Acted Outcome → Type 0
  IsEnd acted = (IsOver acted.view ⊎ (acted.view ≡ v)) × AllByRecursion IsBare acted.packets

turned_away : (v : ConnView) (op : ℕ) (bytes : List ℕ) → (carries_ack (kind_of op) ≡ false)
    → is_rfc (kind_of op) ≡ false → IsEnd v (turn_away v op bytes)
turned_away v op bytes bare rfc =
    either (IsEnd v) (nat_lt MAX_DATA (length bytes)) _ _ (λ _. (inr refl, tt))
    (λ _. either (IsEnd v) (is_requested v.state) _ _ (λ _. (inl (closed_over v), ((bare, rfc), tt)))
    (λ _. (inr refl, tt)))

cls_bare : (v : ConnView) (text : List ℕ) (b : Bool) (p : PacketView) → IsBare p
    → AllByRecursion IsBare (if b then p ∷ [] else [])
cls_bare v text true p h = (h, tt)
cls_bare v text false p h = tt

pub ends_are_over : EndsAreOver
ends_are_over v (Answer bytes) e = turned_away v op_ans bytes refl refl
ends_are_over v (Reject text) e = turned_away v op_cls text refl refl
ends_are_over v (Close text) e =
    either (IsEnd v) (nat_lt MAX_DATA (length text)) _ _ (λ _. (inr refl, tt))
    (λ _. (inl (closed_over v), cls_bare v text (tells_close v.state) _ (refl, refl)))
ends_are_over v (Request me peer contact start now) e = absurd (false≢true e)
ends_are_over v (TakeRequest rfc me now) e = absurd (false≢true e)
ends_are_over v (Accept start now) e = absurd (false≢true e)
ends_are_over v (Deliver p now) e = absurd (false≢true e)
ends_are_over v (Write op bytes now) e = absurd (false≢true e)
ends_are_over v (Unc bytes) e = absurd (false≢true e)
ends_are_over v Read e = absurd (false≢true e)
ends_are_over v FinishRead e = absurd (false≢true e)
ends_are_over v (Announce window) e = absurd (false≢true e)
ends_are_over v (Tick now) e = absurd (false≢true e)
