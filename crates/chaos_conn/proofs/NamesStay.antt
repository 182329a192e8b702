-- A connection keeps its names.
use Rattle.std.proofs.Common.{◌≡◌, ℕ, ◌+◌, ◌*◌, Bool, true, false, ◌&&◌, not, ◌==◌, if◌then◌else◌, [], length, nat_lt, nat_le, Option, Some, None, refl, sym, ap, ◌∙◌, inl, inr, ◌⊎◌}
use Rattle.std.proofs.lemmas.Bool.{false≢true}
use Rattle.chaos_packet.specs.Item.{ItemView}
use Rattle.chaos_packet.specs.Opcode.{kind_of, is_rfc}
use Rattle.chaos_packet.specs.Packet.{PacketView, status_of, item_of}
use Rattle.chaos_packet.specs.declared.limits.TheConstants.{MAX_DATA}
use Rattle.chaos_packet.specs.declared.opcode.Kind.{Kind}
use Rattle.chaos_packet.specs.declared.opcode.Kind.TheVariants as kind
use Rattle.chaos_window.specs.Receive.{arrival_of, after_advance}
use Rattle.chaos_window.specs.declared.arrival.Arrived.{Arrived}
use Rattle.chaos_window.specs.declared.arrival.Arrived.TheVariants as arr
use Rattle.chaos_conn.specs.declared.state.State.{State}
use Rattle.chaos_conn.specs.declared.state.State.TheVariants as st
use Rattle.chaos_conn.specs.declared.time.Due.{Due}
use Rattle.chaos_conn.specs.declared.time.Due.TheVariants as due
use Rattle.chaos_conn.specs.State.{is_live, is_open, is_opening, is_requested}
use Rattle.chaos_conn.specs.View.{ConnView, moment, heard_at}
use Rattle.chaos_conn.specs.Acted.{Acted, quietly}
use Rattle.chaos_conn.specs.declared.answers.ReadEnd.TheVariants as end
use Rattle.chaos_conn.specs.Sending.{carries_ack, with_sts}
use Rattle.chaos_conn.specs.Time.{ticked_by, due_of, at_moment}
use Rattle.chaos_conn.specs.Calls.{write_at_most, most_bytes, has_window, read_at_open, read_at_end, front_of}
use Rattle.chaos_conn.specs.Arriving.{is_between_hosts, is_between_indices, is_index, deliver_in, deliver_open, deliver_asking, deliver_requested, after_opn_telling, after_second_opn_telling, after_sts_telling, after_arrived, heard_with_ack, after_rfc, repeated_request}
use Rattle.chaos_conn.specs.Act.Call.{Request, TakeRequest, Accept, Answer, Reject, Deliver, Write, Unc, Read, FinishRead, Announce, Close, Tick}
use Rattle.chaos_conn.specs.declared.answers.Delivered.{Delivered}
use Rattle.chaos_conn.specs.Names.{KeepsNames, Opens, Stays, is_named, is_opened, NamesStay, OpensOrStays}

-- the call keeps the names of v
module _ {A : Type 0} where
  abbrev Names : ConnView → Acted A → Type 0
  Names v acted = KeepsNames v acted.view

  either : (P : Acted A → Type 0) (b : Bool) (x y : Acted A) → P x → P y → P (if b then x else y)
  either P true x y p q = p
  either P false x y p q = q

-- ---- the user's calls

at_most_keeps : (v : ConnView) (most : Option ℕ) (item : ItemView) (t : ℕ) → Names v (write_at_most v most item t)
at_most_keeps v None item t = (refl, refl, refl)
at_most_keeps v (Some most) item t =
    either (Names v) (nat_lt most (length item.body)) _ _ (refl, refl, refl)
    (either (Names v) (has_window v.send) _ _ (refl, refl, refl) (refl, refl, refl))

open_front : (v : ConnView) (front : Option ItemView) → Names v (read_at_open v front)
open_front v None = (refl, refl, refl)
open_front v (Some item) =
    let w : ConnView = record v { recv = after_advance v.recv; untold = v.untold + 1 } in
    let told : Names v (with_sts w (end.Item item)) = (refl, refl, refl) in
    either (Names v) (nat_le w.recv.window (3 * w.untold)) (with_sts w (end.Item item)) (quietly w (end.Item item)) told
    (refl, refl, refl)

end_front : (v : ConnView) (front : Option ItemView) → Names v (read_at_end v front)
end_front v None = (refl, refl, refl)
end_front v (Some item) = (refl, refl, refl)

ticked_keeps : (v : ConnView) (now : ℕ) (d : Due) → Names v (ticked_by d (at_moment v now))
ticked_keeps v now due.HostDown = (refl, refl, refl)
ticked_keeps v now due.Resend = (refl, refl, refl)
ticked_keeps v now due.Probe = (refl, refl, refl)
ticked_keeps v now due.Nothing = (refl, refl, refl)

pub names_stay : NamesStay
names_stay v (Request me peer contact start now) b e d = absurd (false≢true (sym b))
names_stay v (TakeRequest rfc me now) b e d = absurd (false≢true (sym b))
names_stay v (Accept start now) b e d =
    either (Names v) (is_requested v.state) _ _ (refl, refl, refl) (refl, refl, refl)
names_stay v (Answer bytes) b e d = absurd (false≢true (sym e))
names_stay v (Reject text) b e d = absurd (false≢true (sym e))
names_stay v (Deliver p now) b e d = absurd (false≢true (sym d))
names_stay v (Write op bytes now) b e d =
    either (Names v) (is_open v.state) _ _
    (at_most_keeps v (most_bytes (kind_of op)) (record { op = op; body = bytes }) (moment v now)) (refl, refl, refl)
names_stay v (Unc bytes) b e d =
    either (Names v) (is_open v.state) _ _
    (either (Names v) (nat_lt MAX_DATA (length bytes)) _ _ (refl, refl, refl) (refl, refl, refl)) (refl, refl, refl)
names_stay v Read b e d =
    either (Names v) (is_opening v.state) _ _ (refl, refl, refl)
    (either (Names v) (is_open v.state) _ _ (open_front v (front_of v)) (end_front v (front_of v)))
names_stay v FinishRead b e d =
    either (Names v) (is_opening v.state) _ _ (refl, refl, refl)
    (either (Names v) (is_open v.state) _ _ (open_front v (front_of v)) (end_front v (front_of v)))
names_stay v (Announce window) b e d =
    either (Names v) (is_open v.state) _ _
    (either (Names v) (nat_lt v.config.recv_cap window) _ _ (refl, refl, refl) (refl, refl, refl))
    (refl, refl, refl)
names_stay v (Close text) b e d = absurd (false≢true (sym e))
names_stay v (Tick now) b e d = ticked_keeps v now (due_of (at_moment v now))

-- ---- packets that come

abbrev Either : ConnView → PacketView → Acted Delivered → Type 0
Either v p acted = Opens v p acted ⊎ Stays v p acted

-- nothing changes
same : (v : ConnView) (p : PacketView) (acted : Acted Delivered) → acted.view ≡ v → acted.packets ≡ []
    → is_opened acted.answer ≡ false → Either v p acted
same v p acted view packets shut =
    inr
    (record
    { opened = shut; names = (ap (λ w. w.me) view, ap (λ w. w.peer) view, ap (λ w. w.peer_index) view); asked = λ _ _. (view, packets); dead = λ _. (view, packets) })

-- at an end that is live, and hasn't asked or gets a bare packet
kept : (v : ConnView) (p : PacketView) (acted : Acted Delivered) (s : State) → v.state ≡ s → is_live s ≡ true
    → (s ≡ st.RfcSent → carries_ack (kind_of p.op) ≡ true → ⊥) → is_opened acted.answer ≡ false → Names v acted
    → Either v p acted
kept v p acted s is live apart shut names =
    inr
    (record
    { opened = shut; names = names; asked = λ asks ack. absurd (apart (sym is ∙ asks) ack); dead = λ dead. absurd (false≢true (sym dead ∙ ap is_live is ∙ live)) })

opened_by : (v : ConnView) (p : PacketView) (now : ℕ) (told : Option (ℕ × ℕ)) → v.state ≡ st.RfcSent
    → carries_ack (kind_of p.op) ≡ true → is_named v p ≡ true → Either v p (after_opn_telling v p now told)
opened_by v p now None is ack named = same v p _ refl refl refl
opened_by v p now (Some told) is ack named =
    inl (record { opened = refl; asked = is; ack = ack; named = named; me = refl; peer = refl; peer_index = refl })

asking : (v : ConnView) (p : PacketView) (now : ℕ) (k : Kind) → kind_of p.op ≡ k → v.state ≡ st.RfcSent
    → is_named v p ≡ true → Either v p (deliver_asking v p now k)
asking v p now kind.Opn k is named = opened_by v p now (status_of p) is (ap carries_ack k) named
asking v p now kind.Ans k is named =
    kept v p _ st.RfcSent is refl (λ _ ack. false≢true (sym (ap carries_ack k) ∙ ack)) refl (refl, refl, refl)
asking v p now kind.Fwd k is named =
    kept v p _ st.RfcSent is refl (λ _ ack. false≢true (sym (ap carries_ack k) ∙ ack)) refl (refl, refl, refl)
asking v p now kind.Cls k is named =
    kept v p _ st.RfcSent is refl (λ _ ack. false≢true (sym (ap carries_ack k) ∙ ack)) refl (refl, refl, refl)
asking v p now kind.Los k is named =
    kept v p _ st.RfcSent is refl (λ _ ack. false≢true (sym (ap carries_ack k) ∙ ack)) refl (refl, refl, refl)
asking v p now kind.Rfc k is named = same v p _ refl refl refl
asking v p now kind.Sns k is named = same v p _ refl refl refl
asking v p now kind.Sts k is named = same v p _ refl refl refl
asking v p now kind.Lsn k is named = same v p _ refl refl refl
asking v p now kind.Eof k is named = same v p _ refl refl refl
asking v p now kind.Unc k is named = same v p _ refl refl refl
asking v p now kind.Data k is named = same v p _ refl refl refl
asking v p now kind.Other k is named = same v p _ refl refl refl

pending : (v : ConnView) (p : PacketView) (now : ℕ) (k : Kind) → v.state ≡ st.RfcReceived
    → Either v p (deliver_requested v p now k)
pending v p now k is = by k
  where
    went : (acted : Acted Delivered) → is_opened acted.answer ≡ false → Names v acted → Either v p acted
    went acted shut names =
        kept v p acted st.RfcReceived is refl (λ q _. let no : st.RfcReceived ≡ st.RfcSent = q in absurd (cc)) shut
        names

    by : (k : Kind) → Either v p (deliver_requested v p now k)
    by kind.Cls = went _ refl (refl, refl, refl)
    by kind.Los = went _ refl (refl, refl, refl)
    by kind.Rfc = went _ refl (refl, refl, refl)
    by kind.Opn = went _ refl (refl, refl, refl)
    by kind.Fwd = went _ refl (refl, refl, refl)
    by kind.Ans = went _ refl (refl, refl, refl)
    by kind.Sns = went _ refl (refl, refl, refl)
    by kind.Sts = went _ refl (refl, refl, refl)
    by kind.Lsn = went _ refl (refl, refl, refl)
    by kind.Eof = went _ refl (refl, refl, refl)
    by kind.Unc = went _ refl (refl, refl, refl)
    by kind.Data = went _ refl (refl, refl, refl)
    by kind.Other = went _ refl (refl, refl, refl)

open_end : (v : ConnView) (p : PacketView) (now : ℕ) (k : Kind) → v.state ≡ st.Open
    → Either v p (deliver_open v p now k)
open_end v p now k is = by k
  where
    went : (acted : Acted Delivered) → is_opened acted.answer ≡ false → Names v acted → Either v p acted
    went acted shut names =
        kept v p acted st.Open is refl (λ q _. let no : st.Open ≡ st.RfcSent = q in absurd (cc)) shut names

    arrived : (u : ConnView) (a : Arrived) (number : ℕ) (item : ItemView) → KeepsNames v u
        → Either v p (after_arrived u a number item)
    arrived u arr.Took number item n = went _ refl n
    arrived u arr.Duplicate number item n = went _ refl n
    arrived u arr.Outside number item n = went _ refl n

    second : (told : Option (ℕ × ℕ)) → Either v p (after_second_opn_telling v p now told)
    second None = went _ refl (refl, refl, refl)
    second (Some told) = went _ refl (refl, refl, refl)

    status : (told : Option (ℕ × ℕ)) → Either v p (after_sts_telling v p now told)
    status None = went _ refl (refl, refl, refl)
    status (Some told) = went _ refl (refl, refl, refl)

    by : (k : Kind) → Either v p (deliver_open v p now k)
    by kind.Data = arrived (heard_with_ack v p now) (arrival_of v.recv p.num) p.num (item_of p) (refl, refl, refl)
    by kind.Eof =
        arrived (heard_with_ack v p now) (arrival_of v.recv p.num) p.num (record { op = p.op; body = [] })
        (refl, refl, refl)
    by kind.Opn = second (status_of p)
    by kind.Sts = status (status_of p)
    by kind.Sns = went _ refl (refl, refl, refl)
    by kind.Unc = went _ refl (refl, refl, refl)
    by kind.Cls = went _ refl (refl, refl, refl)
    by kind.Los = went _ refl (refl, refl, refl)
    by kind.Rfc = went _ refl (refl, refl, refl)
    by kind.Fwd = went _ refl (refl, refl, refl)
    by kind.Ans = went _ refl (refl, refl, refl)
    by kind.Lsn = went _ refl (refl, refl, refl)
    by kind.Other = went _ refl (refl, refl, refl)

came_in : (v : ConnView) (p : PacketView) (now : ℕ) (s : State) → v.state ≡ s → is_named v p ≡ true
    → Either v p (deliver_in s v p now)
came_in v p now st.RfcSent is named = asking v p now (kind_of p.op) refl is named
came_in v p now st.RfcReceived is named = pending v p now (kind_of p.op) is
came_in v p now st.Open is named = open_end v p now (kind_of p.op) is
came_in v p now st.Inactive is named = same v p _ refl refl refl
came_in v p now st.Answered is named = same v p _ refl refl refl
came_in v p now st.ClsReceived is named = same v p _ refl refl refl
came_in v p now st.LosReceived is named = same v p _ refl refl refl
came_in v p now st.HostDown is named = same v p _ refl refl refl
came_in v p now st.Forwarded is named = same v p _ refl refl refl

-- an RFC carries no acknowledgement
rfc_bare : (k : Kind) → is_rfc k ≡ true → carries_ack k ≡ false
rfc_bare kind.Rfc h = refl
rfc_bare kind.Opn h = absurd (false≢true h)
rfc_bare kind.Cls h = absurd (false≢true h)
rfc_bare kind.Fwd h = absurd (false≢true h)
rfc_bare kind.Ans h = absurd (false≢true h)
rfc_bare kind.Sns h = absurd (false≢true h)
rfc_bare kind.Sts h = absurd (false≢true h)
rfc_bare kind.Los h = absurd (false≢true h)
rfc_bare kind.Lsn h = absurd (false≢true h)
rfc_bare kind.Eof h = absurd (false≢true h)
rfc_bare kind.Unc h = absurd (false≢true h)
rfc_bare kind.Data h = absurd (false≢true h)
rfc_bare kind.Other h = absurd (false≢true h)

by_test : (P : Acted Delivered → Type 0) (b : Bool) (x y : Acted Delivered) → (b ≡ true → P x) → (b ≡ false → P y)
    → P (if b then x else y)
by_test P true x y p q = p refl
by_test P false x y p q = q refl

came_rfc : (v : ConnView) (p : PacketView) (now : ℕ) → is_live v.state ≡ true → is_rfc (kind_of p.op) ≡ true
    → Either v p (after_rfc v p now)
came_rfc v p now live rfc =
    by_test (Either v p) v.asked _ _ (λ _. same v p _ refl refl refl)
    (λ _. by_test (Either v p) (not (is_index v.peer_index p.src_index)) _ _ (λ _. same v p _ refl refl refl)
    (λ _. by_test (Either v p) (not (p.num == v.request)) _ _ (λ _. same v p _ refl refl refl)
    (λ _. again v.state refl)))
  where
    went : (s : State) (acted : Acted Delivered) → v.state ≡ s → is_opened acted.answer ≡ false → Names v acted
        → Either v p acted
    went s acted is shut names =
        kept v p acted s is (sym (ap is_live is) ∙ live) (λ _ ack. false≢true (sym (rfc_bare (kind_of p.op) rfc) ∙ ack))
        shut names

    again : (s : State) → v.state ≡ s → Either v p (repeated_request (heard_at v now) s)
    again st.Open is = went st.Open _ is refl (refl, refl, refl)
    again st.Inactive is = went st.Inactive _ is refl (refl, refl, refl)
    again st.RfcSent is = went st.RfcSent _ is refl (refl, refl, refl)
    again st.RfcReceived is = went st.RfcReceived _ is refl (refl, refl, refl)
    again st.Answered is = went st.Answered _ is refl (refl, refl, refl)
    again st.ClsReceived is = went st.ClsReceived _ is refl (refl, refl, refl)
    again st.LosReceived is = went st.LosReceived _ is refl (refl, refl, refl)
    again st.HostDown is = went st.HostDown _ is refl (refl, refl, refl)
    again st.Forwarded is = went st.Forwarded _ is refl (refl, refl, refl)

unnot : (b : Bool) → not b ≡ false → b ≡ true
unnot true h = refl
unnot false h = absurd (false≢true (sym h))

from_both : (a b : Bool) → a ≡ true → b ≡ true → (a && b) ≡ true
from_both true true p q = refl
from_both true false p q = absurd (false≢true q)
from_both false b p q = absurd (false≢true p)

pub opens_or_stays : OpensOrStays
opens_or_stays v p now =
    by_test (Either v p) (not (is_live v.state)) _ _ (λ _. same v p _ refl refl refl)
    (λ live. by_test (Either v p) (not (is_between_hosts v p)) _ _ (λ _. same v p _ refl refl refl)
    (λ hosts. by_test (Either v p) (is_rfc (kind_of p.op)) _ _ (λ rfc. came_rfc v p now (unnot _ live) rfc)
    (λ _. by_test (Either v p) (not (is_between_indices v p)) _ _ (λ _. same v p _ refl refl refl)
    (λ indices. came_in v p now v.state refl (from_both _ _ (unnot _ hosts) (unnot _ indices))))))
