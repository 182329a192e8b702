-- Each packet that a connection puts out carries its names.
use Rattle.std.proofs.Common.{◌≡◌, ℕ, ◌+◌, ◌*◌, Bool, true, false, not, ◌==◌, if◌then◌else◌, List, [], ◌∷◌, length, nat_lt, nat_le, Option, Some, None, refl, sym, ap, ◌∙◌, unwrap_or}
use Rattle.std.specs.List.{AllByRecursion}
use Rattle.std.proofs.lemmas.Bool.{false≢true}
use Rattle.chaos_packet.specs.Item.{ItemView}
use Rattle.chaos_packet.specs.Number.{num}
use Rattle.chaos_packet.specs.Opcode.{op_cls, op_ans, kind_of, is_rfc}
use Rattle.chaos_packet.specs.Packet.{PacketView, status_of, item_of}
use Rattle.chaos_packet.specs.declared.limits.TheConstants.{MAX_DATA}
use Rattle.chaos_packet.specs.declared.opcode.Kind.{Kind}
use Rattle.chaos_packet.specs.declared.opcode.Kind.TheVariants as kind
use Rattle.chaos_window.specs.Receive.{arrival_of, after_advance}
use Rattle.chaos_window.specs.Send.{next_of}
use Rattle.chaos_window.specs.declared.arrival.Arrived.{Arrived}
use Rattle.chaos_window.specs.declared.arrival.Arrived.TheVariants as arr
use Rattle.chaos_conn.specs.declared.state.State.{State}
use Rattle.chaos_conn.specs.declared.state.State.TheVariants as st
use Rattle.chaos_conn.specs.declared.time.Due.{Due}
use Rattle.chaos_conn.specs.declared.time.Due.TheVariants as due
use Rattle.chaos_conn.specs.State.{is_live, is_open, is_opening, is_requested, tells_close}
use Rattle.chaos_conn.specs.View.{ConnView, moment, heard_at}
use Rattle.chaos_conn.specs.Acted.{Acted, quietly}
use Rattle.chaos_conn.specs.declared.answers.ReadEnd.TheVariants as end
use Rattle.chaos_conn.specs.Sending.{carries_ack, packets_from, item_packet, with_sts}
use Rattle.chaos_conn.specs.Time.{ticked_by, due_of, at_moment}
use Rattle.chaos_conn.specs.Calls.{write_at_most, most_bytes, has_window, read_at_open, read_at_end, front_of}
use Rattle.chaos_conn.specs.Arriving.{act_deliver, is_between_hosts, is_between_indices, is_index, deliver_in, deliver_open, deliver_asking, deliver_requested, after_opn_telling, after_second_opn_telling, after_sts_telling, after_arrived, heard_with_ack, after_rfc, repeated_request}
use Rattle.chaos_conn.specs.Opening.{turn_away}
use Rattle.chaos_conn.specs.Act.Call.{Request, TakeRequest, Accept, Answer, Reject, Deliver, Write, Unc, Read, FinishRead, Announce, Close, Tick}
use Rattle.chaos_conn.specs.Names.{IsFrom, PutsItsNames}
use Rattle.chaos_conn.proofs.Alike.{not_rfc}

-- each packet of the call has the names of v
module _ {A : Type 0} where
  abbrev pub HasNames : ConnView → Acted A → Type 0
  HasNames v acted = AllByRecursion (IsFrom v acted.view.peer_index) acted.packets

  either : (P : Acted A → Type 0) (b : Bool) (x y : Acted A) → P x → P y → P (if b then x else y)
  either P true x y p q = p
  either P false x y p q = q

index_of_kind : (k : Kind) (index : ℕ) → carries_ack k ≡ true → (if is_rfc k then 0 else index) ≡ index
index_of_kind k index h = ap (λ b. if b then 0 else index) (not_rfc k h)

item_from : (v : ConnView) (number : ℕ) (item : ItemView) → IsFrom v v.peer_index (item_packet v number item)
item_from v number item =
    record { src = refl; src_index = refl; dst = refl; dst_index = index_of_kind (kind_of item.op) (unwrap_or v.peer_index 0) }

kept_from : (v : ConnView) (now number : ℕ) (items : List ItemView)
    → AllByRecursion (IsFrom v v.peer_index) (packets_from (at_moment v now) number items)
kept_from v now number [] = tt
kept_from v now number (item ∷ items) = (item_from v number item, kept_from v now (num number 1) items)

-- ---- the user's calls

at_most_from : (v : ConnView) (most : Option ℕ) (item : ItemView) (t : ℕ) → HasNames v (write_at_most v most item t)
at_most_from v None item t = tt
at_most_from v (Some most) item t =
    either (HasNames v) (nat_lt most (length item.body)) _ _ tt
    (either (HasNames v) (has_window v.send) _ _ (item_from v (next_of v.send) item, tt) tt)

open_front : (v : ConnView) (front : Option ItemView) → HasNames v (read_at_open v front)
open_front v None = tt
open_front v (Some item) =
    let w : ConnView = record v { recv = after_advance v.recv; untold = v.untold + 1 } in
    let told : HasNames v (with_sts w (end.Item item)) =
    (record { src = refl; src_index = refl; dst = refl; dst_index = λ _. refl }, tt) in
    either (HasNames v) (nat_le w.recv.window (3 * w.untold)) (with_sts w (end.Item item)) (quietly w (end.Item item))
    told tt

end_front : (v : ConnView) (front : Option ItemView) → HasNames v (read_at_end v front)
end_front v None = tt
end_front v (Some item) = tt

ticked_from : (v : ConnView) (now : ℕ) (d : Due) → HasNames v (ticked_by d (at_moment v now))
ticked_from v now due.HostDown = tt
ticked_from v now due.Resend = kept_from v now (num v.send.receipted 1) v.send.kept
ticked_from v now due.Probe = (record { src = refl; src_index = refl; dst = refl; dst_index = λ _. refl }, tt)
ticked_from v now due.Nothing = tt

away_from : (v : ConnView) (op : ℕ) (bytes : List ℕ) → carries_ack (kind_of op) ≡ false
    → HasNames v (turn_away v op bytes)
away_from v op bytes bare =
    either (HasNames v) (nat_lt MAX_DATA (length bytes)) _ _ tt
    (either (HasNames v) (is_requested v.state) _ _
    (record { src = refl; src_index = refl; dst = refl; dst_index = λ ack. absurd (false≢true (sym bare ∙ ack)) }, tt)
    tt)

-- ---- packets that come

opn_from : (v : ConnView) (p : PacketView) (now : ℕ) (told : Option (ℕ × ℕ))
    → HasNames v (after_opn_telling v p now told)
opn_from v p now None = tt
opn_from v p now (Some told) = (record { src = refl; src_index = refl; dst = refl; dst_index = λ _. refl }, tt)

second_opn_from : (v : ConnView) (p : PacketView) (now : ℕ) (told : Option (ℕ × ℕ))
    → HasNames v (after_second_opn_telling v p now told)
second_opn_from v p now None = tt
second_opn_from v p now (Some told) = (record { src = refl; src_index = refl; dst = refl; dst_index = λ _. refl }, tt)

sts_from : (v : ConnView) (p : PacketView) (now : ℕ) (told : Option (ℕ × ℕ))
    → HasNames v (after_sts_telling v p now told)
sts_from v p now None = tt
sts_from v p now (Some told) = tt

arrived_from : (v u : ConnView) (a : Arrived) (number : ℕ) (item : ItemView) → u.me ≡ v.me → u.peer ≡ v.peer
    → HasNames v (after_arrived u a number item)
arrived_from v u arr.Took number item m e = tt
arrived_from v u arr.Duplicate number item m e =
    (record { src = ap (λ z. z.address) m; src_index = ap (λ z. z.index) m; dst = e; dst_index = λ _. refl }, tt)
arrived_from v u arr.Outside number item m e =
    (record { src = ap (λ z. z.address) m; src_index = ap (λ z. z.index) m; dst = e; dst_index = λ _. refl }, tt)

asking_from : (v : ConnView) (p : PacketView) (now : ℕ) (k : Kind) → HasNames v (deliver_asking v p now k)
asking_from v p now kind.Opn = opn_from v p now (status_of p)
asking_from v p now kind.Rfc = tt
asking_from v p now kind.Cls = tt
asking_from v p now kind.Fwd = tt
asking_from v p now kind.Ans = tt
asking_from v p now kind.Sns = tt
asking_from v p now kind.Sts = tt
asking_from v p now kind.Los = tt
asking_from v p now kind.Lsn = tt
asking_from v p now kind.Eof = tt
asking_from v p now kind.Unc = tt
asking_from v p now kind.Data = tt
asking_from v p now kind.Other = tt

requested_from : (v : ConnView) (p : PacketView) (now : ℕ) (k : Kind) → HasNames v (deliver_requested v p now k)
requested_from v p now kind.Opn = tt
requested_from v p now kind.Rfc = tt
requested_from v p now kind.Cls = tt
requested_from v p now kind.Fwd = tt
requested_from v p now kind.Ans = tt
requested_from v p now kind.Sns = tt
requested_from v p now kind.Sts = tt
requested_from v p now kind.Los = tt
requested_from v p now kind.Lsn = tt
requested_from v p now kind.Eof = tt
requested_from v p now kind.Unc = tt
requested_from v p now kind.Data = tt
requested_from v p now kind.Other = tt

open_from : (v : ConnView) (p : PacketView) (now : ℕ) (k : Kind) → HasNames v (deliver_open v p now k)
open_from v p now kind.Opn = second_opn_from v p now (status_of p)
open_from v p now kind.Rfc = tt
open_from v p now kind.Cls = tt
open_from v p now kind.Fwd = tt
open_from v p now kind.Ans = tt
open_from v p now kind.Sns = (record { src = refl; src_index = refl; dst = refl; dst_index = λ _. refl }, tt)
open_from v p now kind.Sts = sts_from v p now (status_of p)
open_from v p now kind.Los = tt
open_from v p now kind.Lsn = tt
open_from v p now kind.Eof =
    arrived_from v (heard_with_ack v p now) (arrival_of v.recv p.num) p.num (record { op = p.op; body = [] }) refl refl
open_from v p now kind.Unc = tt
open_from v p now kind.Data =
    arrived_from v (heard_with_ack v p now) (arrival_of v.recv p.num) p.num (item_of p) refl refl
open_from v p now kind.Other = tt

in_from : (v : ConnView) (p : PacketView) (now : ℕ) (s : State) → HasNames v (deliver_in s v p now)
in_from v p now st.RfcSent = asking_from v p now (kind_of p.op)
in_from v p now st.RfcReceived = requested_from v p now (kind_of p.op)
in_from v p now st.Open = open_from v p now (kind_of p.op)
in_from v p now st.Inactive = tt
in_from v p now st.Answered = tt
in_from v p now st.ClsReceived = tt
in_from v p now st.LosReceived = tt
in_from v p now st.HostDown = tt
in_from v p now st.Forwarded = tt

repeated_from : (v : ConnView) (now : ℕ) (s : State) → HasNames v (repeated_request (heard_at v now) s)
repeated_from v now st.Open = (record { src = refl; src_index = refl; dst = refl; dst_index = λ _. refl }, tt)
repeated_from v now st.Inactive = tt
repeated_from v now st.RfcSent = tt
repeated_from v now st.RfcReceived = tt
repeated_from v now st.Answered = tt
repeated_from v now st.ClsReceived = tt
repeated_from v now st.LosReceived = tt
repeated_from v now st.HostDown = tt
repeated_from v now st.Forwarded = tt

rfc_from : (v : ConnView) (p : PacketView) (now : ℕ) → HasNames v (after_rfc v p now)
rfc_from v p now =
    either (HasNames v) v.asked _ _ tt (either (HasNames v) (not (is_index v.peer_index p.src_index)) _ _ tt
    (either (HasNames v) (not (p.num == v.request)) _ _ tt (repeated_from v now v.state)))

deliver_from : (v : ConnView) (p : PacketView) (now : ℕ) → HasNames v (act_deliver v p now)
deliver_from v p now =
    either (HasNames v) (not (is_live v.state)) _ _ tt (either (HasNames v) (not (is_between_hosts v p)) _ _ tt
    (either (HasNames v) (is_rfc (kind_of p.op)) _ _ (rfc_from v p now)
    (either (HasNames v) (not (is_between_indices v p)) _ _ tt (in_from v p now v.state))))

bare_names : (v : ConnView) (known : Option ℕ) (b : Bool) (p : PacketView) → IsFrom v known p
    → AllByRecursion (IsFrom v known) (if b then p ∷ [] else [])
bare_names v known true p h = (h, tt)
bare_names v known false p h = tt

pub puts_its_names : PutsItsNames
puts_its_names v (Request me peer contact start now) b = absurd (false≢true (sym b))
puts_its_names v (TakeRequest rfc me now) b = absurd (false≢true (sym b))
puts_its_names v (Accept start now) b =
    either (HasNames v) (is_requested v.state) _ _
    (record { src = refl; src_index = refl; dst = refl; dst_index = λ _. refl }, tt) tt
puts_its_names v (Answer bytes) b = away_from v op_ans bytes refl
puts_its_names v (Reject text) b = away_from v op_cls text refl
puts_its_names v (Deliver p now) b = deliver_from v p now
puts_its_names v (Write op bytes now) b =
    either (HasNames v) (is_open v.state) _ _
    (at_most_from v (most_bytes (kind_of op)) (record { op = op; body = bytes }) (moment v now)) tt
puts_its_names v (Unc bytes) b =
    either (HasNames v) (is_open v.state) _ _
    (either (HasNames v) (nat_lt MAX_DATA (length bytes)) _ _ tt
    (record { src = refl; src_index = refl; dst = refl; dst_index = λ ack. absurd (false≢true ack) }, tt))
    tt
puts_its_names v Read b =
    either (HasNames v) (is_opening v.state) _ _ tt
    (either (HasNames v) (is_open v.state) _ _ (open_front v (front_of v)) (end_front v (front_of v)))
puts_its_names v FinishRead b =
    either (HasNames v) (is_opening v.state) _ _ tt
    (either (HasNames v) (is_open v.state) _ _ (open_front v (front_of v)) (end_front v (front_of v)))
puts_its_names v (Announce window) b =
    either (HasNames v) (is_open v.state) _ _
    (either (HasNames v) (nat_lt v.config.recv_cap window) _ _ tt
    (record { src = refl; src_index = refl; dst = refl; dst_index = λ _. refl }, tt))
    tt
puts_its_names v (Close text) b =
    either (HasNames v) (nat_lt MAX_DATA (length text)) _ _ tt
    (bare_names v _ (tells_close v.state) _
    (record { src = refl; src_index = refl; dst = refl; dst_index = λ ack. absurd (false≢true ack) }))
puts_its_names v (Tick now) b = ticked_from v now (due_of (at_moment v now))
