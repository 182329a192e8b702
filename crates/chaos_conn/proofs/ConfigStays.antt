-- No call changes the configuration of a connection.
use Rattle.std.proofs.Common.{◌≡◌, ℕ, ◌+◌, ◌*◌, Bool, true, false, ◌||◌, not, ◌==◌, if◌then◌else◌, List, [], length, nat_lt, nat_le, Option, Some, None, refl}
use Rattle.chaos_packet.specs.Item.{ItemView}
use Rattle.chaos_packet.specs.Opcode.{op_cls, op_ans, kind_of, is_rfc}
use Rattle.chaos_packet.specs.Packet.{PacketView, status_of, item_of}
use Rattle.chaos_packet.specs.declared.limits.TheConstants.{MAX_DATA}
use Rattle.chaos_packet.specs.declared.opcode.Kind.{Kind}
use Rattle.chaos_packet.specs.declared.opcode.Kind.TheVariants as kind
use Rattle.chaos_window.specs.Receive.{arrival_of, after_advance}
use Rattle.chaos_window.specs.declared.arrival.Arrived.{Arrived}
use Rattle.chaos_window.specs.declared.arrival.Arrived.TheVariants as arr
use Rattle.chaos_conn.specs.declared.state.State.{State}
use Rattle.chaos_conn.specs.declared.state.State.TheVariants as st
use Rattle.chaos_conn.specs.declared.time.Due.{Due}
use Rattle.chaos_conn.specs.declared.time.Due.TheVariants as due
use Rattle.chaos_conn.specs.State.{is_live, is_open, is_opening, is_requested, is_inactive}
use Rattle.chaos_conn.specs.View.{ConnView, moment, heard_at}
use Rattle.chaos_conn.specs.Acted.{Acted, quietly}
use Rattle.chaos_conn.specs.declared.answers.ReadEnd.TheVariants as end
use Rattle.chaos_conn.specs.Sending.{with_sts}
use Rattle.chaos_conn.specs.Time.{ticked_by, due_of, at_moment}
use Rattle.chaos_conn.specs.Calls.{write_at_most, most_bytes, has_window, read_at_open, read_at_end, front_of}
use Rattle.chaos_conn.specs.Arriving.{act_deliver, is_between_hosts, is_between_indices, is_index, deliver_in, deliver_open, deliver_asking, deliver_requested, after_opn_telling, after_second_opn_telling, after_sts_telling, after_arrived, heard_with_ack, after_rfc, repeated_request}
use Rattle.chaos_conn.specs.Opening.{turn_away}
use Rattle.chaos_conn.specs.Act.Call.{Request, TakeRequest, Accept, Answer, Reject, Deliver, Write, Unc, Read, FinishRead, Announce, Close, Tick}
use Rattle.chaos_conn.specs.Names.{ConfigStays}

-- the call keeps the configuration of v
module _ {A : Type 0} where
  abbrev KeepsConfig : ConnView → Acted A → Type 0
  KeepsConfig v acted = acted.view.config ≡ v.config

  either : (P : Acted A → Type 0) (b : Bool) (x y : Acted A) → P x → P y → P (if b then x else y)
  either P true x y p q = p
  either P false x y p q = q

-- ---- the user's calls

at_most_keeps : (v : ConnView) (most : Option ℕ) (item : ItemView) (t : ℕ) → KeepsConfig v (write_at_most v most item t)
at_most_keeps v None item t = refl
at_most_keeps v (Some most) item t =
    either (KeepsConfig v) (nat_lt most (length item.body)) _ _ refl
    (either (KeepsConfig v) (has_window v.send) _ _ refl refl)

open_front : (v : ConnView) (front : Option ItemView) → KeepsConfig v (read_at_open v front)
open_front v None = refl
open_front v (Some item) =
    let w : ConnView = record v { recv = after_advance v.recv; untold = v.untold + 1 } in
    let told : KeepsConfig v (with_sts w (end.Item item)) = refl in
    either (KeepsConfig v) (nat_le w.recv.window (3 * w.untold)) (with_sts w (end.Item item))
    (quietly w (end.Item item)) told refl

end_front : (v : ConnView) (front : Option ItemView) → KeepsConfig v (read_at_end v front)
end_front v None = refl
end_front v (Some item) = refl

ticked_keeps : (v : ConnView) (now : ℕ) (d : Due) → KeepsConfig v (ticked_by d (at_moment v now))
ticked_keeps v now due.HostDown = refl
ticked_keeps v now due.Resend = refl
ticked_keeps v now due.Probe = refl
ticked_keeps v now due.Nothing = refl

away_keeps : (v : ConnView) (op : ℕ) (bytes : List ℕ) → KeepsConfig v (turn_away v op bytes)
away_keeps v op bytes =
    either (KeepsConfig v) (nat_lt MAX_DATA (length bytes)) _ _ refl
    (either (KeepsConfig v) (is_requested v.state) _ _ refl refl)

-- ---- packets that come

opn_keeps : (v : ConnView) (p : PacketView) (now : ℕ) (told : Option (ℕ × ℕ))
    → KeepsConfig v (after_opn_telling v p now told)
opn_keeps v p now None = refl
opn_keeps v p now (Some told) = refl

second_opn_keeps : (v : ConnView) (p : PacketView) (now : ℕ) (told : Option (ℕ × ℕ))
    → KeepsConfig v (after_second_opn_telling v p now told)
second_opn_keeps v p now None = refl
second_opn_keeps v p now (Some told) = refl

sts_keeps : (v : ConnView) (p : PacketView) (now : ℕ) (told : Option (ℕ × ℕ))
    → KeepsConfig v (after_sts_telling v p now told)
sts_keeps v p now None = refl
sts_keeps v p now (Some told) = refl

arrived_keeps : (v u : ConnView) (a : Arrived) (number : ℕ) (item : ItemView) → u.config ≡ v.config
    → KeepsConfig v (after_arrived u a number item)
arrived_keeps v u arr.Took number item e = e
arrived_keeps v u arr.Duplicate number item e = e
arrived_keeps v u arr.Outside number item e = e

asking_keeps : (v : ConnView) (p : PacketView) (now : ℕ) (k : Kind) → KeepsConfig v (deliver_asking v p now k)
asking_keeps v p now kind.Opn = opn_keeps v p now (status_of p)
asking_keeps v p now kind.Rfc = refl
asking_keeps v p now kind.Cls = refl
asking_keeps v p now kind.Fwd = refl
asking_keeps v p now kind.Ans = refl
asking_keeps v p now kind.Sns = refl
asking_keeps v p now kind.Sts = refl
asking_keeps v p now kind.Los = refl
asking_keeps v p now kind.Lsn = refl
asking_keeps v p now kind.Eof = refl
asking_keeps v p now kind.Unc = refl
asking_keeps v p now kind.Data = refl
asking_keeps v p now kind.Other = refl

requested_keeps : (v : ConnView) (p : PacketView) (now : ℕ) (k : Kind) → KeepsConfig v (deliver_requested v p now k)
requested_keeps v p now kind.Opn = refl
requested_keeps v p now kind.Rfc = refl
requested_keeps v p now kind.Cls = refl
requested_keeps v p now kind.Fwd = refl
requested_keeps v p now kind.Ans = refl
requested_keeps v p now kind.Sns = refl
requested_keeps v p now kind.Sts = refl
requested_keeps v p now kind.Los = refl
requested_keeps v p now kind.Lsn = refl
requested_keeps v p now kind.Eof = refl
requested_keeps v p now kind.Unc = refl
requested_keeps v p now kind.Data = refl
requested_keeps v p now kind.Other = refl

open_keeps : (v : ConnView) (p : PacketView) (now : ℕ) (k : Kind) → KeepsConfig v (deliver_open v p now k)
open_keeps v p now kind.Opn = second_opn_keeps v p now (status_of p)
open_keeps v p now kind.Rfc = refl
open_keeps v p now kind.Cls = refl
open_keeps v p now kind.Fwd = refl
open_keeps v p now kind.Ans = refl
open_keeps v p now kind.Sns = refl
open_keeps v p now kind.Sts = sts_keeps v p now (status_of p)
open_keeps v p now kind.Los = refl
open_keeps v p now kind.Lsn = refl
open_keeps v p now kind.Eof =
    arrived_keeps v (heard_with_ack v p now) (arrival_of v.recv p.num) p.num (record { op = p.op; body = [] }) refl
open_keeps v p now kind.Unc = refl
open_keeps v p now kind.Data = arrived_keeps v (heard_with_ack v p now) (arrival_of v.recv p.num) p.num (item_of p) refl
open_keeps v p now kind.Other = refl

in_keeps : (v : ConnView) (p : PacketView) (now : ℕ) (s : State) → KeepsConfig v (deliver_in s v p now)
in_keeps v p now st.RfcSent = asking_keeps v p now (kind_of p.op)
in_keeps v p now st.RfcReceived = requested_keeps v p now (kind_of p.op)
in_keeps v p now st.Open = open_keeps v p now (kind_of p.op)
in_keeps v p now st.Inactive = refl
in_keeps v p now st.Answered = refl
in_keeps v p now st.ClsReceived = refl
in_keeps v p now st.LosReceived = refl
in_keeps v p now st.HostDown = refl
in_keeps v p now st.Forwarded = refl

repeated_keeps : (v : ConnView) (now : ℕ) (s : State) → KeepsConfig v (repeated_request (heard_at v now) s)
repeated_keeps v now st.Open = refl
repeated_keeps v now st.Inactive = refl
repeated_keeps v now st.RfcSent = refl
repeated_keeps v now st.RfcReceived = refl
repeated_keeps v now st.Answered = refl
repeated_keeps v now st.ClsReceived = refl
repeated_keeps v now st.LosReceived = refl
repeated_keeps v now st.HostDown = refl
repeated_keeps v now st.Forwarded = refl

rfc_keeps : (v : ConnView) (p : PacketView) (now : ℕ) → KeepsConfig v (after_rfc v p now)
rfc_keeps v p now =
    either (KeepsConfig v) v.asked _ _ refl (either (KeepsConfig v) (not (is_index v.peer_index p.src_index)) _ _ refl
    (either (KeepsConfig v) (not (p.num == v.request)) _ _ refl (repeated_keeps v now v.state)))

deliver_keeps : (v : ConnView) (p : PacketView) (now : ℕ) → KeepsConfig v (act_deliver v p now)
deliver_keeps v p now =
    either (KeepsConfig v) (not (is_live v.state)) _ _ refl
    (either (KeepsConfig v) (not (is_between_hosts v p)) _ _ refl
    (either (KeepsConfig v) (is_rfc (kind_of p.op)) _ _ (rfc_keeps v p now)
    (either (KeepsConfig v) (not (is_between_indices v p)) _ _ refl (in_keeps v p now v.state))))

pub config_stays : ConfigStays
config_stays v (Request me peer contact start now) =
    either (KeepsConfig v) (nat_lt MAX_DATA (length contact)) _ _ refl
    (either (KeepsConfig v) (is_inactive v.state) _ _
    (either (KeepsConfig v) (me.address == 0 || peer == 0) _ _ refl refl) refl)
config_stays v (TakeRequest rfc me now) =
    either (KeepsConfig v) (is_inactive v.state) _ _
    (either (KeepsConfig v) (me.address == 0 || rfc.src == 0) _ _ refl
    (either (KeepsConfig v) (is_rfc (kind_of rfc.op)) _ _ refl refl))
    refl
config_stays v (Accept start now) = either (KeepsConfig v) (is_requested v.state) _ _ refl refl
config_stays v (Answer bytes) = away_keeps v op_ans bytes
config_stays v (Reject text) = away_keeps v op_cls text
config_stays v (Deliver p now) = deliver_keeps v p now
config_stays v (Write op bytes now) =
    either (KeepsConfig v) (is_open v.state) _ _
    (at_most_keeps v (most_bytes (kind_of op)) (record { op = op; body = bytes }) (moment v now)) refl
config_stays v (Unc bytes) =
    either (KeepsConfig v) (is_open v.state) _ _ (either (KeepsConfig v) (nat_lt MAX_DATA (length bytes)) _ _ refl refl)
    refl
config_stays v Read =
    either (KeepsConfig v) (is_opening v.state) _ _ refl
    (either (KeepsConfig v) (is_open v.state) _ _ (open_front v (front_of v)) (end_front v (front_of v)))
config_stays v FinishRead =
    either (KeepsConfig v) (is_opening v.state) _ _ refl
    (either (KeepsConfig v) (is_open v.state) _ _ (open_front v (front_of v)) (end_front v (front_of v)))
config_stays v (Announce window) =
    either (KeepsConfig v) (is_open v.state) _ _
    (either (KeepsConfig v) (nat_lt v.config.recv_cap window) _ _ refl refl) refl
config_stays v (Close text) = either (KeepsConfig v) (nat_lt MAX_DATA (length text)) _ _ refl refl
config_stays v (Tick now) = ticked_keeps v now (due_of (at_moment v now))
