-- The delivery table: what a packet that arrives makes of an end.
use Rattle.std.specs.Prelude.{ℕ, Bool, true, false, ◌&&◌, not, ◌==◌, if◌then◌else◌, [], Option, Some, None}
use Rattle.chaos_packet.specs.Item.{ItemView}
use Rattle.chaos_packet.specs.Opcode.{kind_of, is_rfc}
use Rattle.chaos_packet.specs.Packet.{PacketView, item_of, status_of}
use Rattle.chaos_packet.specs.declared.opcode.Kind.{Kind}
use Rattle.chaos_packet.specs.declared.opcode.Kind.TheVariants as kind
use Rattle.chaos_window.specs.Send.{after_acknowledgement, after_receipt, after_window}
use Rattle.chaos_window.specs.Receive.{clear_receive, started_receive, arrival_of, after_arrival}
use Rattle.chaos_window.specs.declared.arrival.Arrived.{Arrived}
use Rattle.chaos_window.specs.declared.arrival.Arrived.TheVariants as arr
use Rattle.chaos_conn.specs.declared.state.State.{State}
use Rattle.chaos_conn.specs.declared.state.State.TheVariants as st
use Rattle.chaos_conn.specs.declared.answers.Why.{Why}
use Rattle.chaos_conn.specs.declared.answers.Why.TheVariants as why
use Rattle.chaos_conn.specs.declared.answers.Delivered.{Delivered}
use Rattle.chaos_conn.specs.declared.answers.Delivered.TheVariants as answer
use Rattle.chaos_conn.specs.State.{is_live, is_requested}
use Rattle.chaos_conn.specs.View.{ConnView, heard_at}
use Rattle.chaos_conn.specs.Acted.{Acted, quietly}
use Rattle.chaos_conn.specs.Sending.{with_sts}

-- nothing is made of a packet
abbrev pub drop_for : ConnView → Why → Acted Delivered
drop_for v reason = quietly v (answer.Dropped reason)

-- ---- what a packet tells

-- with an acknowledgement taken
abbrev pub with_ack : ConnView → ℕ → ConnView
with_ack v ack = record v { send = after_acknowledgement v.send ack }

-- with an acknowledgement, a receipt and a window taken, in this order
abbrev pub with_status : ConnView → ℕ → ℕ × ℕ → ConnView
with_status v ack told =
    record v { send = after_window (after_receipt (after_acknowledgement v.send ack) told.0) told.1 }

-- with the peer heard, and the packet's acknowledgement taken
abbrev pub heard_with_ack : ConnView → PacketView → ℕ → ConnView
heard_with_ack v p now = with_ack (heard_at v now) p.ack

-- with the peer heard, and the packet's acknowledgement and status taken
abbrev pub heard_with_status : ConnView → PacketView → ℕ → ℕ × ℕ → ConnView
heard_with_status v p now told = with_status (heard_at v now) p.ack told

-- ---- an RFC

-- the index is known, and is this one
abbrev pub is_index : Option ℕ → ℕ → Bool
is_index None index = false
is_index (Some known) index = known == index

-- the request comes again: an open end tells its status
abbrev pub repeated_request : ConnView → State → Acted Delivered
repeated_request v st.Open = with_sts v answer.Duplicate
repeated_request v _ = quietly v answer.Duplicate

-- RFC: one is for an end that was asked, and is to be the request that it took
abbrev pub after_rfc : ConnView → PacketView → ℕ → Acted Delivered
after_rfc v p now =
    if v.asked then drop_for v why.BadOp
    else (if not (is_index v.peer_index p.src_index) then drop_for v why.Stranger
    else (if not (p.num == v.request) then drop_for v why.OtherNumber
    else repeated_request (heard_at v now) v.state))

-- ---- packets to an end that asked

-- the end is open: the packet's number was read as item 0, and its source index is the peer's
abbrev pub after_opening : ConnView → PacketView → ConnView
after_opening v p = record v {
  state = st.Open;
  peer_index = Some p.src_index;
  probed = v.last;
  recv = started_receive v.recv.cap p.num;
}

-- OPN with this status: it opens the end
abbrev pub after_opn_telling : ConnView → PacketView → ℕ → Option (ℕ × ℕ) → Acted Delivered
after_opn_telling v p now None = drop_for v why.BadStatus
after_opn_telling v p now (Some told) = with_sts (after_opening (heard_with_status v p now told) p) answer.Opened

abbrev pub after_opn : ConnView → PacketView → ℕ → Acted Delivered
after_opn v p now = after_opn_telling v p now (status_of p)

-- ANS: it answers the request, and ends the attempt
abbrev pub after_ans : ConnView → PacketView → ℕ → Acted Delivered
after_ans v p now = quietly (record (heard_at v now) { state = st.Answered }) (answer.Answered p)

-- FWD: it tells of another place to ask, and ends the attempt
abbrev pub after_fwd : ConnView → PacketView → ℕ → Acted Delivered
after_fwd v p now = quietly (record (heard_at v now) { state = st.Forwarded }) (answer.Forwarded p)

-- ---- packets that end any live end

-- the end is ended: items that are held stay readable, but a request that was not accepted is dropped
abbrev pub after_end : ConnView → State → ConnView
after_end v state = record v {
  state = state;
  recv = if is_requested v.state then clear_receive v.recv.cap else v.recv;
}

-- CLS: the peer closed, or refused
abbrev pub after_cls : ConnView → PacketView → ℕ → Acted Delivered
after_cls v p now = quietly (after_end (heard_at v now) st.ClsReceived) (answer.Closed p)

-- LOS: the peer's host knows no such connection
abbrev pub after_los : ConnView → PacketView → ℕ → Acted Delivered
after_los v p now = quietly (after_end (heard_at v now) st.LosReceived) (answer.Lost p)

-- ---- packets to an open end

-- an item that came is held, or else the peer is told the status
abbrev pub after_arrived : ConnView → Arrived → ℕ → ItemView → Acted Delivered
after_arrived v arr.Took number item = quietly (record v { recv = after_arrival v.recv number item }) answer.Took
after_arrived v arr.Duplicate number item = with_sts v answer.Duplicate
after_arrived v arr.Outside number item = with_sts v answer.Outside

abbrev pub after_item_came : ConnView → ℕ → ItemView → Acted Delivered
after_item_came v number item = after_arrived v (arrival_of v.recv number) number item

-- data
abbrev pub after_data : ConnView → PacketView → ℕ → Acted Delivered
after_data v p now = after_item_came (heard_with_ack v p now) p.num (item_of p)

-- EOF: it is held without its data bytes
abbrev pub after_eof : ConnView → PacketView → ℕ → Acted Delivered
after_eof v p now = after_item_came (heard_with_ack v p now) p.num (record { op = p.op; body = [] })

-- a second OPN with this status: its number isn't looked at
abbrev pub after_second_opn_telling : ConnView → PacketView → ℕ → Option (ℕ × ℕ) → Acted Delivered
after_second_opn_telling v p now None = drop_for v why.BadStatus
after_second_opn_telling v p now (Some told) = with_sts (heard_with_status v p now told) answer.Duplicate

abbrev pub after_second_opn : ConnView → PacketView → ℕ → Acted Delivered
after_second_opn v p now = after_second_opn_telling v p now (status_of p)

-- SNS: the peer asks for the status
abbrev pub after_sns : ConnView → PacketView → ℕ → Acted Delivered
after_sns v p now = with_sts (heard_with_ack v p now) answer.Probed

-- STS with this status
abbrev pub after_sts_telling : ConnView → PacketView → ℕ → Option (ℕ × ℕ) → Acted Delivered
after_sts_telling v p now None = drop_for v why.BadStatus
after_sts_telling v p now (Some told) = quietly (heard_with_status v p now told) answer.Status

abbrev pub after_sts : ConnView → PacketView → ℕ → Acted Delivered
after_sts v p now = after_sts_telling v p now (status_of p)

-- UNC: it is handed out, and kept nowhere
abbrev pub after_unc : ConnView → PacketView → ℕ → Acted Delivered
after_unc v p now = quietly (heard_at v now) (answer.Unc p)

-- ---- the table

-- RfcSent
abbrev pub deliver_asking : ConnView → PacketView → ℕ → Kind → Acted Delivered
deliver_asking v p now kind.Opn = after_opn v p now
deliver_asking v p now kind.Ans = after_ans v p now
deliver_asking v p now kind.Fwd = after_fwd v p now
deliver_asking v p now kind.Cls = after_cls v p now
deliver_asking v p now kind.Los = after_los v p now
deliver_asking v p now _ = drop_for v why.NotOpen

-- RfcReceived
abbrev pub deliver_requested : ConnView → PacketView → ℕ → Kind → Acted Delivered
deliver_requested v p now kind.Cls = after_cls v p now
deliver_requested v p now kind.Los = after_los v p now
deliver_requested v p now _ = drop_for v why.NotOpen

-- Open
abbrev pub deliver_open : ConnView → PacketView → ℕ → Kind → Acted Delivered
deliver_open v p now kind.Data = after_data v p now
deliver_open v p now kind.Eof = after_eof v p now
deliver_open v p now kind.Opn = after_second_opn v p now
deliver_open v p now kind.Sns = after_sns v p now
deliver_open v p now kind.Sts = after_sts v p now
deliver_open v p now kind.Unc = after_unc v p now
deliver_open v p now kind.Cls = after_cls v p now
deliver_open v p now kind.Los = after_los v p now
deliver_open v p now _ = drop_for v why.BadOp

-- any live end
abbrev pub deliver_in : State → ConnView → PacketView → ℕ → Acted Delivered
deliver_in st.RfcSent v p now = deliver_asking v p now (kind_of p.op)
deliver_in st.RfcReceived v p now = deliver_requested v p now (kind_of p.op)
deliver_in st.Open v p now = deliver_open v p now (kind_of p.op)
deliver_in _ v p now = drop_for v why.NotOpen

-- ---- the checks before the table

-- the packet is for the own address, from the peer's
abbrev pub is_between_hosts : ConnView → PacketView → Bool
is_between_hosts v p = p.dst == v.me.address && p.src == v.peer

-- the index is this one, or none is known
abbrev pub may_be_index : Option ℕ → ℕ → Bool
may_be_index None index = true
may_be_index (Some known) index = known == index

-- the packet is for the own index, from the peer's where that is known
abbrev pub is_between_indices : ConnView → PacketView → Bool
is_between_indices v p = p.dst_index == v.me.index && may_be_index v.peer_index p.src_index

-- The checks in their order; the first that applies decides. An RFC's destination index is not looked at.
abbrev pub act_deliver : ConnView → PacketView → ℕ → Acted Delivered
act_deliver v p now =
    if not (is_live v.state) then drop_for v why.NotOpen
    else (if not (is_between_hosts v p) then drop_for v why.Stranger
    else (if is_rfc (kind_of p.op) then after_rfc v p now
    else (if not (is_between_indices v p) then drop_for v why.Stranger
    else deliver_in v.state v p now)))
