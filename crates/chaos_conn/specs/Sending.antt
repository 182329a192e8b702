-- The packets that an end sends.
use Rattle.std.specs.Prelude.{ℕ, ◌==◌, Bool, true, false, if◌then◌else◌, List, [], ◌∷◌, length, unwrap_or}
use Rattle.chaos_packet.specs.Header.{packet_of}
use Rattle.chaos_packet.specs.Number.{num}
use Rattle.chaos_packet.specs.Item.{ItemView}
use Rattle.chaos_packet.specs.Opcode.{op_sns, op_sts, kind_of, is_rfc}
use Rattle.chaos_packet.specs.Packet.{PacketView}
use Rattle.chaos_packet.specs.Words.{halves}
use Rattle.chaos_packet.specs.declared.header.Header.{Header}
use Rattle.chaos_packet.specs.declared.opcode.Kind.{Kind}
use Rattle.chaos_packet.specs.declared.opcode.Kind.TheVariants as kind
use Rattle.chaos_window.specs.Send.{after_push, next_of}
use Rattle.chaos_window.specs.Receive.{receipt_of}
use Rattle.chaos_conn.specs.View.{ConnView}
use Rattle.chaos_conn.specs.Acted.{Acted}

-- Data, EOF, OPN, SNS and STS carry the acknowledgement.
abbrev pub carries_ack : Kind → Bool
carries_ack kind.Opn = true
carries_ack kind.Sns = true
carries_ack kind.Sts = true
carries_ack kind.Eof = true
carries_ack kind.Data = true
carries_ack _ = false

-- the header of a packet from this end to its peer: its destination index is 0 where the peer's is not known
abbrev pub header_to_peer : ConnView → ℕ → ℕ → ℕ → Header
header_to_peer v op number ack = record {
  op = op;
  dst = v.peer;
  dst_index = unwrap_or v.peer_index 0;
  src = v.me.address;
  src_index = v.me.index;
  num = number;
  ack = ack;
}

-- a packet from this end to its peer, which was not forwarded
abbrev pub packet_to_peer : ConnView → ℕ → ℕ → ℕ → List ℕ → PacketView
packet_to_peer v op number ack body = packet_of (header_to_peer v op number ack) body

-- an uncontrolled packet, which has no number and tells nothing
abbrev pub untelling_packet : ConnView → ℕ → List ℕ → PacketView
untelling_packet v op body = packet_to_peer v op 0 0 body

-- the two words of a status: what arrived without a gap, and the window that the end announces
abbrev pub status_body : ConnView → List ℕ
status_body v = halves (receipt_of v.recv ∷ v.recv.window ∷ [])

-- the STS of this end: its status, and the acknowledgement, which tells what its user read
abbrev pub sts_of : ConnView → PacketView
sts_of v = packet_to_peer v op_sts 0 v.recv.read (status_body v)

-- the SNS of this end
abbrev pub sns_of : ConnView → PacketView
sns_of v = packet_to_peer v op_sns 0 v.recv.read []

-- the acknowledgement that an item is sent with
abbrev pub ack_with : ConnView → ItemView → ℕ
ack_with v item = if carries_ack (kind_of item.op) then v.recv.read else 0

-- the destination index that an item is sent with: that of an RFC is 0
abbrev pub index_with : ConnView → ItemView → ℕ
index_with v item = if is_rfc (kind_of item.op) then 0 else unwrap_or v.peer_index 0

-- an item as a packet with a number, and the present acknowledgement where it carries one
abbrev pub item_packet : ConnView → ℕ → ItemView → PacketView
item_packet v number item =
    record (packet_to_peer v item.op number (ack_with v item) item.body) { dst_index = index_with v item }

-- items as packets, numbered one after the other
abbrev pub packets_from : ConnView → ℕ → List ItemView → List PacketView
packets_from v number [] = []
packets_from v number (item ∷ items) = item_packet v number item ∷ packets_from v (num number 1) items

-- all kept items as packets, in order, each with its own number
abbrev pub all_kept : ConnView → List PacketView
all_kept v = packets_from v (num v.send.receipted 1) v.send.kept

-- after an item was sent: it is kept, and where nothing was, the time to send it again runs from now
abbrev pub after_item : ConnView → ItemView → ConnView
after_item v item = record v {
  resent = if length v.send.kept == 0 then v.last else v.resent;
  send = after_push v.send item.op item.body;
}

module _ {A : Type 0} where
  -- a call that sends an item, with the next number
  abbrev pub with_item : ConnView → ItemView → A → Acted A
  with_item v item answer = record {
    view = after_item v item;
    packets = item_packet v (next_of v.send) item ∷ [];
    answer = answer;
  }

  -- a call that sends an STS, which tells all that was read
  abbrev pub with_sts : ConnView → A → Acted A
  with_sts v answer = record {
    view = record v { untold = 0 };
    packets = sts_of v ∷ [];
    answer = answer;
  }
