-- A packet made of its header and its data.
use Rattle.std.specs.Prelude.{ℕ, List}
use Rattle.chaos_packet.specs.Packet.{PacketView}
use Rattle.chaos_packet.specs.declared.header.Header.{Header}

-- the packet with this header and these data, which no host forwarded
abbrev pub packet_of : Header → List ℕ → PacketView
packet_of header bytes = record {
  op = header.op;
  fwd = 0;
  dst = header.dst;
  dst_index = header.dst_index;
  src = header.src;
  src_index = header.src_index;
  num = header.num;
  ack = header.ack;
  body = bytes;
}
