-- What became of a packet, with the packet where it is handed out.
use Rattle.chaos_packet.specs.Packet.{PacketView}
use Rattle.chaos_conn.specs.declared.answers.Disposition.{Disposition}
use Rattle.chaos_conn.specs.declared.answers.Disposition.TheVariants as disposition
use Rattle.chaos_conn.specs.declared.answers.Delivered.{Delivered}
use Rattle.chaos_conn.specs.declared.answers.Delivered.TheVariants as answer

abbrev pub with_packet : Disposition → PacketView → Delivered
with_packet disposition.Took p = answer.Took
with_packet disposition.Duplicate p = answer.Duplicate
with_packet disposition.Outside p = answer.Outside
with_packet disposition.Opened p = answer.Opened
with_packet disposition.Status p = answer.Status
with_packet disposition.Probed p = answer.Probed
with_packet disposition.Unc p = answer.Unc p
with_packet disposition.Answered p = answer.Answered p
with_packet disposition.Forwarded p = answer.Forwarded p
with_packet disposition.Closed p = answer.Closed p
with_packet disposition.Lost p = answer.Lost p
with_packet (disposition.Dropped why) p = answer.Dropped why
