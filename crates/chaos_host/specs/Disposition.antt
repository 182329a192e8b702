-- What became of a packet at a host, with the packet where it is handed out.
use Rattle.chaos_packet.specs.Packet.{PacketView}
use Rattle.chaos_conn.specs.Disposition.{with_packet}
use Rattle.chaos_host.specs.declared.answers.HostDisposition.{HostDisposition}
use Rattle.chaos_host.specs.declared.answers.HostDisposition.TheVariants as disposition
use Rattle.chaos_host.specs.declared.answers.HostDelivered.{HostDelivered}
use Rattle.chaos_host.specs.declared.answers.HostDelivered.TheVariants as answer

abbrev pub host_with_packet : HostDisposition → PacketView → HostDelivered
host_with_packet (disposition.Requested id) p = answer.Requested id
host_with_packet (disposition.At id told) p = answer.At id (with_packet told p)
host_with_packet disposition.NoServer p = answer.NoServer
host_with_packet disposition.TableFull p = answer.TableFull
host_with_packet disposition.NoConnection p = answer.NoConnection
host_with_packet (disposition.Dropped why) p = answer.Dropped why
