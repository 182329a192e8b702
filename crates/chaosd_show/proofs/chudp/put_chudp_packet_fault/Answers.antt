use Rattle.std.proofs.Common.{codes}
use Rattle.chaosd_show.specs.Entry.{packet_fault_text}
use Rattle.chaosd_show.proofs.Faults.{behind_front}
use Rattle.chaosd_show.proofs.chudp.put_chudp_packet_fault.Goals as goal

pub returns : goal.returns
returns c =
    behind_front c.put_line.result c.args.out.now c.put.new.self c.put_line.new.out (codes "fault 6 Packet ")
    (packet_fault_text c.args.fault) c.in_ok-put.ensures.taken
    (rw c.packet_fault_text.ensures at c.put_line.ensures)
