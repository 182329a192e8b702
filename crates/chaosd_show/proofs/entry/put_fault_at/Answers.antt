use Rattle.std.proofs.Common.{codes}
use Rattle.std.specs.Fmt.{decimal}
use Rattle.chaosd_show.specs.Entry.{packet_fault_text}
use Rattle.chaosd_show.proofs.Faults.{behind_number}
use Rattle.chaosd_show.proofs.entry.put_fault_at.Goals as goal

pub returns : goal.returns
returns c =
    behind_number c.put_line.result c.args.out.now c.put.new.self c.put_decimal.new.out c.put-2.new.self
    c.put_line.new.out (codes "fault 8 PacketAt ") (decimal c.args.place)
    (packet_fault_text c.args.fault) c.in_ok-put.ensures.taken (rw c.from.ensures at c.in_ok-put_decimal.ensures)
    c.in_ok-put-2.ensures.taken (rw c.packet_fault_text.ensures at c.put_line.ensures)
