use Rattle.std.proofs.Common.{[]}
use Rattle.chaos_packet.specs.Opcode.{op_eof}
use Rattle.chaos_stream.proofs.HostLeaving.{looks_after_write}
use Rattle.chaos_stream.proofs.host_stream.HostStream.put_eof.Goals as goal

pub returns-clause-looks : goal.returns-clause-looks
returns-clause-looks c =
    let s = c.self.inside in
    rw (← c.self.view_is)
    (looks_after_write c.args.host.now c.write.new.self s.id s.place c.args.out.now c.write.new.out op_eof []
    c.args.now _ c.write.ensures)
