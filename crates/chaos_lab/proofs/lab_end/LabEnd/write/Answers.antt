use Rattle.std.proofs.Common.{rules, ◌≡◌, Err}
use Rattle.chaos_conn.specs.Calls.{act_write}
use Rattle.chaos_lab.proofs.Refusals.{write_refused}
use Rattle.chaos_lab.proofs.lab_end.LabEnd.write.Goals as goal

-- a refused write changed nothing
pub returns-in-Err : goal.returns-in-Err
returns-in-Err c =
    let answer : (act_write c.args.self.now.conn c.args.op c.args.bytes.now c.args.now).answer ≡ Err c.in-Err.why =
    search rules in
    let same = write_refused c.args.self.now.conn c.args.op c.args.bytes.now c.args.now c.in-Err.why answer in
    let view = same.view in
    let packets = same.packets in
    search rules
