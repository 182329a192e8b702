use Rattle.std.proofs.Common.{rules}
use Rattle.chaos_conn.specs.View.{IsConn}
use Rattle.chaos_lab.specs.declared.side.Side.{Side}
use Rattle.chaos_lab.specs.Laboratory.{lab_end}
use Rattle.chaos_lab.specs.Tied.{HasMachine}
use Rattle.chaos_lab.proofs.Settled.{settles, reads_through}
use Rattle.chaos_lab.proofs.lab.Lab.law_progress.Goals as goal

pub returns-clause-settles : goal.returns-clause-settles
returns-clause-settles c =
    let machine : HasMachine c.args.self.now = search rules in
    let sound : (x : Side) → IsConn (lab_end c.args.self.now x).conn = search rules in
    settles c.args.self.now machine sound

pub returns-clause-closing : goal.returns-clause-closing
returns-clause-closing c =
    let machine : HasMachine c.args.self.now = search rules in
    let sound : (x : Side) → IsConn (lab_end c.args.self.now x).conn = search rules in
    reads_through c.args.self.now machine sound
