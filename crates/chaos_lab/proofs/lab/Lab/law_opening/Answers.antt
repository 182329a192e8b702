use Rattle.std.proofs.Common.{rules}
use Rattle.chaos_conn.specs.View.{IsConn}
use Rattle.chaos_lab.specs.declared.side.Side.{Side}
use Rattle.chaos_lab.specs.Laboratory.{lab_end}
use Rattle.chaos_lab.specs.Tied.{HasMachine}
use Rattle.chaos_lab.proofs.Opens.{opens, settles_then}
use Rattle.chaos_lab.proofs.lab.Lab.law_opening.Goals as goal

pub returns-clause-opens : goal.returns-clause-opens
returns-clause-opens c =
    let machine : HasMachine c.args.self.now = search rules in
    let sound : (x : Side) → IsConn (lab_end c.args.self.now x).conn = search rules in
    opens c.args.self.now machine sound

pub returns-clause-settles : goal.returns-clause-settles
returns-clause-settles c =
    let machine : HasMachine c.args.self.now = search rules in
    let sound : (x : Side) → IsConn (lab_end c.args.self.now x).conn = search rules in
    settles_then c.args.self.now machine sound
