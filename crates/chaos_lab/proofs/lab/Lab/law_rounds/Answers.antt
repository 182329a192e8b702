use Rattle.std.proofs.Common.{rules}
use Rattle.chaos_conn.specs.View.{IsConn}
use Rattle.chaos_lab.specs.declared.side.Side.{Side}
use Rattle.chaos_lab.specs.Laboratory.{lab_end}
use Rattle.chaos_lab.specs.Tied.{HasMachine}
use Rattle.chaos_lab.proofs.Fair.{goes_on, all_read, knows, keeps_none, keeps_some, sends_when_due}
use Rattle.chaos_lab.proofs.Answering.{answered}
use Rattle.chaos_lab.proofs.lab.Lab.law_rounds.Goals as goal

pub returns-clause-keeps : goal.returns-clause-keeps
returns-clause-keeps c =
    let machine : HasMachine c.args.self.now = search rules in
    keeps_some c.args.self.now machine

pub returns-clause-sends : goal.returns-clause-sends
returns-clause-sends c =
    let sound : (x : Side) → IsConn (lab_end c.args.self.now x).conn = search rules in
    λ x now due. sends_when_due c.args.self.now x now (sound x) due

pub returns-clause-round : goal.returns-clause-round
returns-clause-round c =
    let machine : HasMachine c.args.self.now = search rules in
    goes_on c.args.self.now machine

pub returns-clause-rounds : goal.returns-clause-rounds
returns-clause-rounds c =
    let machine : HasMachine c.args.self.now = search rules in
    all_read c.args.self.now machine

pub returns-clause-answers : goal.returns-clause-answers
returns-clause-answers c =
    let machine : HasMachine c.args.self.now = search rules in
    answered c.args.self.now machine

pub returns-clause-report : goal.returns-clause-report
returns-clause-report c =
    let machine : HasMachine c.args.self.now = search rules in
    knows c.args.self.now machine

pub returns-clause-drained : goal.returns-clause-drained
returns-clause-drained c =
    let machine : HasMachine c.args.self.now = search rules in
    keeps_none c.args.self.now machine
