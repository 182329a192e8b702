use Rattle.std.proofs.Common.{rules, OnOk, OnErr, ◌≡◌}
use Rattle.chaos_lab.specs.Laboratory.{LabView}
use Rattle.chaos_lab.specs.Tied.{HasMachine}
use Rattle.chaos_lab.proofs.Turns.{TakenBy, turn_machine, turn_on}
use Rattle.chaos_lab.proofs.lab.Lab.take_turn.Goals as goal

-- it still stands for a plain machine
pub invariant_of-self : goal.invariant_of-self
invariant_of-self g c =
    let l : LabView = c.args.self.now in
    let m : LabView = c.take_turn.new.self in
    let may = g.U.User.may_turn c.args.user.now c.take_turn.new.user l.b.conn l.clock in
    let machine : HasMachine l = search rules in
    let ok : OnOk c.take_turn.result (TakenBy may l m) = search rules in
    let err : OnErr c.take_turn.result ((m ≡ l) × (c.take_turn.new.user ≡ c.args.user.now)) = search rules in
    turn_machine may _ l m c.take_turn.result machine ok err

pub returns-clause-turn : goal.returns-clause-turn
returns-clause-turn g c =
    let l : LabView = c.args.self.now in
    let m : LabView = c.take_turn.new.self in
    let may = g.U.User.may_turn c.args.user.now c.take_turn.new.user l.b.conn l.clock in
    let ok : OnOk c.take_turn.result (TakenBy may l m) = search rules in
    turn_on may l m c.take_turn.result ok
