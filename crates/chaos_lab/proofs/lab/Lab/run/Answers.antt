use Rattle.std.proofs.Common.{rules, map}
use Rattle.chaos_lab.specs.Tied.{HasMachine}
use Rattle.chaos_lab.specs.Inside.{happening_of}
use Rattle.chaos_lab.proofs.Runs.{run_machine, run_on, stops_on}
use Rattle.chaos_lab.proofs.lab.Lab.run.Goals as goal

-- it still stands for a plain machine
pub invariant_of-self : goal.invariant_of-self
invariant_of-self c =
    let machine : HasMachine c.args.self.now = search rules in
    run_machine c.args.self.now c.run.new.self (map happening_of c.args.events.now) c.run.result machine (search rules)
    (search rules)

pub returns-clause-machine : goal.returns-clause-machine
returns-clause-machine c =
    run_on c.args.self.now c.run.new.self (map happening_of c.args.events.now) c.run.result (search rules)

pub returns-clause-no_memory : goal.returns-clause-no_memory
returns-clause-no_memory c =
    stops_on c.args.self.now c.run.new.self (map happening_of c.args.events.now) c.run.result (search rules)
