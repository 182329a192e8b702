use Rattle.std.proofs.Common.{rules}
use Rattle.chaos_lab.specs.Tied.{HasMachine}
use Rattle.chaos_lab.proofs.HeadlineLaw.{begins, opened, items, turns}
use Rattle.chaos_lab.proofs.lab.Lab.law_headline.Goals as goal

pub returns-clause-beginning : goal.returns-clause-beginning
returns-clause-beginning c =
    let machine : HasMachine c.args.self.now = search rules in
    λ x. begins c.args.self.now x machine

pub returns-clause-in_turn : goal.returns-clause-in_turn
returns-clause-in_turn c =
    let machine : HasMachine c.args.self.now = search rules in
    λ copy s i events comes unclosed. turns c.args.self.now copy s i events machine comes unclosed

pub returns-clause-items : goal.returns-clause-items
returns-clause-items c =
    let machine : HasMachine c.args.self.now = search rules in
    λ copy s at is. items c.args.self.now copy s machine at is

pub returns-clause-opened : goal.returns-clause-opened
returns-clause-opened c =
    let machine : HasMachine c.args.self.now = search rules in
    λ x is. opened c.args.self.now x machine is
