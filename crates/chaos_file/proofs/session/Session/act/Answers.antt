-- The plan of a command that the user may give is that of the command itself.
use Rattle.std.proofs.Common.{rules, ◌≡◌}
use Rattle.chaos_file.specs.Command.{Close, OpenRead}
use Rattle.chaos_file.specs.Views.{parsed_view}
use Rattle.chaos_file.specs.Plan.{plan_of, plan_command}
use Rattle.chaos_file.proofs.session.Session.act.Goals as goal

pub returns-in-OpenRead-clause-done : goal.returns-in-OpenRead-clause-done
returns-in-OpenRead-clause-done g c =
    let plan : plan_of c.args.self.now (parsed_view c.args.parsed)
    ≡ plan_command c.args.self.now c.in-Good.handle.now (OpenRead c.in-OpenRead.path.now) = search rules in
    rw plan c.open_read.ensures.done

pub returns-in-OpenRead-clause-change : goal.returns-in-OpenRead-clause-change
returns-in-OpenRead-clause-change g c =
    let plan : plan_of c.args.self.now (parsed_view c.args.parsed)
    ≡ plan_command c.args.self.now c.in-Good.handle.now (OpenRead c.in-OpenRead.path.now) = search rules in
    rw plan c.open_read.ensures.change

pub returns-in-Close-clause-done : goal.returns-in-Close-clause-done
returns-in-Close-clause-done g c =
    let plan : plan_of c.args.self.now (parsed_view c.args.parsed)
    ≡ plan_command c.args.self.now c.in-Good.handle.now Close = search rules in
    rw plan c.close.ensures.done

pub returns-in-Close-clause-change : goal.returns-in-Close-clause-change
returns-in-Close-clause-change g c =
    let plan : plan_of c.args.self.now (parsed_view c.args.parsed)
    ≡ plan_command c.args.self.now c.in-Good.handle.now Close = search rules in
    rw plan c.close.ensures.change
