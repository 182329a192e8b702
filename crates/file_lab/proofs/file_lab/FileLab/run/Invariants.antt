use Rattle.std.proofs.Common.{map, take}
use Rattle.file_lab.specs.Events.{Runs, file_event}
use Rattle.file_lab.proofs.file_lab.FileLab.run.Given as goal

-- the events so far have happened
abbrev pub invariant-loop-event : goal.invariant-loop-event
invariant-loop-event l = Runs l.fn.self (take l.event-index (map file_event l.fn.events)) l.self
