use Rattle.std.proofs.Common.{take}
use Rattle.file_transfer.specs.Runs.{Runs}
use Rattle.file_transfer.proofs.file_task.run_copies.Given as goal

abbrev pub invariant-loop-file : goal.invariant-loop-file
invariant-loop-file g l =
    Runs g.C.FileTask.tries g.C.File.Named.name l.fn.task (g.T.OutcomeSink.reported l.fn.sink) (take l.file-index l.files)
    l.worst l.goes_on l.task (g.T.OutcomeSink.reported l.sink)
