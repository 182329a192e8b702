use Rattle.std.proofs.Common.{length}
use Rattle.file_lab.specs.Settling.{file_settling}
use Rattle.file_lab.specs.SettlingLeft.{left}
use Rattle.file_lab.proofs.Before.{Before}
use Rattle.file_lab.proofs.file_lab.FileLab.settle.Given as goal

-- so many have happened, and the others are left
abbrev pub invariant-loop-event : goal.invariant-loop-event
invariant-loop-event l = Before l.fn.self (file_settling l.fn.self) l.self (left l.events l.self)

abbrev pub decreases-loop-event : goal.decreases-loop-event
decreases-loop-event l = length (left l.events l.self)
