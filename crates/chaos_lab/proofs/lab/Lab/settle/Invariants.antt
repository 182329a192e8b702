use Rattle.std.proofs.Common.{length}
use Rattle.chaos_lab.specs.Settling.{settling}
use Rattle.chaos_lab.specs.SettlingLeft.{left}
use Rattle.chaos_lab.proofs.Before.{Before}
use Rattle.chaos_lab.proofs.lab.Lab.settle.Given as goal

-- so many have happened, and the others are left
abbrev pub invariant-loop-event : goal.invariant-loop-event
invariant-loop-event l = Before l.fn.self (settling l.fn.self) l.self (left l.events l.self)

abbrev pub decreases-loop-event : goal.decreases-loop-event
decreases-loop-event l = length (left l.events l.self)
