use Rattle.std.proofs.Common.{◌≡◌, length}
use Rattle.file_lab.specs.Bodies.{data_bodies}
use Rattle.file_lab.proofs.bodies.first_data.Given as goal

-- no data item was passed over
abbrev pub invariant-loop-left : goal.invariant-loop-left
invariant-loop-left l = data_bodies l.fn.items ≡ data_bodies l.left

-- fewer items each time
abbrev pub decreases-loop-left : goal.decreases-loop-left
decreases-loop-left l = length l.left
