use Rattle.std.proofs.Common.{◌≡◌, ◌-◌, ◌++◌, length, drop}
use Rattle.chaosd_lab.specs.Answers.{copies_text}
use Rattle.chaosd_lab.proofs.answers.put_copies.Given as goal

-- what is written, in front of the lines of the copies that are left, is all
abbrev pub invariant-loop-place : goal.invariant-loop-place
invariant-loop-place l =
    l.out ++ copies_text l.place (drop l.place l.copies) ≡ l.fn.out ++ copies_text l.from (drop l.from l.copies)

abbrev pub decreases-loop-place : goal.decreases-loop-place
decreases-loop-place l = length l.copies - l.place
