use Rattle.std.proofs.Common.{◌≡◌, ◌+◌, drop, fold}
use Rattle.std.specs.Prelude.{min}
use Rattle.chaosd_call.specs.CopyRun.{most, sum_of}
use Rattle.chaosd_call.proofs.copy_run.sum_of.Given as goal

-- the sum so far and the counts that are left make the whole sum
abbrev pub invariant-loop-count : goal.invariant-loop-count
invariant-loop-count l = fold (λ sum count. min (sum + count) most) l.sum (drop l.count-index l.counts) ≡ sum_of l.counts
