use Rattle.std.proofs.Common.{length}
use Rattle.chaosd_log.proofs.refusals.+place_of.Given as goal

-- the rows behind the first are fewer
abbrev pub decreases-place_of : goal.decreases-place_of
decreases-place_of l = length l.rows.now
