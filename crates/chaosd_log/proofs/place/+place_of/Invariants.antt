use Rattle.std.proofs.Common.{length}
use Rattle.chaosd_log.proofs.place.+place_of.Given as goal

-- proposed from what the function passes where it calls itself
abbrev pub decreases-place_of : goal.decreases-place_of
decreases-place_of l = length l.peers.now
