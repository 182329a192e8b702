use Rattle.std.proofs.Common.{◌≡◌, ℕ, ◌<◌, length, get_or, None}
use Rattle.std.specs.Prelude.{slice_get}
use Rattle.chaosd_log.specs.PeerSources.{source_of_peer}
use Rattle.chaosd_log.proofs.peer_sources.PeerSources.heard_by_place.Given as goal

-- the places so far have where their peers were heard
abbrev pub invariant-loop-place : goal.invariant-loop-place
invariant-loop-place l = record {
  size : length l.heard ≡ 32;
  filled : (k : ℕ) → k < l.place → get_or l.heard k None ≡ source_of_peer (slice_get l.peers k) l.self;
}
