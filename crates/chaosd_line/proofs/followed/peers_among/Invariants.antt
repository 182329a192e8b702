use Rattle.std.proofs.Common.{◌≡◌, ◌≤◌, drop, filter, length, map, not}
use Rattle.chaos_link.specs.declared.limits.TheConstants.{MAX_PEERS}
use Rattle.chaosd_line.specs.Followed.{names_followed, peers_among}
use Rattle.chaosd_line.specs.Values.{peers_after}
use Rattle.chaosd_line.proofs.followed.peers_among.Given as goal

-- the peers so far, and those of the words from here on
abbrev pub invariant-loop-text : goal.invariant-loop-text
invariant-loop-text l = record {
  few : length l.peers.hosts ≤ MAX_PEERS;
  rest : peers_among (map (λ t. t.now) l.texts)
      ≡ peers_after (filter (λ t. not (names_followed t)) (map (λ t. t.now) (drop l.text-index l.texts))) l.peers;
}
