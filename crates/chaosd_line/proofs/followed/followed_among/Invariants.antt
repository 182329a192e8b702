use Rattle.std.proofs.Common.{◌≡◌, ◌+◌, ◌≤◌, drop, length, map}
use Rattle.chaos_link.specs.declared.limits.TheConstants.{MAX_PEERS}
use Rattle.chaosd_line.specs.Followed.{followed_after, followed_among}
use Rattle.chaosd_line.proofs.followed.followed_among.Given as goal

-- the addresses so far, and those of the words from here on
abbrev pub invariant-loop-text : goal.invariant-loop-text
invariant-loop-text l = record {
  few : length l.hosts + length l.followed.items ≤ MAX_PEERS;
  rest : followed_among l.hosts (map (λ t. t.now) l.texts)
      ≡ followed_after l.hosts (map (λ t. t.now) (drop l.text-index l.texts)) l.followed.items;
}
