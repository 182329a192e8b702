use Rattle.std.proofs.Common.{◌≡◌, drop}
use Rattle.chaosd_hosts.specs.Kept.{with_followed}
use Rattle.chaosd_hosts.proofs.kept.keep_followed.Given as goal

-- the hosts so far were set, and the others are still to come
abbrev pub invariant-loop-host : goal.invariant-loop-host
invariant-loop-host l = with_followed l.followed l.known l.initial.peers ≡ with_followed l.followed (drop l.host-index l.known) l.peers
