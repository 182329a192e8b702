use Rattle.std.proofs.Common.{◌≡◌, drop, map}
use Rattle.chaosd_hosts.specs.Keys.{are_keyed}
use Rattle.chaosd_hosts.specs.Table.{host_view}
use Rattle.chaosd_hosts.proofs.keys.are_keyed.Given as goal

-- each host so far has a key
abbrev pub invariant-loop-host : goal.invariant-loop-host
invariant-loop-host l =
    are_keyed (map host_view l.hosts) ≡ are_keyed (map host_view (drop l.host-index l.hosts))
