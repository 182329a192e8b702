use Rattle.std.proofs.Common.{◌≡◌, drop, map}
use Rattle.chaosd_hosts.specs.Keys.{key_at}
use Rattle.chaosd_hosts.specs.Table.{host_view}
use Rattle.chaosd_hosts.proofs.keys.key_at.Given as goal

-- no host so far has the address
abbrev pub invariant-loop-host : goal.invariant-loop-host
invariant-loop-host l =
    key_at l.address (map host_view l.hosts) ≡ key_at l.address (map host_view (drop l.host-index l.hosts))
