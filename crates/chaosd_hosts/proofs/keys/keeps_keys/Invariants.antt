use Rattle.std.proofs.Common.{◌≡◌, drop, map}
use Rattle.chaosd_hosts.specs.Keys.{keeps_keys}
use Rattle.chaosd_hosts.specs.Table.{host_view}
use Rattle.chaosd_hosts.proofs.keys.keeps_keys.Given as goal

-- each host so far keeps its key
abbrev pub invariant-loop-host : goal.invariant-loop-host
invariant-loop-host l =
    keeps_keys (map host_view l.hosts) (map host_view l.others)
    ≡ keeps_keys (map host_view (drop l.host-index l.hosts)) (map host_view l.others)
