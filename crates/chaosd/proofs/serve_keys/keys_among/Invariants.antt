use Rattle.std.proofs.Common.{◌≡◌, ◌++◌, drop, map}
use Rattle.std.specs.List.{filter_map}
use Rattle.chaosd_hosts.specs.Table.{host_view}
use Rattle.chaosd.specs.ServeKeys.{hosts_of, keyed_address}
use Rattle.chaosd.proofs.serve_keys.keys_among.Given as goal

-- the hosts with a key so far, and those from here on
abbrev pub invariant-loop-host : goal.invariant-loop-host
invariant-loop-host g l = filter_map keyed_address (map host_view l.hosts) ≡ hosts_of l.keys.items ++ filter_map keyed_address (map host_view (drop l.host-index l.hosts))
