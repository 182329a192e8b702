use Rattle.std.proofs.Common.{◌≡◌, ◌++◌, ◌≤◌, drop, length, map}
use Rattle.std.specs.List.{filter_map}
use Rattle.chaosd_hosts.specs.Table.{followed_address, host_view}
use Rattle.chaosd_hosts.proofs.host.followed_among.Given as goal

-- the addresses so far, and those of the hosts from here on
abbrev pub invariant-loop-host : goal.invariant-loop-host
invariant-loop-host l = record {
  few : length l.followed.items ≤ l.host-index;
  rest : filter_map followed_address (map host_view l.hosts)
      ≡ l.followed.items ++ filter_map followed_address (map host_view (drop l.host-index l.hosts));
}
