use Rattle.std.proofs.Common.{◌≡◌, drop}
use Rattle.std.specs.List.{find}
use Rattle.chaosd_hosts.specs.Table.{has_name, host_view}
use Rattle.chaosd_hosts.proofs.host.find_named.Given as goal

-- no host so far has the name
abbrev pub invariant-loop-host : goal.invariant-loop-host
invariant-loop-host l =
    find (λ host. has_name l.name (host_view host)) l.hosts ≡ find (λ host. has_name l.name (host_view host)) (drop l.host-index l.hosts)
