-- The peers that are kept are those of the hosts.
use Rattle.std.proofs.Common.{◌∙◌, ap}
use Rattle.chaosd_hosts.specs.Table.{peers_of}
use Rattle.chaosd_hosts.proofs.table.HostsTable.peers.Goals as goal

pub returns : goal.returns
unfolding peers_of
returns c = (λ i. record c.self.inside.peers { hosts = c.self.invariant.2 i }) ∙ ap peers_of c.self.view_is
