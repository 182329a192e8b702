-- The peers stay those of the hosts.
use Rattle.std.proofs.Common.{◌<◌, ap, arith, length}
use Rattle.chaos_link.specs.declared.limits.TheConstants.{MAX_PEERS}
use Rattle.chaosd_hosts.specs.Table.{host_view}
use Rattle.chaosd_hosts.proofs.Rows.{peers_pushed, peers_room, peers_without}
use Rattle.chaosd_hosts.proofs.table.HostsTable.add_other.Goals as goal

pub add_peer-requires-clause-few : goal.add_peer-requires-clause-few
add_peer-requires-clause-few c =
    let room : length c.self.inside.hosts.items < MAX_PEERS = grind (arith, c.is_full.ensures.value, c.if-is_full.false, c.self.invariant.1) in
    peers_room host_view c.self.inside.peers.hosts c.self.inside.hosts.items c.self.invariant.2 room

pub add_peer-requires-clause-fresh : goal.add_peer-requires-clause-fresh
add_peer-requires-clause-fresh c =
    peers_without c.self.inside.peers.hosts c.args.self.now _ _ c.self.invariant.2 (ap (λ v. v.hosts) c.self.view_is) c.requires

pub invariant_of-self : goal.invariant_of-self
invariant_of-self c = (
  c.self.invariant.0,
  grind (arith, c.is_full.ensures.value, c.if-is_full.false, c.self.invariant.1, c.push.ensures.len),
  peers_pushed host_view c.self.inside.peers.hosts c.add_peer.new.peers.hosts c.self.inside.hosts.items c.push.new.self.items c.args.host
      c.self.invariant.2 (ap (λ ps. ps.hosts) c.add_peer.ensures) c.push.ensures.items,
)
