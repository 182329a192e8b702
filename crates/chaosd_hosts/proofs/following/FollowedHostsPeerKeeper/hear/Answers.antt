-- A datagram from where its source's entry says moves nobody.
use Rattle.std.proofs.Common.{refl}
use Rattle.chaosd_hosts.proofs.Sources.{stays_there}
use Rattle.chaosd_hosts.proofs.following.FollowedHostsPeerKeeper.hear.Goals as goal

pub returns-then-is_where_known : goal.returns-then-is_where_known
returns-then-is_where_known c =
    let known = c.is_where_known.ensures c.if-is_where_known.true in
    (refl, stays_there c.args.self.now c.args.peers.now c.args.from c.args.datagram.now known.0 known.1)
