use Rattle.std.proofs.Common.{◌≡◌, map, take}
use Rattle.chaos_link.specs.declared.peers.Peer.{Peer}
use Rattle.chaos_chudp.proofs.hops.Hops.beside.Given as goal

abbrev pub invariant-loop-host : goal.invariant-loop-host
invariant-loop-host l = l.near.items ≡ map (λ (host : Peer). host.address) (take l.host-index l.hosts)
