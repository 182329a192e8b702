-- The hops of a line's packets in CHUDP.
use Rattle.std.specs.Prelude.{ℕ, [], List, Option, Some, None, map}
use Rattle.chaos_link.specs.declared.peers.Peer.{Peer}
use Rattle.chaos_chudp.specs.Hops.{HopsView}

-- these hosts are reached directly, and all others through the bridge with this address, where it is known
abbrev pub hops_by : List Peer → Option ℕ → HopsView
hops_by hosts None = record { near = []; bridge = None }
hops_by hosts (Some bridge) = record { near = map (λ host. host.address) hosts; bridge = Some bridge }
