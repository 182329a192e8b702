-- Who keeps the peers of a link.
use Rattle.std.specs.Prelude.{◌≡◌, ℕ, List, Option, Some, None, take}
use Rattle.std.specs.declared.net.socket_addr.SocketAddrV4.{SocketAddrV4}
use Rattle.chaos_link.specs.Peers.{PeersView}
use Rattle.chaos_link.specs.declared.link.Received.{Received}
use Rattle.chaos_link.specs.declared.link.Received.TheVariants as receiving

-- the bytes of a datagram, and the UDP address that it came from
pub record Incoming : Type 0 where
  pub from : SocketAddrV4
  pub bytes : List ℕ

-- for a keeper and the peers, and a datagram that came, if any: what the keeper and the peers may become
abbrev pub Becomes : Type 0 → Type 1
Becomes K = K → PeersView → Option Incoming → K → PeersView → Type 0

-- The peers stay, whatever comes.
abbrev pub stays : {K : Type 0} → Becomes K
stays keeper peers came next_keeper next = next ≡ peers

-- the datagram that was handed up in the front of this buffer, where it came from a UDP address of IPv4
abbrev pub handed_up : Received → Option SocketAddrV4 → List ℕ → Option Incoming
handed_up (receiving.Got count) (Some from) buffer = Some (record { from = from; bytes = take count buffer })
handed_up (receiving.Got count) None buffer = None
handed_up receiving.Nothing source buffer = None
handed_up receiving.Failed source buffer = None
