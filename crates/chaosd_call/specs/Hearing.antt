-- Whom a client hears.
use Rattle.std.specs.Prelude.{◌≡◌, Bool, true, false, Option, Some, None}
use Rattle.std.specs.Net.Addr.{IsUnspecifiedV4}
use Rattle.std.specs.Net.Socket.{v4_ip}
use Rattle.std.specs.declared.net.socket_addr.SocketAddr.{SocketAddr}
use Rattle.std.specs.declared.net.socket_addr.SocketAddr.TheVariants.{V4}
use Rattle.std.specs.declared.net.socket_addr.SocketAddrV4.{SocketAddrV4}
use Rattle.chaos_link.specs.declared.peers.Peer.{Peer}

-- the UDP address of its server alone, or no address alone where anybody is heard
abbrev pub alone_heard : Peer → Bool → Option SocketAddrV4
alone_heard server true = None
alone_heard server false = Some server.socket

-- where a client is, as its server has to know: at its UDP address, which the unspecified one isn't
abbrev pub IsKnownAt : SocketAddrV4 → Option SocketAddrV4 → Type 0
IsKnownAt socket None = IsUnspecifiedV4 (v4_ip socket)
IsKnownAt socket (Some place) = (¬ IsUnspecifiedV4 (v4_ip socket)) × (place ≡ socket)

-- a datagram from there is taken: from the UDP address that is heard alone, or from anywhere
abbrev pub IsHeard : Option SocketAddrV4 → SocketAddr → Type 0
IsHeard None from = Unit {0}
IsHeard (Some heard) from = from ≡ V4 heard
