-- What is wrong with a server's peers.
use Rattle.std.specs.Prelude.{◌==◌, ◌≡◌, ◌≢◌, ◌&&◌, ℕ, Bool, not, List, length, Option, Some, None, is_some, if◌then◌else◌}
use Rattle.std.specs.declared.net.socket_addr.SocketAddrV4.{SocketAddrV4}
use Rattle.chaos_link.specs.Peers.{PeersView}
use Rattle.chaos_link.specs.declared.peers.Peer.{Peer}
use Rattle.chaosd_log.specs.declared.warning.Warning.{Warning}
use Rattle.chaosd_log.specs.declared.warning.Warning.TheVariants.{NoPeers, OwnAddress, OwnBridge, OwnSocket}

-- a peer with the host's own Chaosnet address, or else at its own UDP address
abbrev pub WarnsOf : Peer → ℕ → SocketAddrV4 → Option Warning → Type 0
WarnsOf peer address socket (Some NoPeers) = ⊥
WarnsOf peer address socket (Some OwnBridge) = ⊥
WarnsOf peer address socket (Some (OwnAddress own)) = (peer.address ≡ address) × (own ≡ address)
WarnsOf peer address socket (Some (OwnSocket other)) =
    (peer.address ≢ address) × (peer.socket ≡ socket) × (other ≡ peer.address)
WarnsOf peer address socket None = (peer.address ≢ address) × (peer.socket ≢ socket)

-- a bridge at the host's own UDP address
abbrev pub WarnsOfBridge : Option SocketAddrV4 → SocketAddrV4 → Option Warning → Type 0
WarnsOfBridge bridge socket (Some OwnBridge) = bridge ≡ Some socket
WarnsOfBridge bridge socket (Some _) = ⊥
WarnsOfBridge bridge socket None = bridge ≢ Some socket

-- no peer, no bridge, and no host that is followed
abbrev pub answers_nobody : PeersView → List ℕ → Bool
answers_nobody peers followed = (length peers.hosts == 0) && (not (is_some peers.bridge) && (length followed == 0))

abbrev pub warning_of_nobody : PeersView → List ℕ → Option Warning
warning_of_nobody peers followed = if answers_nobody peers followed then Some NoPeers else None
