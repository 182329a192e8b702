-- What is known of peers.
use Rattle.std.specs.Prelude.{◌≡◌, ◌⊎◌, ◌==◌, ◌++◌, ◌∷◌, [], ℕ, List, Option, Some, None, option_map, find, position, slice_set}
use Rattle.std.specs.List.{Any}
use Rattle.std.specs.Option.{option_or}
use Rattle.std.specs.declared.net.socket_addr.SocketAddrV4.{SocketAddrV4}
use Rattle.chaos_link.specs.declared.peers.Peer.{Peer}

-- the hosts that have an entry, and the UDP address of the bridge to all other hosts, where there is one
pub record PeersView : Type 0 where
  pub hosts : List Peer
  pub bridge : Option SocketAddrV4

-- A host with an entry has this address.
abbrev pub IsKnown : ℕ → List Peer → Type 0
IsKnown address hosts = Any (λ host. host.address ≡ address) hosts

-- the UDP address of the entry with this address, where there is one
abbrev pub entry_of : ℕ → List Peer → Option SocketAddrV4
entry_of address hosts = option_map (λ host. host.socket) (find (λ host. host.address == address) hosts)

-- where datagrams for this address go: to its entry's UDP address, else to the bridge
abbrev pub socket_of : ℕ → PeersView → Option SocketAddrV4
socket_of address peers = option_or (entry_of address peers.hosts) peers.bridge

-- A peer or the bridge is at this UDP address.
abbrev pub IsPeerAt : SocketAddrV4 → PeersView → Type 0
IsPeerAt socket peers = Any (λ peer. peer.socket ≡ socket) peers.hosts ⊎ (peers.bridge ≡ Some socket)

-- the entries with this entry: in the place of the entry that had its address, else behind the others
abbrev pub with_entry_at : Option ℕ → Peer → List Peer → List Peer
with_entry_at (Some place) peer hosts = slice_set hosts place peer
with_entry_at None peer hosts = hosts ++ peer ∷ []

abbrev pub with_entry : Peer → List Peer → List Peer
with_entry peer hosts = with_entry_at (position (λ host. host.address == peer.address) hosts) peer hosts
