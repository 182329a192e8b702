-- The hosts that a server seals for.
use Rattle.std.specs.Prelude.{◌++◌, ◌&&◌, [], ℕ, Bool, not, List, map, Option, None, Some, is_some, if◌then◌else◌}
use Rattle.std.specs.List.{filter_map}
use Rattle.chaos_link.specs.Peers.{PeersView}
use Rattle.chaosd_hosts.specs.Table.{HostView, TableView}
use Rattle.chaosd_call.specs.declared.keys.HostKey.{HostKey}

abbrev pub hosts_of : List HostKey → List ℕ
hosts_of keys = map (λ k. k.address) keys

-- with a key of the line every peer, and every host that is followed
abbrev pub sealed_peers : Option (List ℕ) → PeersView → List ℕ → List ℕ
sealed_peers None peers followed = []
sealed_peers (Some file) peers followed = map (λ peer. peer.address) peers.hosts ++ followed

-- with a key of the line, and without a bridge, all that is to be heard is sealed
abbrev pub is_sealed_by : Bool → Bool → Bool
is_sealed_by has_key has_bridge = has_key && not has_bridge

-- with a hosts table every other host that has a key there
abbrev pub keyed_address : HostView → Option ℕ
keyed_address host = if is_some host.key then Some host.address else None

abbrev pub keyed_hosts : TableView → List ℕ
keyed_hosts table = filter_map keyed_address table.hosts
