-- The peers of a server whose table of hosts was read again.
use Rattle.std.specs.Prelude.{ℕ, List, [], ◌∷◌, if◌then◌else◌}
use Rattle.chaos_link.specs.Peers.{PeersView}
use Rattle.chaos_link.specs.declared.peers.Peer.{Peer}
use Rattle.chaosd_hosts.specs.Following.{is_among, with_place}
use Rattle.chaosd_hosts.specs.Table.{TableView, followed_of, peers_of}

-- of these hosts those that are followed are kept, each while there is a place
abbrev pub with_followed : List ℕ → List Peer → PeersView → PeersView
with_followed followed [] peers = peers
with_followed followed (host ∷ hosts) peers =
    with_followed followed hosts (if is_among host.address followed then with_place host peers else peers)

-- the peers of the table; a host that the table follows stays where it was heard last
abbrev pub peers_after : TableView → PeersView → PeersView
peers_after table known = with_followed (followed_of table) known.hosts (peers_of table)
