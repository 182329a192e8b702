-- What a server's log knows of hosts.
use Rattle.std.specs.Prelude.{◌≡◌, ◌≢◌, ◌⊎◌, ◌==◌, ◌∷◌, [], ℕ, suc, Bool, true, false, if◌then◌else◌, List, Option, Some, None, map, option_map, slice_get, slice_index_or, slice_set}
use Rattle.std.specs.List.{range_with_len}
use Rattle.std.specs.declared.net.socket_addr.SocketAddrV4.{SocketAddrV4}
use Rattle.chaos_link.specs.declared.peers.Peer.{Peer}
use Rattle.chaos_link.specs.Peers.{PeersView, socket_of}
use Rattle.chaos_link.specs.declared.limits.TheConstants.{MAX_PEERS}
use Rattle.chaosd_log.specs.declared.peer_sources.SourceReport.{SourceReport}
use Rattle.chaosd_log.specs.declared.peer_sources.SourceReport.TheVariants.{AsKnown, Stranger, Elsewhere}

-- the peers and the bridge, as they were when the link was asked last; the UDP address that each peer was heard from last, by its
-- place; the host that was heard last of those that are none; and whether something was reported of where a Chaosnet address
-- asks from
pub record PeerSourcesView : Type 0 where
  pub peers : PeersView
  pub heard : List (Option SocketAddrV4)
  pub stranger : Option Peer
  pub reported : List Bool

-- the place of the first peer with this address
abbrev pub place_of : ℕ → List Peer → Option ℕ
place_of address [] = None
place_of address (peer ∷ peers) = if peer.address == address then Some 0 else option_map suc (place_of address peers)

abbrev pub known_at : ℕ → PeerSourcesView → Option SocketAddrV4
known_at address sources = socket_of address sources.peers

abbrev pub was_reported : ℕ → PeerSourcesView → Bool
was_reported address sources = slice_index_or sources.reported address false

-- a host that is known there, where at all, asks from elsewhere or not
abbrev pub IsReportOf : Option SocketAddrV4 → SocketAddrV4 → SourceReport → Type 0
IsReportOf known from AsKnown = known ≡ Some from
IsReportOf known from Stranger = known ≡ None
IsReportOf known from (Elsewhere other) = (known ≡ Some other) × (other ≢ from)

-- what is to be reported of a host that asks from there
abbrev pub AsksAs : ℕ → SocketAddrV4 → PeerSourcesView → SourceReport → Type 0
AsksAs address from sources AsKnown = (known_at address sources ≡ Some from) ⊎ (was_reported address sources ≡ true)
AsksAs address from sources Stranger = (known_at address sources ≡ None) × (was_reported address sources ≡ false)
AsksAs address from sources (Elsewhere known) =
    (known_at address sources ≡ Some known) × (known ≢ from) × (was_reported address sources ≡ false)

-- it was heard from there
abbrev pub heard_at : Option ℕ → Peer → PeerSourcesView → PeerSourcesView
heard_at (Some place) host sources = record sources { heard = slice_set sources.heard place (Some host.socket) }
heard_at None host sources = record sources { stranger = Some host }

abbrev pub reported_of : ℕ → SourceReport → PeerSourcesView → PeerSourcesView
reported_of address AsKnown sources = sources
reported_of address report sources = record sources { reported = slice_set sources.reported address true }

-- nothing was reported of where it asks from
abbrev pub unreported_of : ℕ → PeerSourcesView → PeerSourcesView
unreported_of address sources = record sources { reported = slice_set sources.reported address false }

abbrev pub with_asked : ℕ → SocketAddrV4 → SourceReport → PeerSourcesView → PeerSourcesView
with_asked address from report sources =
    reported_of address report
    (heard_at (place_of address sources.peers.hosts) (record { address = address; socket = from }) sources)

-- the UDP address that a host was heard from last
abbrev pub socket_at : ℕ → Option Peer → Option SocketAddrV4
socket_at address (Some host) = if host.address == address then Some host.socket else None
socket_at address None = None

abbrev pub source_in : Option ℕ → ℕ → PeerSourcesView → Option SocketAddrV4
source_in (Some place) address sources = slice_index_or sources.heard place None
source_in None address sources = socket_at address sources.stranger

abbrev pub source_at : ℕ → PeerSourcesView → Option SocketAddrV4
source_at address sources = source_in (place_of address sources.peers.hosts) address sources

-- the UDP address that a peer was heard from last, where there is a peer
abbrev pub source_of_peer : Option Peer → PeerSourcesView → Option SocketAddrV4
source_of_peer (Some peer) sources = source_at peer.address sources
source_of_peer None sources = None

-- where each of these peers was heard last, by its place among them
abbrev pub heard_by_place : List Peer → PeerSourcesView → List (Option SocketAddrV4)
heard_by_place peers sources =
    map (λ place. source_of_peer (slice_get peers place) sources) (range_with_len 0 MAX_PEERS)

-- the peers are these now: each was heard last where it was heard before
abbrev pub renewed : PeersView → PeerSourcesView → PeerSourcesView
renewed peers sources = record sources { peers = peers; heard = heard_by_place peers.hosts sources }
