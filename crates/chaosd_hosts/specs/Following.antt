-- Hosts that are answered where their last good datagram came from.
use Rattle.std.specs.Prelude.{◌==◌, ◌||◌, ℕ, Bool, List, length, not, Option, None, Some, option_map, slice_get, if◌then◌else◌}
use Rattle.std.specs.List.{list_any}
use Rattle.std.specs.Option.{option_and_then}
use Rattle.std.specs.Result.{result_ok}
use Rattle.std.specs.declared.net.socket_addr.SocketAddrV4.{SocketAddrV4}
use Rattle.chaos_chudp.specs.Chudp.{chudp_read}
use Rattle.chaos_link.specs.Keeper.{Incoming}
use Rattle.chaos_link.specs.Packets.{packets_read}
use Rattle.chaos_link.specs.Peers.{PeersView, with_entry}
use Rattle.chaos_link.specs.declared.limits.TheConstants.{MAX_PEERS}
use Rattle.chaos_link.specs.declared.peers.Peer.{Peer}
use Rattle.chaosd_hosts.specs.declared.following.DatagramForm.{DatagramForm}
use Rattle.chaosd_hosts.specs.declared.following.DatagramForm.TheVariants.{Own, Chudp}

-- how packets stand in the datagrams, and the Chaosnet addresses of the hosts that are followed
pub record FollowedView : Type 0 where
  pub form : DatagramForm
  pub hosts : List ℕ

-- ---- the host that sent a datagram: the source of the first packet, where the whole datagram is good

unfoldable pub own_source : List ℕ → Option ℕ
own_source bytes = option_and_then (λ packets. option_map (λ packet. packet.src) (slice_get packets 0)) (result_ok (packets_read bytes))

unfoldable pub chudp_source : List ℕ → Option ℕ
chudp_source bytes = option_map (λ delivery. delivery.packet.src) (result_ok (chudp_read bytes))

abbrev pub source_in : DatagramForm → List ℕ → Option ℕ
source_in Own bytes = own_source bytes
source_in Chudp bytes = chudp_source bytes

-- ---- the peers behind a datagram

abbrev pub is_among : ℕ → List ℕ → Bool
is_among address hosts = list_any (λ host. host == address) hosts

-- the peers are not as many as there may be, or the address has an entry
abbrev pub has_place : ℕ → PeersView → Bool
has_place address peers = not (length peers.hosts == MAX_PEERS) || list_any (λ peer. peer.address == address) peers.hosts

unfoldable pub with_place : Peer → PeersView → PeersView
with_place peer peers = if has_place peer.address peers then record peers { hosts = with_entry peer peers.hosts } else peers

-- a host that is followed is where its datagram came from; nothing else changes
abbrev pub moved : FollowedView → PeersView → SocketAddrV4 → Option ℕ → PeersView
moved followed peers from None = peers
moved followed peers from (Some source) =
    if is_among source followed.hosts then with_place (record { address = source; socket = from }) peers else peers

abbrev pub peers_behind : FollowedView → PeersView → Option Incoming → PeersView
peers_behind followed peers None = peers
peers_behind followed peers (Some came) = moved followed peers came.from (source_in followed.form came.bytes)
