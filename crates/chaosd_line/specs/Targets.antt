-- Whom a line calls, by its words: a host at addresses, or a host of the hosts table.
use Rattle.std.specs.Prelude.{◌==◌, ℕ, Bool, false, not, List, length, nat_lt, Option, Some, None, drop, option_map, if◌then◌else◌}
use Rattle.std.specs.Option.{option_and_then, option_zip}
use Rattle.std.specs.declared.net.socket_addr.SocketAddrV4.{SocketAddrV4}
use Rattle.clap.specs.Words.{Text}
use Rattle.chaos_link.specs.Peers.{PeersView}
use Rattle.chaos_link.specs.declared.peers.Peer.{Peer}
use Rattle.chaosd_line.specs.Followed.{asked_peers, known_hosts}
use Rattle.chaosd_hosts.specs.Names.{is_host_name}
use Rattle.chaosd_line.specs.Hosts.{has_colon, host_in, part_in}
use Rattle.chaosd_line.specs.Places.{at, is_long, last_at, last_word}
use Rattle.chaosd_hosts.specs.Addresses.{address_of, peer_of, socket_of}
use Rattle.chaosd_line.specs.Values.{kept_if, word_of}
use Rattle.chaosd_line.specs.declared.ends.AskTarget.{AskTarget}
use Rattle.chaosd_line.specs.declared.ends.AskTarget.TheVariants as asked
use Rattle.chaosd_line.specs.declared.ends.ServePlace.{ServePlace}
use Rattle.chaosd_line.specs.declared.ends.ServePlace.TheVariants as place
use Rattle.chaosd_line.specs.declared.ends.Target.{Target}
use Rattle.chaosd_line.specs.declared.ends.Target.TheVariants as target
use Rattle.chaosd_line.specs.declared.target.HostWord.{HostWord}
use Rattle.chaosd_line.specs.declared.target.HostWord.TheVariants as host
use Rattle.chaosd_line.specs.declared.word.Word.TheVariants as word

-- what is seen of a target, wherever its text lies: the values of its addresses, or the host's name
pub data TargetView (E : Type 0) : Type 0 where
  Addresses : E → TargetView E
  Name : Text → TargetView E

-- ---- calls of a server

abbrev pub EndsView : Type 0
EndsView = ℕ × (SocketAddrV4 × Peer)

abbrev pub target_view : Target → TargetView EndsView
target_view (target.Addresses ends) = Addresses (ends.address, (ends.socket, ends.server))
target_view (target.Name name) = Name name.now

-- this host's address, its UDP address, and the server, which is another host
abbrev pub ends_of : List Text → Option EndsView
ends_of words = option_and_then (kept_if (λ v. not (v.1.1.address == v.0)))
    (option_zip (at address_of 0 words) (option_zip (at socket_of 1 words) (at peer_of 2 words)))

-- the host of a word HOST:PATH, and of a word HOST:
abbrev pub host_of : Text → Option Text
host_of word = if has_colon word then kept_if is_host_name (host_in word) else None

abbrev pub bare_host_of : Text → Option Text
bare_host_of word = if length (part_in word) == 0 then host_of word else None

-- the host that the short form names: in its first word, or alone in its last
abbrev pub host_at : HostWord → List Text → Option Text
host_at host.First words = at host_of 0 words
host_at host.Last words = option_and_then bare_host_of (last_word words)

abbrev pub call_target : HostWord → List Text → Option (TargetView EndsView)
call_target place words = if is_long words then option_map Addresses (ends_of words) else option_map Name (host_at place words)

-- ---- `ask`

abbrev pub AskEndsView : Type 0
AskEndsView = (ℕ × (SocketAddrV4 × ℕ)) × PeersView

abbrev pub ask_view : AskTarget → TargetView AskEndsView
ask_view (asked.Addresses ends) = Addresses ((ends.address, (ends.socket, ends.to)), ends.peers)
ask_view (asked.Name name) = Name name.now

-- this host's address, its UDP address, and the address of the host that is asked, which is another host
abbrev pub ask_addresses : List Text → Option (ℕ × (SocketAddrV4 × ℕ))
ask_addresses words = option_and_then (kept_if (λ v. not (v.1.1 == v.0)))
    (option_zip (at address_of 0 words) (option_zip (at socket_of 1 words) (at address_of 2 words)))

abbrev pub ask_ends : List Text → Option AskEndsView
ask_ends words = option_zip (ask_addresses words) (asked_peers (drop 3 words))

abbrev pub ask_target : List Text → Option (TargetView AskEndsView)
ask_target words = if is_long words then option_map Addresses (ask_ends words)
    else option_map Name (last_at (word_of word.HostName) 0 words)

-- ---- `serve`

abbrev pub ServeEndsView : Type 0
ServeEndsView = ℕ × (SocketAddrV4 × (PeersView × List ℕ))

-- the addresses of a server and of its hosts, where the line has them and not the hosts table
abbrev pub place_view : ServePlace → Option ServeEndsView
place_view (place.Addresses ends) = Some (ends.address, (ends.socket, (ends.peers, ends.followed.items)))
place_view place.Table = None

abbrev pub serve_ends : List Text → Option ServeEndsView
serve_ends words = option_zip (at address_of 0 words) (option_zip (at socket_of 1 words) (known_hosts (drop 3 words)))

abbrev pub serve_place : List Text → Option (Option ServeEndsView)
serve_place words = if is_long words then option_map Some (serve_ends words) else Some None

-- a host is followed
abbrev pub follows : Option ServeEndsView → Bool
follows None = false
follows (Some ends) = nat_lt 0 (length ends.1.1.1)

abbrev pub serve_folder : List Text → Option Text
serve_folder words = if is_long words then at (word_of word.Any) 2 words else last_at (word_of word.Any) 0 words
