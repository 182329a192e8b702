-- The hosts that a server knows: peers at UDP addresses, and hosts that it answers where their last good datagram came from.
use Rattle.std.specs.Prelude.{◌==◌, ◌+◌, ◌&&◌, ◌||◌, ◌++◌, ◌∷◌, ℕ, Bool, false, not, codes, List, [], length, nat_lt, filter, Option, None, Some, option_map, if◌then◌else◌}
use Rattle.std.specs.List.{list_any}
use Rattle.std.specs.Option.{option_and_then, option_map_or}
use Rattle.std.specs.Str.{bytes_eq}
use Rattle.clap.specs.Words.{Text}
use Rattle.chaos_link.specs.Peers.{PeersView}
use Rattle.chaos_link.specs.declared.limits.TheConstants.{MAX_PEERS}
use Rattle.chaos_link.specs.declared.peers.Peer.{Peer}
use Rattle.chaosd_hosts.specs.Addresses.{address_of, sides_of}
use Rattle.chaosd_line.specs.Values.{is_known, peers_of, with_peer}

-- a star (42) in place of a UDP address: the host is followed
abbrev pub names_followed : Text → Bool
names_followed text = option_map_or (λ sides. bytes_eq sides.1 (codes "*")) (sides_of text) false

abbrev pub followed_of : Text → Option ℕ
followed_of text = option_and_then (λ sides. address_of sides.0) (sides_of text)

-- a word that names a host to be followed adds no peer
unfoldable pub with_peer_word : PeersView → Text → Option PeersView
with_peer_word peers text = if names_followed text then Some peers else with_peer peers text

-- the peers that the other words name
abbrev pub peers_among : List Text → Option PeersView
peers_among texts = peers_of (filter (λ text. not (names_followed text)) texts)

abbrev pub is_followed : ℕ → List ℕ → Bool
is_followed address followed = list_any (λ a. a == address) followed

-- an address comes last, if there is room beside the peers, and it is neither a peer's nor there already
unfoldable pub with_followed : List Peer → List ℕ → ℕ → Option (List ℕ)
with_followed hosts followed address =
    if nat_lt (length hosts + length followed) MAX_PEERS && not (is_known address hosts || is_followed address followed)
    then Some (followed ++ address ∷ [])
    else None

unfoldable pub with_followed_word : List Peer → List ℕ → Text → Option (List ℕ)
with_followed_word hosts followed text = if names_followed text
    then option_and_then (with_followed hosts followed) (followed_of text)
    else Some followed

-- the followed addresses, and those of the words behind them
abbrev pub followed_after : List Peer → List Text → List ℕ → Option (List ℕ)
followed_after hosts [] followed = Some followed
followed_after hosts (text ∷ texts) followed =
    option_and_then (followed_after hosts texts) (with_followed_word hosts followed text)

abbrev pub followed_among : List Peer → List Text → Option (List ℕ)
followed_among hosts texts = followed_after hosts texts []

-- the hosts of `serve`: an address stands once in both, and there are 32 in all
unfoldable pub known_hosts : List Text → Option (PeersView × List ℕ)
known_hosts texts = option_and_then
    (λ peers. option_map (λ followed. (peers, followed)) (followed_among peers.hosts texts))
    (peers_among texts)

-- the hosts of `ask`, which follows none
unfoldable pub asked_peers : List Text → Option PeersView
asked_peers texts = if list_any names_followed texts then None else peers_among texts
