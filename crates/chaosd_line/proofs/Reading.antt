-- What a table of peers takes is what the functions say.
use Rattle.std.proofs.Common.{◌≡◌, ◌∙◌, ◌<◌, ◌+◌, ◌++◌, ◌∷◌, ◌==◌, ℕ, Bool, true, false, List, [], Option, Some, length, map, filter, not, drop, get_or, ap, refl, arith, option_and_then}
use Rattle.std.proofs.lemmas.Bool.{false_from_ne_true, lt-ltb}
use Rattle.std.proofs.lemmas.List.{at_drop_more}
use Rattle.std.proofs.lemmas.List.Folds.{Any-from_list_any}
use Rattle.clap.specs.Words.{Text}
use Rattle.chaos_link.specs.Peers.{IsKnown, PeersView}
use Rattle.chaos_link.specs.declared.limits.TheConstants.{MAX_PEERS}
use Rattle.chaos_link.specs.declared.peers.Peer.{Peer}
use Rattle.chaosd_line.specs.Followed.{followed_after, names_followed, with_followed_word, with_peer_word}
use Rattle.chaosd_line.specs.Values.{is_known, peers_after, with_host}

-- a host that the table takes
pub host_added : (peers : PeersView) (host : Peer) → length peers.hosts < MAX_PEERS → ¬ (IsKnown host.address peers.hosts)
    → with_host peers host ≡ Some (record peers { hosts = peers.hosts ++ host ∷ [] })
unfolding with_host
host_added peers host room fresh =
    let new : is_known host.address peers.hosts ≡ false =
    false_from_ne_true _ (λ e.
    let k = Any-from_list_any (λ p. p.address == host.address) peers.hosts e in
    fresh (k.0, k.1, k.2, k.3, grind (arith, k.4))) in
    rw (lt-ltb (length peers.hosts) MAX_PEERS room, new) refl

-- a word that names a host to be followed is left out
word_kept : (text : Text) (texts : List Text) (peers : PeersView)
    → peers_after (filter (λ t. not (names_followed t)) (text ∷ texts)) peers
    ≡ option_and_then (peers_after (filter (λ t. not (names_followed t)) texts)) (with_peer_word peers text)
unfolding with_peer_word
word_kept text texts peers = by_case (names_followed text) refl
  where
    by_case : (b : Bool) → names_followed text ≡ b
        → peers_after (filter (λ t. not (names_followed t)) (text ∷ texts)) peers
        ≡ option_and_then (peers_after (filter (λ t. not (names_followed t)) texts)) (with_peer_word peers text)
    by_case true e = rw e refl
    by_case false e = rw e refl

-- one word more
pub peers_step : {X : Type 0} (f : X → Text) (xs : List X) (i : ℕ) (d : X) (peers : PeersView) (o : Option PeersView)
    → i < length xs → with_peer_word peers (f (get_or xs i d)) ≡ o
    → peers_after (filter (λ t. not (names_followed t)) (map f (drop i xs))) peers
    ≡ option_and_then (peers_after (filter (λ t. not (names_followed t)) (map f (drop (i + 1) xs)))) o
peers_step f xs i d peers o lt e =
    let rest = map f (drop (i + 1) xs) in
    at_drop_more (λ ts. peers_after (filter (λ t. not (names_followed t)) (map f ts)) peers) xs i d lt
    ∙ word_kept (f (get_or xs i d)) rest peers
    ∙ ap (option_and_then (peers_after (filter (λ t. not (names_followed t)) rest))) e

-- the same for the hosts that are followed
pub followed_step : {X : Type 0} (f : X → Text) (xs : List X) (i : ℕ) (d : X) (hosts : List Peer) (followed : List ℕ)
    (o : Option (List ℕ))
    → i < length xs → with_followed_word hosts followed (f (get_or xs i d)) ≡ o
    → followed_after hosts (map f (drop i xs)) followed
    ≡ option_and_then (followed_after hosts (map f (drop (i + 1) xs))) o
followed_step f xs i d hosts followed o lt e =
    at_drop_more (λ ts. followed_after hosts (map f ts) followed) xs i d lt
    ∙ ap (option_and_then (followed_after hosts (map f (drop (i + 1) xs)))) e
