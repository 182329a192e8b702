-- When peers have a place for a host.
use Rattle.std.proofs.Common.{◌≡◌, ◌==◌, ℕ, true, false, length, not}
use Rattle.std.specs.List.{list_any}
use Rattle.std.proofs.lemmas.Bool.{both_ways, eq-eqb, eqb-true, false_from_ne_true, not-false, not_from_true, or_from, or_parts, true_from_ne_false}
use Rattle.std.proofs.lemmas.List.Folds.{Any-from_list_any, list_any-from_Any}
use Rattle.chaos_link.specs.Peers.{IsKnown, PeersView}
use Rattle.chaos_link.specs.declared.limits.TheConstants.{MAX_PEERS}
use Rattle.chaosd_hosts.specs.Following.{has_place}

pub place_there : (peers : PeersView) (address : ℕ) → ¬ ((length peers.hosts ≡ MAX_PEERS) × ¬ (IsKnown address peers.hosts))
    → has_place address peers ≡ true
place_there peers address room =
    true_from_ne_false _ (λ e.
    let parts = or_parts (not (length peers.hosts == MAX_PEERS)) (list_any (λ peer. peer.address == address) peers.hosts) e in
    room (
      eqb-true (length peers.hosts) MAX_PEERS (not-false (length peers.hosts == MAX_PEERS) parts.0),
      (λ known.
          both_ways (list_any (λ peer. peer.address == address) peers.hosts) parts.1
          (list_any-from_Any (λ peer. peer.address == address) peers.hosts (known.0, known.1, known.2, known.3, eq-eqb _ address known.4))),
    ))

pub place_missing : (peers : PeersView) (address : ℕ) → (length peers.hosts ≡ MAX_PEERS) × ¬ (IsKnown address peers.hosts)
    → has_place address peers ≡ false
place_missing peers address none =
    or_from (not (length peers.hosts == MAX_PEERS)) (list_any (λ peer. peer.address == address) peers.hosts)
    (not_from_true (length peers.hosts == MAX_PEERS) (eq-eqb (length peers.hosts) MAX_PEERS none.0))
    (false_from_ne_true _ (λ e.
    let k = Any-from_list_any (λ peer. peer.address == address) peers.hosts e in
    none.1 (k.0, k.1, k.2, k.3, eqb-true _ address k.4)))
