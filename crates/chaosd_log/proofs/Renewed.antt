-- Where hosts were heard, when the peers change.
use Rattle.std.proofs.Common.{◌≡◌, ℕ, zero, suc, ◌<◌, ◌≤◌, ◌==◌, Bool, true, false, if◌then◌else◌, List, [], ◌∷◌, length, get_or, Option, Some, None, refl, ap, sym, ◌∙◌, arith, option_map}
use Rattle.std.specs.Prelude.{slice_get}
use Rattle.std.proofs.lemmas.Bool.{false≢true}
use Rattle.std.proofs.lemmas.Bool.Decides.{nat_tests}
use Rattle.std.proofs.lemmas.List.FromFn.{get_or-map-range_with_len}
use Rattle.chaos_link.specs.Peers.{IsKnown, PeersView}
use Rattle.chaos_link.specs.declared.peers.Peer.{Peer}
use Rattle.chaosd_log.specs.PeerSources.{PeerSourcesView, place_of, renewed, source_at, source_in, source_of_peer}

-- the place of a host among these peers, and its peer there
record Stands (address : ℕ) (peers : List Peer) : Type 0 where
  place : ℕ
  peer : Peer
  place_is : place_of address peers ≡ Some place
  there : slice_get peers place ≡ Some peer
  own : peer.address ≡ address
  inside : place < length peers

stands : (address : ℕ) (peers : List Peer) (k : ℕ) (d : Peer) → k < length peers → (get_or peers k d).address ≡ address
    → Stands address peers
stands address [] k d inside is = absurd (omega arith)
stands address (peer ∷ peers) k d inside is =
    elim (peer.address == address) as (λ b. (peer.address == address) ≡ b → Stands address (peer ∷ peers)) [
      | true ↦ λ here. record {
        place = 0;
        peer = peer;
        place_is = ap (λ (b : Bool). if b then Some 0 else option_map suc (place_of address peers)) here;
        there = refl;
        own = grind (arith, nat_tests);
        inside = omega arith;
      }
      | false ↦ λ here. behind here (λ k inside is. stands address peers k d inside is) k inside is
    ]
    refl
  where
    behind : (peer.address == address) ≡ false
        → ((k : ℕ) → k < length peers → (get_or peers k d).address ≡ address → Stands address peers)
        → (k : ℕ) → k < length (peer ∷ peers) → (get_or (peer ∷ peers) k d).address ≡ address
        → Stands address (peer ∷ peers)
    behind here others zero inside is =
        let wrong : (peer.address == address) ≡ true = grind (arith, nat_tests) in
        absurd (false≢true (sym here ∙ wrong))
    behind here others (suc k) inside is =
        let other = others k (omega arith) is in record {
          place = suc other.place;
          peer = other.peer;
          place_is =
              ap (λ (b : Bool). if b then Some 0 else option_map suc (place_of address peers)) here
              ∙ ap (option_map suc) other.place_is;
          there = other.there;
          own = other.own;
          inside = omega (arith, other.inside);
        }

-- a peer of now was heard last where its host was heard before
pub heard_before : (peers : PeersView) (sources : PeerSourcesView) → length peers.hosts ≤ 32 → (address : ℕ)
    → IsKnown address peers.hosts → source_at address (renewed peers sources) ≡ source_at address sources
heard_before peers sources few address known =
    let at = stands address peers.hosts known.0 known.1 known.2 (ap (λ (peer : Peer). peer.address) known.3 ∙ known.4) in
    let f : ℕ → Option _ = λ place. source_of_peer (slice_get peers.hosts place) sources in
    ap (λ (place : Option ℕ). source_in place address (renewed peers sources)) at.place_is
    ∙ get_or-map-range_with_len f 0 32 at.place at.place None (omega (arith, few, at.inside)) (omega arith)
    ∙ ap (λ (peer : Option Peer). source_of_peer peer sources) at.there
    ∙ ap (λ (a : ℕ). source_at a sources) at.own
