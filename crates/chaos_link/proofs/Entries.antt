-- The entries of peers with one entry changed, or one more.
use Rattle.std.proofs.Common.{◌≡◌, ℕ, zero, suc, ◌<◌, ◌≤◌, ◌==◌, Bool, true, false, cond, nat_lt, List, [], ◌∷◌, ◌++◌, length, get_or, Option, Some, None, refl, ap, ap₂, ◌∙◌, arith}
use Rattle.std.specs.Prelude.{find, option_map, position, slice_set}
use Rattle.std.specs.List.{position_or_len}
use Rattle.std.specs.Option.{option_or}
use Rattle.std.proofs.lemmas.Bool.Decides.{nat_tests}
use Rattle.std.proofs.lemmas.List.{get_or_default}
use Rattle.std.proofs.lemmas.List.Folds.{find_at, find-append, find-set, find_past}
use Rattle.std.proofs.lemmas.List.Quantifiers.{position-Some}
use Rattle.std.proofs.lemmas.Option.{slice_get_past}
use Rattle.std.specs.declared.net.socket_addr.SocketAddrV4.{SocketAddrV4}
use Rattle.chaos_link.specs.Peers.{IsKnown, socket_of}
use Rattle.chaos_link.specs.declared.peers.Peer.{Peer}

-- whether an entry has this address
abbrev has : ℕ → Peer → Bool
has address host = host.address == address

-- where the place that is found is the first
first_place : (b : Bool) (n i : ℕ) → cond b (Some n) None ≡ Some i → i ≡ n
first_place true n i e = cc
first_place false n i e = absurd (cc)

no_place : (b : Bool) (n : ℕ) → cond b (Some n) None ≡ None → b ≡ false
no_place true n e = absurd (cc)
no_place false n e = refl

-- where there is no place, nothing is found
none_found : (address : ℕ) (hosts : List Peer) → position (has address) hosts ≡ None → find (has address) hosts ≡ None
none_found address hosts none =
    let past : nat_lt (position_or_len (has address) hosts) (length hosts) ≡ false = no_place _ _ none in
    let behind : length hosts ≤ position_or_len (has address) hosts = grind (arith, nat_tests) in
    find_at (has address) hosts ∙ slice_get_past hosts (position_or_len (has address) hosts) behind

not_among : (address : ℕ) (hosts : List Peer) (k : ℕ) (d : Peer) → find (has address) hosts ≡ None → k < length hosts
    → (get_or hosts k d).address ≡ address → ⊥
not_among address [] k d none inside is = omega arith
not_among address (host ∷ hosts) zero d none inside is =
    let here : has address host ≡ true = grind (arith, nat_tests) in
    let found : find (has address) (host ∷ hosts) ≡ Some host =
    ap (λ (b : Bool). cond b (Some host) (find (has address) hosts)) here in
    cc
not_among address (host ∷ hosts) (suc k) d none inside is =
    elim (has address host) as (λ b. cond b (Some host) (find (has address) hosts) ≡ None → ⊥) [
      | true ↦ λ wrong. cc
      | false ↦ λ rest. not_among address hosts k d rest (omega arith) is
    ]
    none

module _ (peer : Peer) (hosts : List Peer) where
  pub unknown : position (λ host. host.address == peer.address) hosts ≡ None → IsKnown peer.address hosts → ⊥
  unknown none known =
      not_among peer.address hosts known.0 known.1 (none_found peer.address hosts none) known.2
      (ap (λ (host : Peer). host.address) known.3 ∙ known.4)

  pub known_at : (place : ℕ) → position (λ host. host.address == peer.address) hosts ≡ Some place
      → IsKnown peer.address hosts
  known_at place is =
      let at = position-Some (has peer.address) hosts place peer is in
      let same : (get_or hosts place peer).address ≡ peer.address = grind (arith, nat_tests) in
      (place, get_or hosts place peer, at.0, get_or_default hosts place _ _ at.0, same)

  module _ (bridge : Option SocketAddrV4) where
    -- an entry in the place of the one with its address
    pub changed_found : (place : ℕ) → position (λ host. host.address == peer.address) hosts ≡ Some place
        → socket_of peer.address (record { hosts = slice_set hosts place peer; bridge = bridge }) ≡ Some peer.socket
    changed_found place is =
        let at = position-Some (has peer.address) hosts place peer is in
        let own : has peer.address peer ≡ true = grind (arith, nat_tests) in
        ap (λ (o : Option Peer). option_or (option_map (λ host. host.socket) o) bridge)
        (find-set (has peer.address) hosts place peer (first_place _ _ _ is) at.0 own)

    pub changed_others : (place : ℕ) → position (λ host. host.address == peer.address) hosts ≡ Some place
        → (address : ℕ) → (address ≡ peer.address → ⊥)
        → socket_of address (record { hosts = slice_set hosts place peer; bridge = bridge })
        ≡ socket_of address (record { hosts = hosts; bridge = bridge })
    changed_others place is address other =
        let at = position-Some (has peer.address) hosts place peer is in
        let before : has address (get_or hosts place peer) ≡ false = grind (arith, nat_tests) in
        let after : has address peer ≡ false = grind (arith, nat_tests) in
        ap (λ (o : Option Peer). option_or (option_map (λ host. host.socket) o) bridge)
        (find_past (has address) hosts place peer peer before after)

    -- an entry behind the others
    pub added_found : position (λ host. host.address == peer.address) hosts ≡ None
        → socket_of peer.address (record { hosts = hosts ++ peer ∷ []; bridge = bridge }) ≡ Some peer.socket
    added_found none =
        let own : has peer.address peer ≡ true = grind (arith, nat_tests) in
        ap (λ (o : Option Peer). option_or (option_map (λ host. host.socket) o) bridge)
        (find-append (has peer.address) hosts (peer ∷ [])
        ∙ ap₂ (λ (o : Option Peer) (b : Bool). option_or o (cond b (Some peer) None)) (none_found peer.address hosts none) own)

    pub added_others : (address : ℕ) → (address ≡ peer.address → ⊥)
        → socket_of address (record { hosts = hosts ++ peer ∷ []; bridge = bridge })
        ≡ socket_of address (record { hosts = hosts; bridge = bridge })
    added_others address other =
        let after : has address peer ≡ false = grind (arith, nat_tests) in
        ap (λ (o : Option Peer). option_or (option_map (λ host. host.socket) o) bridge)
        (find-append (has address) hosts (peer ∷ [])
        ∙ ap (λ (b : Bool). option_or (find (has address) hosts) (cond b (Some peer) None)) after
        ∙ or_none (find (has address) hosts))
      where
        or_none : (o : Option Peer) → option_or o None ≡ o
        or_none None = refl
        or_none (Some x) = refl
