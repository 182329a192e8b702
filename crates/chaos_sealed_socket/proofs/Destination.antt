-- The destination of a datagram is that of its packets.
use Rattle.std.proofs.Common.{◌≡◌, ℕ, ◌+◌, ◌*◌, ◌/◌, ◌%◌, ◌≤◌, false, nat_lt, List, [], ◌∷◌, length, length-take, get_or, take, Some, All, refl, arith, ap, subst, sym, ◌∙◌, inl, inr}
use Rattle.std.proofs.lemmas.Bool.Decides.{nat_tests}
use Rattle.std.proofs.lemmas.List.{get_or-take}
use Rattle.std.proofs.lemmas.List.Elements.{All-head}
use Rattle.chaos_packet.specs.Packet.{PacketView}
use Rattle.chaos_link.specs.Datagram.{wire}
use Rattle.chaos_link.specs.Packets.{SpellsAll}
use Rattle.chaos_sealed_socket.specs.Law.{HasTheirDestination}
use Rattle.chaos_sealed_socket.specs.Socket.{destination_of}

-- the third word behind a mark
third_word : (version number : ℕ) (ws : List ℕ) → 8 ≤ length ws
    → destination_of (0x43 ∷ 0x48 ∷ version ∷ number ∷ wire ws) ≡ Some (get_or ws 2 0)
third_word version number [] long = absurd (omega arith)
third_word version number (a ∷ []) long = absurd (omega arith)
third_word version number (a ∷ b ∷ []) long = absurd (omega arith)
third_word version number (a ∷ b ∷ c ∷ ws) long =
    let bytes : List ℕ = 0x43 ∷ 0x48 ∷ version ∷ number ∷ wire (a ∷ b ∷ c ∷ ws) in
    let enough : nat_lt (length bytes) 10 ≡ false = grind (arith, nat_tests) in
    let whole : 256 * (c / 256) + c % 256 ≡ c = omega arith in
    rw (enough, whole) refl

-- that of the first of several packets
first_word : (to : ℕ) (ps : List PacketView) (ws : List ℕ) → 1 ≤ length ps → SpellsAll ps ws → All (λ p. p.dst ≡ to) ps
    → (8 ≤ length ws) × (get_or ws 2 0 ≡ to)
first_word to [] ws some spelled all = absurd (omega arith)
first_word to (p ∷ ps) ws some (n, within, spelled, others) all =
    let size : 8 ≤ length (take n ws) = spelled.header in
    let long : 8 ≤ n = omega (arith, length-take n ws, size) in (
      omega (arith, long, within),
      sym (get_or-take n ws 2 0 (omega (arith, long))) ∙ spelled.dst ∙ All-head (λ (q : PacketView). q.dst ≡ to) p ps all,
    )

pub has_their_destination : HasTheirDestination
has_their_destination to ps bytes (inl (p, one, (ws, spelled, is))) all =
    let first : p.dst ≡ to =
    All-head (λ (q : PacketView). q.dst ≡ to) p [] (subst (All (λ (q : PacketView). q.dst ≡ to)) one all) in
    ap destination_of is ∙ third_word 1 0 ws spelled.header ∙ ap Some (spelled.dst ∙ first)
has_their_destination to ps bytes (inr two) all =
    let first = first_word to ps two.words two.some two.spelled all in
    ap destination_of two.bytes ∙ third_word 2 (length ps) two.words first.0 ∙ ap Some first.1
