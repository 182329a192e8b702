-- The one canonical datagram of a packet.
use Rattle.std.proofs.Common.{◌≡◌, ◌++◌, List, ℕ, drop, refl, ap, ◌∙◌}
use Rattle.chaos_packet.specs.Packet.{PacketView}
use Rattle.chaos_packet.specs.Words.{Spells, HasZeroHalves, spelling_of}
use Rattle.chaos_packet.proofs.Packing.{spelled_only}
use Rattle.chaos_link.specs.Datagram.{Canonical, Carries, mark, wire, words_of, datagram_of}
use Rattle.chaos_link.proofs.Words.{words_of-wire}

pub carried_spelling : (p : PacketView) → Spells p (spelling_of p) → Carries p (datagram_of p)
carried_spelling p spelled = (spelling_of p, spelled, refl)

pub canonical_spelling : (p : PacketView) → HasZeroHalves (spelling_of p) → Canonical (datagram_of p)
canonical_spelling p zero_halves = rw (words_of-wire (spelling_of p)) zero_halves

-- what carries the packet with zero free halves is its datagram
pub canonical_only : (p : PacketView) (bs : List ℕ) → Carries p bs → Canonical bs → bs ≡ datagram_of p
canonical_only p bs carried canonical =
    let words : words_of (drop 4 bs) ≡ carried.0 = ap (λ l. words_of (drop 4 l)) carried.2 ∙ words_of-wire carried.0 in
    let zero_halves : HasZeroHalves carried.0 = rw words at canonical in
    carried.2 ∙ ap (λ ws. mark ++ wire ws) (spelled_only p carried.0 carried.1 zero_halves)
