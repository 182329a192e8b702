-- The sources of the packets that a datagram carries.
use Rattle.std.specs.Prelude.{◌≡◌, ◌⊎◌, ℕ, true, List, [], All, map}
use Rattle.chaos_packet.specs.Packet.{PacketView}
use Rattle.chaos_link.specs.Packets.{CarriesAll}
use Rattle.chaos_seal.specs.Peers.{SealsView, is_heard_in_clear}

-- Each packet that the bytes carry, by either version, has such a source.
abbrev pub EachSource : (ℕ → Type 0) → List ℕ → Type 0
EachSource P bs = (packets : List PacketView) → CarriesAll packets bs → All (λ packet. P packet.src) packets

-- each packet comes from this host
abbrev pub IsAllFrom : ℕ → List ℕ → Type 0
IsAllFrom from bs = EachSource (λ source. source ≡ from) bs

-- each packet comes from a host that is heard in clear
abbrev pub IsClear : SealsView → List ℕ → Type 0
IsClear v bs = EachSource (λ source. is_heard_in_clear source v ≡ true) bs

-- The sources of the packets, and none where the bytes carry no packets.
abbrev pub AreSources : List ℕ → List ℕ → Type 0
AreSources bs sources =
    ((packets : List PacketView) × CarriesAll packets bs × (sources ≡ map (λ packet. packet.src) packets))
    ⊎ (((packets : List PacketView) → CarriesAll packets bs → ⊥) × (sources ≡ []))
