-- What comes from the other host: packets that the other host sent. Each packet is fresh when that packet comes.
--
--    the other host sent     0: RFC    1: STS    2: data    3: data    4: data
--                                                  |          |
--    a datagram came                               2: data    3: data         numbers [2, 3]
--                                                  ^          ^
--                                     fresh in the net now    fresh in the net after packet 2 came
use Rattle.std.specs.Prelude.{◌≡◌, ℕ, List, [], ◌∷◌, map, Some, Ok, slice_get, ⊤}
use Rattle.chaos_packet.specs.Packet.{PacketView}
use Rattle.chaos_host.specs.Deeds.{HostEvent}
use Rattle.chaos_host.specs.View.{HostView}
use Rattle.chaos_lab.specs.declared.side.Side.{Side}
use Rattle.chaos_lab.specs.Machine.{other}
use Rattle.chaos_net.specs.Net.{Sent, Net, NetEvent, CanHappen, after_events}
use Rattle.chaos_net.specs.Net.NetEvent.{At, Arrives}
use Rattle.chaos_node.specs.Arrive.{Arrival}

-- The packets are those that have these numbers among all packets that were sent.
abbrev pub AreSent : List Sent → List ℕ → List PacketView → Type 0
AreSent sent [] [] = ⊤
AreSent sent (k ∷ ks) (p ∷ ps) =
    ((q : Sent) × (slice_get sent k ≡ Some q) × (q.packet ≡ p)) × AreSent sent ks ps
AreSent sent ks ps = ⊥

-- what a host does on its own after a packet came, before the host takes the next packet
abbrev pub Upon : Type 0
Upon = PacketView → HostView → List HostEvent

-- nothing
abbrev pub nothing_upon : Upon
nothing_upon p h = []

-- the packet with a number comes, and then the host does that
abbrev pub coming : Upon → Net → Side → ℕ → ℕ → PacketView → List NetEvent
coming upon n x now k p = Arrives x k now ∷ map (At x) (upon p (n x).host)

-- The packets come one after another, and each packet is fresh when that packet comes.
abbrev pub AreFresh : Upon → Net → Side → ℕ → List ℕ → List PacketView → Type 0
AreFresh upon n x now (k ∷ ks) (p ∷ ps) =
    CanHappen n (Arrives x k now) × AreFresh upon (after_events n (coming upon n x now k p)) x now ks ps
AreFresh upon n x now ks ps = ⊤

-- If packets came, then the other host sent the packets, with these numbers.
abbrev pub ComeFrom : Net → Side → List ℕ → Arrival → Type 0
ComeFrom n x numbers (Some (Ok packets)) = AreSent (n (other x)).sent numbers packets
ComeFrom n x numbers _ = ⊤

-- Each packet that came is fresh when that packet comes.
abbrev pub ComeFresh : Upon → Net → Side → ℕ → List ℕ → Arrival → Type 0
ComeFresh upon n x now numbers (Some (Ok packets)) = AreFresh upon n x now numbers packets
ComeFresh upon n x now numbers _ = ⊤
