-- What a turn makes of the datagram that came.
use Rattle.std.specs.Prelude.{◌≡◌, ℕ, List, [], ◌∷◌, Option, Some, None, Result, Ok, option_map, slice_get}
use Rattle.chaos_packet.specs.Packet.{PacketView}
use Rattle.chaos_host.specs.declared.answers.HostDelivered.{HostDelivered}
use Rattle.chaos_host.specs.Deliver.{host_deliver}
use Rattle.chaos_host.specs.Disposition.{host_with_packet}
use Rattle.chaos_host.specs.View.{HostView}
use Rattle.chaos_link.specs.declared.fault.LinkFault.{LinkFault}
use Rattle.chaos_link.specs.Link.{QueueView, without_first}
use Rattle.chaos_link.specs.Packets.{packets_read}
use Rattle.chaos_node.specs.declared.last_packet.LastPacket.{LastPacket}
use Rattle.chaos_node.specs.Phase.{Effect, no_effect_on, effect_of, over_packets}

-- what comes: the packets of a datagram of either version, or why it carries none; or no datagram
abbrev pub Arrival : Type 0
Arrival = Option (Result (List PacketView) LinkFault)

-- what comes from a queue
abbrev pub arrival_from : QueueView → Arrival
arrival_from queue = option_map (λ d. packets_read d.bytes) (slice_get queue.datagrams 0)

-- The oldest datagram of a queue was received.
abbrev pub Receives : Arrival → Option QueueView → QueueView → Type 0
Receives came after queue = (came ≡ arrival_from queue) × (after ≡ Some (without_first queue))

-- ---- its packets are delivered, and nothing is accepted

-- a packet is delivered
abbrev pub deliver_effect : ℕ → PacketView → HostView → Effect
deliver_effect now p h = effect_of (host_deliver h p now)

abbrev pub arrive_at_client : Arrival → ℕ → HostView → Effect
arrive_at_client (Some (Ok packets)) now h = over_packets (deliver_effect now) packets h
arrive_at_client _ now h = no_effect_on h

-- what the host answered to the last packet that came, where one came: what became of it, with the packet where that is
-- handed out
abbrev pub answer_to : LastPacket → Option HostDelivered
answer_to last = option_map (λ became. host_with_packet became last.packet) last.became

-- what became of the last of these packets; where there is none, what was told before them
abbrev pub told_after : Option HostDelivered → List PacketView → ℕ → HostView → Option HostDelivered
told_after told [] now h = told
told_after told (p ∷ ps) now h = told_after (Some (host_deliver h p now).answer) ps now (host_deliver h p now).view

-- what became of the last packet that came, where one did
abbrev pub told_at_client : Arrival → ℕ → HostView → Option HostDelivered
told_at_client (Some (Ok packets)) now h = told_after None packets now h
told_at_client _ now h = None
