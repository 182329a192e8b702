-- What a server makes of the datagram that came.
use Rattle.std.specs.Prelude.{ℕ, if◌then◌else◌, Option, Some, None, Ok, codes}
use Rattle.std.specs.Str.{bytes_eq}
use Rattle.chaos_packet.specs.Packet.{PacketView, contact_of}
use Rattle.chaos_conn.specs.Act.{Accept}
use Rattle.chaos_host.specs.declared.answers.HostDelivered.{HostDelivered}
use Rattle.chaos_host.specs.declared.answers.HostDelivered.TheVariants as answer
use Rattle.chaos_host.specs.Calls.{host_call}
use Rattle.chaos_host.specs.Deliver.{host_deliver}
use Rattle.chaos_host.specs.View.{HostView}
use Rattle.chaos_node.specs.Arrive.{Arrival, deliver_effect}
use Rattle.chaos_node.specs.Phase.{Effect, no_effect_on, effect_of, and_then, over_packets}

-- the new connection of a request for FILE
abbrev pub request_in : PacketView → HostDelivered → Option ℕ
request_in p (answer.Requested id) = if bytes_eq (contact_of p) (codes "FILE") then Some id else None
request_in p _ = None

-- a request is accepted
abbrev pub accept_by : HostView → ℕ → ℕ → Option ℕ → Effect
accept_by h start now None = no_effect_on h
accept_by h start now (Some id) = effect_of (host_call h id (Accept start now))

-- a packet is delivered, and the request for FILE that it is, is accepted
abbrev pub greet : ℕ → ℕ → PacketView → HostView → Effect
greet start now p h =
    and_then (deliver_effect now p h) (λ after. accept_by after start now (request_in p (host_deliver h p now).answer))

-- so is each packet in turn; a datagram that carries none is dropped
abbrev pub arrive_at_server : Arrival → ℕ → ℕ → HostView → Effect
arrive_at_server (Some (Ok packets)) start now h = over_packets (greet start now) packets h
arrive_at_server _ start now h = no_effect_on h
