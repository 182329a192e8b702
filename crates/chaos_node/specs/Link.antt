-- Packets sent into a link, and what the link is asked.
use Rattle.std.specs.Prelude.{◌≡◌, ℕ, Bool, true, false, List, [], ◌∷◌, ◌++◌, map, All, Option, Some, IfSome, Result, Ok, Err}
use Rattle.chaos_packet.specs.Packet.{PacketView}
use Rattle.chaos_link.specs.declared.carriage.Carriage.{Carriage}
use Rattle.chaos_link.specs.declared.carriage.Carriage.TheVariants.{One, Two}
use Rattle.chaos_link.specs.Bundle.{datagram_of_all}
use Rattle.chaos_link.specs.Datagram.{datagram_of}
use Rattle.chaos_link.specs.Link.{Addressed, Ask, QueueView, Receive, to_send, with_datagram}
use Rattle.chaos_link.specs.Loads.{EachSpelled, loads_of, packets_of}
use Rattle.chaos_link.specs.Packets.{packets_read}
use Rattle.chaos_link.specs.declared.fault.LinkFault.{LinkFault}

-- a packet's canonical datagram, to the packet's destination
abbrev pub datagram_for : PacketView → Addressed
datagram_for p = record { to = p.dst; bytes = datagram_of p }

-- where a load goes: all its packets go where the first does
abbrev pub destination_of : List PacketView → ℕ
destination_of [] = 0
destination_of (p ∷ ps) = p.dst

-- a load's datagram, to the load's destination
abbrev pub datagram_for_all : List PacketView → Addressed
datagram_for_all load = record { to = destination_of load; bytes = datagram_of_all load }

-- the datagrams that packets go out in, in order: each as its canonical one, or each load of them as one of version 2
abbrev pub datagrams_of : Carriage → List PacketView → List Addressed
datagrams_of One packets = map datagram_for packets
datagrams_of Two packets = map datagram_for_all (loads_of packets)

-- the datagrams that lots of packets go out in, lot by lot; a lot is what goes out at once
abbrev pub sent_by : Carriage → List (List PacketView) → List Addressed
sent_by carriage [] = []
sent_by carriage (lot ∷ lots) = datagrams_of carriage lot ++ sent_by carriage lots

-- packets of which each is a lot of its own, and so goes in a datagram of its own
abbrev pub singly : List PacketView → List (List PacketView)
singly packets = map (λ p. p ∷ []) packets

-- datagrams sent in order; one that finds the queue full is lost
abbrev pub sent_into : QueueView → List Addressed → QueueView
sent_into queue [] = queue
sent_into queue (d ∷ ds) = sent_into (with_datagram d queue) ds

-- The link, where it is a queue, took these datagrams.
abbrev pub Sends : Option QueueView → List Addressed → Option QueueView → Type 0
Sends before datagrams after = IfSome before (λ queue. after ≡ Some (sent_into queue datagrams))

-- what a turn asks of its link: to send what waited; then once to receive, and whether the link may wait for that; then to send
-- the turn's lots
abbrev pub turn_asks : Carriage → Bool → List PacketView → List (List PacketView) → List Ask
turn_asks carriage may_wait waiting lots =
    to_send (datagrams_of carriage waiting) ++ Receive may_wait ∷ to_send (sent_by carriage lots)

-- there is a packet in one of these lots
abbrev pub has_packets : List (List PacketView) → Bool
has_packets [] = false
has_packets ([] ∷ lots) = has_packets lots
has_packets ((p ∷ ps) ∷ lots) = true

-- The law that packets sent singly in two lots are sent as one.
abbrev pub SendsOneByOne : Type 0
SendsOneByOne = (queue : QueueView) (xs ys : List PacketView)
    → sent_into (sent_into queue (datagrams_of One xs)) (datagrams_of One ys)
    ≡ sent_into queue (datagrams_of One (xs ++ ys))

-- what is read of datagrams, in order: the packets of each, and none of one that carries none
abbrev pub packets_in : Result (List PacketView) LinkFault → List PacketView
packets_in (Ok packets) = packets
packets_in (Err fault) = []

abbrev pub read_all : List Addressed → List PacketView
read_all [] = []
read_all (d ∷ ds) = packets_in (packets_read d.bytes) ++ read_all ds

-- These lots were sent by the carriage: the link was asked to send their datagrams, each once and in order, and nothing else,
-- whatever the link answered. Of their datagrams their packets are read, in their order.
pub record SendsLots (asked : List Ask → Type 0) (carriage : Carriage) (before : Option QueueView)
    (lots : List (List PacketView)) (after : Option QueueView) : Type 0 where
  pub sends : Sends before (sent_by carriage lots) after
  pub asks : asked (to_send (sent_by carriage lots))
  pub read : read_all (sent_by carriage lots) ≡ packets_of lots

-- The law that of the datagrams of either carriage the packets are read that went out, in their order, where words
-- spell each.
abbrev pub IsReadBack : Type 0
IsReadBack =
    (carriage : Carriage) (lots : List (List PacketView)) → All EachSpelled lots
    → read_all (sent_by carriage lots) ≡ packets_of lots
