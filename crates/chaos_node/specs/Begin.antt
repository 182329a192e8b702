-- How a turn begins over a link: what waits is sent, then a datagram is received.
use Rattle.std.specs.Prelude.{◌≡◌, Bool, true, if◌then◌else◌, List, [], ◌∷◌, Option, IfSome, is_some}
use Rattle.chaos_packet.specs.Packet.{PacketView}
use Rattle.chaos_link.specs.declared.carriage.Carriage.{Carriage}
use Rattle.chaos_link.specs.Loads.{packets_of}
use Rattle.chaos_link.specs.Link.{Ask, QueueView}
use Rattle.chaos_node.specs.Arrive.{Arrival, Receives}
use Rattle.chaos_node.specs.Link.{datagrams_of, has_packets, read_all, sent_by, sent_into, turn_asks}

-- These packets waited and went out by the carriage, and then this came. There was work where either is something.
pub record Begins (asked : List Ask → Type 0) (may_wait : Bool) (carriage : Carriage) (waiting : List PacketView)
    (before after : Option QueueView) (came : Arrival) (worked : Bool) : Type 0 where
  pub queue : IfSome before (λ queue. Receives came after (sent_into queue (datagrams_of carriage waiting)))
  -- the link was asked to send what waited, and then once to receive; the link may wait there if the turn may
  pub asks : asked (turn_asks carriage may_wait waiting [])
  -- of what was sent the packets are read that waited
  pub read : read_all (sent_by carriage (waiting ∷ [])) ≡ packets_of (waiting ∷ [])
  pub work : worked ≡ (if is_some came then true else has_packets (waiting ∷ []))
