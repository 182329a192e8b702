-- One turn over a link. One of a host that serves nothing: what came is taken, then each slot is ticked whose timer doesn't
-- hold the tick back.
use Rattle.std.specs.Prelude.{◌≡◌, ℕ, Bool, true, if◌then◌else◌, List, ◌∷◌, length, Option, Some, IfSome, is_some}
use Rattle.chaos_packet.specs.Packet.{PacketView}
use Rattle.chaos_host.specs.View.{HostView}
use Rattle.chaos_host.specs.declared.answers.HostDelivered.{HostDelivered}
use Rattle.chaos_link.specs.declared.carriage.Carriage.{Carriage}
use Rattle.chaos_link.specs.Loads.{packets_of}
use Rattle.chaos_link.specs.Link.{Ask, QueueView, without_first}
use Rattle.chaos_node.specs.Arrive.{Arrival, arrival_from, arrive_at_client, told_at_client}
use Rattle.chaos_node.specs.End.{TellsWork}
use Rattle.chaos_node.specs.Link.{datagrams_of, has_packets, read_all, sent_by, sent_into, turn_asks}
use Rattle.chaos_node.specs.Phase.{Effect, and_then, over_slots}
use Rattle.chaos_node.specs.Station.{Station}
use Rattle.chaos_node.specs.Timer.{tick_by}
use Rattle.chaos_node.specs.declared.end.TurnEnd.{TurnEnd}
use Rattle.chaos_node.specs.declared.timer.RetransmitTimer.{RetransmitTimer}

-- what a turn of a client with these timers makes of what came
abbrev pub client_phases : List RetransmitTimer → Arrival → ℕ → HostView → Effect
client_phases timers came now h = and_then (arrive_at_client came now h) (over_slots (tick_by timers now) (length h.slots))

-- ---- the link and the outbox in a turn

-- What stands in a queue after a turn: what waited in the outbox was sent first, then a datagram was received, and then
-- the lots of the turn were sent.
abbrev pub queue_after : Carriage → QueueView → List PacketView → List (List PacketView) → QueueView
queue_after carriage queue waiting lots =
    sent_into (without_first (sent_into queue (datagrams_of carriage waiting))) (sent_by carriage lots)

-- There is work where a datagram came, or a packet went out: one that waited, or one of the turn.
abbrev pub has_work : List PacketView → Arrival → List (List PacketView) → Bool
has_work waiting came lots = if is_some came then true else has_packets (waiting ∷ lots)

module _ {N : Type 0} where
  -- A turn over a link by this carriage, in which this came and these lots went out.
  pub record GoesOver (asked : List Ask → Type 0) (may_wait : Bool) (carriage : Carriage) (came : Arrival)
      (lots : List (List PacketView)) (before after : Station N) (result : TurnEnd) : Type 0 where
    pub queue : IfSome before.queue
        (λ queue. (came ≡ arrival_from (sent_into queue (datagrams_of carriage before.outbox.packets)))
        × (after.queue ≡ Some (queue_after carriage queue before.outbox.packets lots)))
    -- any link was asked exactly this: the turn gives any link what it gives a queue
    pub asks : asked (turn_asks carriage may_wait before.outbox.packets lots)
    -- of what was posted the packets are read that went out
    pub read : read_all (sent_by carriage (before.outbox.packets ∷ lots)) ≡ packets_of (before.outbox.packets ∷ lots)
    pub work : TellsWork (has_work before.outbox.packets came lots) result

-- A whole turn of a client with these timers at its link, by this carriage; what became of the last packet that came was told.
pub record RunsClientTurn (timers : List RetransmitTimer) (asked : List Ask → Type 0) (may_wait : Bool) (carriage : Carriage) (now : ℕ)
    (before after : Station HostView) (result : TurnEnd) (answer : Option HostDelivered) : Type 0 where
  pub came : Arrival
  pub host : after.node ≡ (client_phases timers came now before.node).host
  pub told : answer ≡ told_at_client came now before.node
  pub link : GoesOver asked may_wait carriage came (client_phases timers came now before.node).lots before after result
