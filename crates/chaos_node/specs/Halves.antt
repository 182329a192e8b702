-- The two halves of a node's turn, between which its owner serves.
use Rattle.std.specs.Prelude.{◌≡◌, ℕ, Bool, true, if◌then◌else◌, List, ◌∷◌, length, Option, Some, IfSome}
use Rattle.chaos_host.specs.View.{HostView}
use Rattle.chaos_host.specs.declared.answers.HostDelivered.{HostDelivered}
use Rattle.chaos_link.specs.declared.carriage.Carriage.{Carriage}
use Rattle.chaos_link.specs.Link.{Ask}
use Rattle.chaos_link.specs.Loads.{packets_of}
use Rattle.chaos_node.specs.Arrive.{Arrival, arrival_from, arrive_at_client, told_at_client}
use Rattle.chaos_node.specs.End.{TellsWork}
use Rattle.chaos_node.specs.Link.{SendsLots, datagrams_of, has_packets, read_all, sent_by, sent_into, turn_asks}
use Rattle.chaos_node.specs.Phase.{Effect, over_slots}
use Rattle.chaos_node.specs.Slots.{tick_at}
use Rattle.chaos_node.specs.Station.{Station}
use Rattle.chaos_node.specs.Turn.{has_work, queue_after}
use Rattle.chaos_node.specs.declared.end.TurnEnd.{TurnEnd}

-- What waited was sent, then this came, and its packets were delivered. Whether there was work was told, and what
-- became of the last packet.
pub record RunsArrival (asked : List Ask → Type 0) (may_wait : Bool) (carriage : Carriage) (now : ℕ)
    (before after : Station HostView) (worked : Bool) (answer : Option HostDelivered) : Type 0 where
  pub came : Arrival
  pub host : after.node ≡ (arrive_at_client came now before.node).host
  pub size : length after.node.slots ≡ length before.node.slots
  pub told : answer ≡ told_at_client came now before.node
  pub queue : IfSome before.queue
      (λ queue. (came ≡ arrival_from (sent_into queue (datagrams_of carriage before.outbox.packets)))
      × (after.queue
      ≡ Some (queue_after carriage queue before.outbox.packets (arrive_at_client came now before.node).lots)))
  -- any link was asked exactly this
  pub asks : asked (turn_asks carriage may_wait before.outbox.packets (arrive_at_client came now before.node).lots)
  -- of what was sent the packets are read that went out
  pub read : read_all (sent_by carriage (before.outbox.packets ∷ (arrive_at_client came now before.node).lots))
      ≡ packets_of (before.outbox.packets ∷ (arrive_at_client came now before.node).lots)
  pub work : worked ≡ has_work before.outbox.packets came (arrive_at_client came now before.node).lots

-- each slot is ticked
abbrev pub tick_all : ℕ → HostView → Effect
tick_all now h = over_slots (tick_at now) (length h.slots) h

-- What waited was sent, then each slot was ticked. Whether there was work, also before, was told.
pub record RunsTicks (asked : List Ask → Type 0) (carriage : Carriage) (now : ℕ) (before after : Station HostView)
    (worked : Bool) (result : TurnEnd) : Type 0 where
  pub host : after.node ≡ (tick_all now before.node).host
  pub size : length after.node.slots ≡ length before.node.slots
  pub sends : SendsLots asked carriage before.queue (before.outbox.packets ∷ (tick_all now before.node).lots) after.queue
  pub work : TellsWork (if worked then true else has_packets (before.outbox.packets ∷ (tick_all now before.node).lots))
      result
