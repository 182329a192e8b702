-- One turn of a client's host.
use Rattle.std.specs.Prelude.{ℕ, Bool, List, Option}
use Rattle.chaos_packet.specs.Outbox.{OutboxView}
use Rattle.chaos_link.specs.Link.{Ask, QueueView}
use Rattle.chaos_link.specs.declared.carriage.Carriage.{Carriage}
use Rattle.chaos_host.specs.View.{HostView}
use Rattle.chaos_host.specs.declared.answers.HostDelivered.{HostDelivered}
use Rattle.chaos_node.specs.Station.{station}
use Rattle.chaos_node.specs.Turn.{RunsClientTurn}
use Rattle.chaos_node.specs.declared.end.TurnEnd.{TurnEnd}
use Rattle.chaos_node.specs.declared.timer.RetransmitTimer.{RetransmitTimer}

-- A turn of a client's host with these timers, which may have waited so. Its link was asked what a turn asks, and this became of
-- the packet that came.
abbrev pub TakesTimedTurn : List RetransmitTimer → (List Ask → Type 0) → (Bool → Type 0) → Carriage → ℕ → HostView → HostView
    → Option QueueView → Option QueueView → OutboxView → OutboxView → Type 0
TakesTimedTurn timers Asked Waits carriage now old new before after waiting left =
    (may_wait : Bool) × Waits may_wait × (end : TurnEnd) × (told : Option HostDelivered)
    × RunsClientTurn timers Asked may_wait carriage now (station old before waiting) (station new after left) end told

-- The same with some timers.
abbrev pub TakesTurn : (List Ask → Type 0) → (Bool → Type 0) → Carriage → ℕ → HostView → HostView → Option QueueView
    → Option QueueView → OutboxView → OutboxView → Type 0
TakesTurn Asked Waits carriage now old new before after waiting left =
    (timers : List RetransmitTimer) × TakesTimedTurn timers Asked Waits carriage now old new before after waiting left
