-- A node whose owner serves between the halves of a turn.
--
--    what came  -->  first half: deliver  -->  the owner serves: any calls  -->  second half: tick each slot
use Rattle.std.specs.Prelude.{◌≡◌, ℕ, Bool, List, [], ◌∷◌, ◌++◌, Option, None, ◌⊎◌}
use Rattle.chaos_host.specs.View.{HostView}
use Rattle.chaos_host.specs.declared.answers.HostDelivered.{HostDelivered}
use Rattle.chaos_link.specs.declared.carriage.Carriage.{Carriage}
use Rattle.chaos_link.specs.Link.{Addressed, Ask, to_send}
use Rattle.chaos_node.specs.Arrive.{arrive_at_client}
use Rattle.chaos_node.specs.Halves.{RunsArrival, RunsTicks, tick_all}
use Rattle.chaos_node.specs.Link.{sent_by}
use Rattle.chaos_node.specs.Station.{Station}
use Rattle.chaos_node.specs.declared.end.TurnEnd.{TurnEnd}
use Rattle.chaos_net.specs.Queue.{IsAskedToPost, seat_of}
use Rattle.chaos_net.specs.System.{Hands, TakesTurn, handed}
use Rattle.chaos_net.specs.Turns.{Turns, TurnsAreRuns, client_host, client_turns, client_upon}

-- the first half: the node delivers what came
abbrev pub arrival_turns : Turns HostView
arrival_turns came start now s t lots =
    (t ≡ (arrive_at_client came now s).host) × (lots ≡ (arrive_at_client came now s).lots)

-- the second half: nothing comes, and the node ticks each slot
abbrev pub tick_turns : Turns HostView
tick_turns came start now s t lots =
    (came ≡ None) × (t ≡ (tick_all now s).host) × (lots ≡ (tick_all now s).lots)

-- whole turns with any timers, and halves; each thing that the owner does between halves is a call
abbrev pub node_turns : Turns HostView
node_turns came start now s t lots =
    client_turns came start now s t lots ⊎ (arrival_turns came start now s t lots ⊎ tick_turns came start now s t lots)

abbrev pub NodeTurnsAreRuns : Type 0
NodeTurnsAreRuns = TurnsAreRuns client_host client_upon node_turns

-- Each first half that a node runs over any link, as the contract of `Node::receive` describes the half, is a step of a
-- system. The premises: a datagram of the other program came, or a datagram without a packet, or nothing; and the half
-- leaves an empty outbox. The link was asked to send exactly what the step posts.
abbrev pub ArrivalsAreSteps : (List Ask → Type 0) → Type 0
ArrivalsAreSteps asked = (may_wait : Bool) (carriage : Carriage) (start now : ℕ) (before after : Station HostView)
    (worked : Bool) (answer : Option HostDelivered) (posts others : List Addressed) (number : Option ℕ)
    → (runs : RunsArrival asked may_wait carriage now before after worked answer) → Hands others number runs.came
    → after.outbox.packets ≡ []
    → TakesTurn client_host node_turns (handed others number) start now (seat_of before posts)
    (seat_of after
    (posts ++ sent_by carriage (before.outbox.packets ∷ (arrive_at_client runs.came now before.node).lots)))
    × IsAskedToPost asked may_wait
    (sent_by carriage (before.outbox.packets ∷ (arrive_at_client runs.came now before.node).lots))

-- Each second half is also a step. Nothing comes in a second half, and the link is not asked to receive.
abbrev pub TicksAreSteps : (List Ask → Type 0) → Type 0
TicksAreSteps asked = (carriage : Carriage) (start now : ℕ) (before after : Station HostView) (worked : Bool)
    (result : TurnEnd) (posts others : List Addressed)
    → RunsTicks asked carriage now before after worked result → after.outbox.packets ≡ []
    → TakesTurn client_host node_turns (handed others None) start now (seat_of before posts)
    (seat_of after (posts ++ sent_by carriage (before.outbox.packets ∷ (tick_all now before.node).lots)))
    × asked (to_send (sent_by carriage (before.outbox.packets ∷ (tick_all now before.node).lots)))
