-- A turn of a program is a run of the network's events.
--
--    a turn:   deliver what came               tick each slot whose timer doesn't hold the tick back
--    events:   Arrives, one for each packet    Ticks, one for each slot that is ticked
use Rattle.std.specs.Prelude.{◌≡◌, ℕ, Bool, List, Option}
use Rattle.chaos_packet.specs.Packet.{PacketView}
use Rattle.chaos_host.specs.View.{HostView}
use Rattle.chaos_host.specs.declared.answers.HostDelivered.{HostDelivered}
use Rattle.chaos_lab.specs.declared.side.Side.{Side}
use Rattle.chaos_link.specs.declared.carriage.Carriage.{Carriage}
use Rattle.chaos_link.specs.Link.{Ask}
use Rattle.chaos_net.specs.Net.{Net}
use Rattle.chaos_node.specs.Arrive.{Arrival}
use Rattle.chaos_node.specs.Station.{Station}
use Rattle.chaos_node.specs.Turn.{RunsClientTurn, client_phases}
use Rattle.chaos_node.specs.declared.end.TurnEnd.{TurnEnd}
use Rattle.chaos_node.specs.declared.timer.RetransmitTimer.{RetransmitTimer}
use Rattle.chaos_net.specs.Come.{Upon, ComeFrom, ComeFresh, nothing_upon}
use Rattle.chaos_net.specs.MadeTurns.{Makes}

-- the turns of a program: what came, the first packet number for connections that start in the turn, the moment, the
-- program before and after the turn, and the packets that went out, lot by lot
abbrev pub Turns : Type 0 → Type 1
Turns P = Arrival → ℕ → ℕ → P → P → List (List PacketView) → Type 0

-- Each turn in which packets of the other host came, each packet fresh when it came, is a run of events. The run leads to
-- a net in which the host is the program's host after the turn, and the host has sent what went out, in order.
abbrev pub TurnsAreRuns : {P : Type 0} → (P → HostView) → (P → ℕ → ℕ → Upon) → Turns P → Type 0
TurnsAreRuns {P} host_of upon turns =
    (n : Net) (x : Side) (numbers : List ℕ) (came : Arrival) (start now : ℕ) (s t : P) (lots : List (List PacketView))
    → (n x).host ≡ host_of s → ComeFrom n x numbers came → ComeFresh (upon s start now) n x now numbers came
    → turns came start now s t lots → Makes n x (record { host = host_of t; lots = lots })

-- ---- a client, or a host whose owner serves between turns

-- the program is its host, and does nothing on its own after a packet came
abbrev pub client_host : HostView → HostView
client_host h = h

abbrev pub client_upon : HostView → ℕ → ℕ → Upon
client_upon h start now = nothing_upon

-- the turns of a client, with any timers
abbrev pub client_turns : Turns HostView
client_turns came start now s t lots = (timers : List RetransmitTimer)
    × (t ≡ (client_phases timers came now s).host) × (lots ≡ (client_phases timers came now s).lots)

abbrev pub ClientTurnsAreRuns : Type 0
ClientTurnsAreRuns = TurnsAreRuns client_host client_upon client_turns

-- The same holds for each turn that a client runs over a link, as the contract of `client_turn` or `timed_client_turn`
-- describes the turn, whatever the timers are and whatever the link was asked.
abbrev pub RunsAreRuns : (List Ask → Type 0) → Type 0
RunsAreRuns asked = (n : Net) (x : Side) (numbers : List ℕ) (timers : List RetransmitTimer) (may_wait : Bool)
    (carriage : Carriage) (now : ℕ) (before after : Station HostView) (result : TurnEnd) (answer : Option HostDelivered)
    → (n x).host ≡ before.node
    → (runs : RunsClientTurn timers asked may_wait carriage now before after result answer)
    → ComeFrom n x numbers runs.came
    → ComeFresh nothing_upon n x now numbers runs.came
    → Makes n x (record { host = after.node; lots = (client_phases timers runs.came now before.node).lots })
