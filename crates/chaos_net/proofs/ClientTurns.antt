-- A client's turn.
use Rattle.std.proofs.Common.{ℕ, List, length, Some, None, Ok, Err, refl, sym, subst}
use Rattle.chaos_lab.specs.declared.side.Side.{Side}
use Rattle.chaos_link.specs.Link.{Ask}
use Rattle.chaos_net.specs.Net.{Net}
use Rattle.chaos_node.specs.Arrive.{Arrival, arrive_at_client, deliver_effect}
use Rattle.chaos_node.specs.Phase.{over_slots}
use Rattle.chaos_node.specs.Timer.{tick_by}
use Rattle.chaos_node.specs.Turn.{client_phases}
use Rattle.chaos_node.specs.declared.timer.RetransmitTimer.{RetransmitTimer}
use Rattle.chaos_net.specs.Come.{ComeFrom, ComeFresh, nothing_upon}
use Rattle.chaos_net.specs.MadeTurns.{Makes}
use Rattle.chaos_net.specs.Turns.{ClientTurnsAreRuns, RunsAreRuns}
use Rattle.chaos_net.proofs.Made.{copy_made, none_made, then_made}
use Rattle.chaos_net.proofs.SystemComing.{packets_made, timed_ticks_made}

-- what came is delivered
pub arrived : (n : Net) (x : Side) (numbers : List ℕ) (came : Arrival) (now : ℕ) → ComeFrom n x numbers came
    → ComeFresh nothing_upon n x now numbers came → Makes n x (arrive_at_client came now (n x).host)
arrived n x numbers None now from fresh = (n, none_made n x)
arrived n x numbers (Some (Err fault)) now from fresh = (n, none_made n x)
arrived n x numbers (Some (Ok packets)) now from fresh =
    packets_made nothing_upon (deliver_effect now) x now (λ m k p q there is can. copy_made m x k now p q there is can) n
    numbers packets from fresh

phases_made : (timers : List RetransmitTimer) (n : Net) (x : Side) (numbers : List ℕ) (came : Arrival) (now : ℕ)
    → ComeFrom n x numbers came → ComeFresh nothing_upon n x now numbers came
    → Makes n x (client_phases timers came now (n x).host)
phases_made timers n x numbers came now from fresh =
    then_made n x (arrive_at_client came now (n x).host) (over_slots (tick_by timers now) (length (n x).host.slots))
    (arrived n x numbers came now from fresh) (λ m still. timed_ticks_made timers x now (length (n x).host.slots) m)

pub client_turns_are_runs : ClientTurnsAreRuns
client_turns_are_runs n x numbers came start now s t lots is from fresh turn =
    subst (Makes n x) (λ j. record { host = sym turn.1 j; lots = sym turn.2 j })
    (subst (λ h. Makes n x (client_phases turn.0 came now h)) is (phases_made turn.0 n x numbers came now from fresh))

pub runs_are_runs : (asked : List Ask → Type 0) → RunsAreRuns asked
runs_are_runs asked n x numbers timers may_wait carriage now before after result answer is runs from fresh =
    client_turns_are_runs n x numbers runs.came 0 now before.node after.node
    (client_phases timers runs.came now before.node).lots is from fresh (timers, runs.host, refl)
