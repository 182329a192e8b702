-- A node's halves of a turn.
use Rattle.std.proofs.Common.{◌≡◌, ℕ, List, length, Option, Some, None, Ok, Err, refl, sym, ap, ◌∙◌, subst, inl, inr}
use Rattle.chaos_host.specs.View.{HostView}
use Rattle.chaos_link.specs.Link.{Addressed, Ask}
use Rattle.chaos_node.specs.Arrive.{Arrival, arrive_at_client}
use Rattle.chaos_node.specs.Halves.{tick_all}
use Rattle.chaos_node.specs.Link.{datagrams_of, sent_by}
use Rattle.chaos_node.specs.Phase.{Effect}
use Rattle.chaos_net.specs.TurnHalves.{ArrivalsAreSteps, NodeTurnsAreRuns, TicksAreSteps}
use Rattle.chaos_net.specs.MadeTurns.{Makes}
use Rattle.chaos_net.specs.System.{Hands, handed}
use Rattle.chaos_net.proofs.ClientTurns.{arrived, client_turns_are_runs}
use Rattle.chaos_net.proofs.SystemComing.{ticks_made}

pub node_turns_are_runs : NodeTurnsAreRuns
node_turns_are_runs n x numbers came start now s t lots is from fresh (inl turn) =
    client_turns_are_runs n x numbers came start now s t lots is from fresh turn
node_turns_are_runs n x numbers came start now s t lots is from fresh (inr (inl half)) =
    subst (Makes n x) (λ j. record { host = sym half.0 j; lots = sym half.1 j })
    (subst (λ h. Makes n x (arrive_at_client came now h)) is (arrived n x numbers came now from fresh))
node_turns_are_runs n x numbers came start now s t lots is from fresh (inr (inr half)) =
    subst (Makes n x) (λ j. record { host = sym half.1 j; lots = sym half.2 j })
    (subst (λ h. Makes n x (tick_all now h)) is (ticks_made x now (length (n x).host.slots) n))

same_arrival : (others : List Addressed) (number : Option ℕ) (came : Arrival) (now : ℕ) (h : HostView)
    → Hands others number came → arrive_at_client came now h ≡ arrive_at_client (handed others number) now h
same_arrival others None None now h hands = refl
same_arrival others None (Some (Err fault)) now h hands = refl
same_arrival others None (Some (Ok packets)) now h hands = ap (λ (o : Arrival). arrive_at_client o now h) hands
same_arrival others (Some k) came now h hands = ap (λ (o : Arrival). arrive_at_client o now h) hands

pub arrivals_are_steps : (asked : List Ask → Type 0) → ArrivalsAreSteps asked
arrivals_are_steps asked may_wait carriage start now before after worked answer posts others number runs is none = (
  record {
    carriage = carriage;
    lots = (arrive_at_client runs.came now before.node).lots;
    turn =
        inr (inl (runs.host ∙ ap (λ (e : Effect). e.host) (same_arrival others number runs.came now before.node is), ap (λ (e : Effect). e.lots) (same_arrival others number runs.came now before.node is)));
    read = runs.read;
    waiting = none;
    posts = refl;
  },
  record {
    first = datagrams_of carriage before.outbox.packets;
    last = sent_by carriage (arrive_at_client runs.came now before.node).lots;
    all = refl;
    asks = runs.asks;
  },
)

pub ticks_are_steps : (asked : List Ask → Type 0) → TicksAreSteps asked
ticks_are_steps asked carriage start now before after worked result posts others runs none = (
  record {
    carriage = carriage;
    lots = (tick_all now before.node).lots;
    turn = inr (inr (refl, runs.host, refl));
    read = runs.sends.read;
    waiting = none;
    posts = refl;
  },
  runs.sends.asks,
)
