-- The two halves of a turn.
use Rattle.std.proofs.Common.{◌≡◌, ℕ, Bool, true, false, if◌then◌else◌, [], ◌∷◌, Option, ap, sym, ◌∙◌, subst}
use Rattle.chaos_packet.specs.Outbox.{OutboxView}
use Rattle.chaos_host.specs.View.{HostView}
use Rattle.chaos_host.specs.declared.answers.HostDelivered.{HostDelivered}
use Rattle.chaos_link.specs.declared.carriage.Carriage.{Carriage}
use Rattle.chaos_link.specs.Link.{Ask, AskedSince, Asks, QueueView}
use Rattle.chaos_node.specs.Arrive.{Arrival, arrive_at_client, told_at_client}
use Rattle.chaos_node.specs.Begin.{Begins}
use Rattle.chaos_node.specs.End.{TellsWork}
use Rattle.chaos_node.specs.Halves.{RunsArrival, RunsTicks, tick_all}
use Rattle.chaos_node.specs.Link.{SendsLots, has_packets}
use Rattle.chaos_node.specs.Phase.{DoesPhase}
use Rattle.chaos_node.specs.Station.{Station, station}
use Rattle.chaos_node.specs.declared.end.TurnEnd.{TurnEnd}
use Rattle.chaos_node.proofs.Queue.{lots_read, or_false, sends_both, turn_asks_more}
use Rattle.chaos_node.proofs.Whole.{has_before, queue_so, work_so}

-- what waited was sent, and then each slot was ticked
pub ticks_so : {L : Type 0} {aa ab ac : AskedSince L Ask} (carriage : Carriage) (now : ℕ) (a b : Station HostView) (q1 : Option QueueView) (empty : OutboxView)
    (worked waited ticked all : Bool) (result : TurnEnd)
    → SendsLots (Asks aa ab) carriage a.queue (a.outbox.packets ∷ []) q1 → waited ≡ has_packets (a.outbox.packets ∷ [])
    → DoesPhase (Asks ab ac) carriage (tick_all now a.node) (station a.node q1 empty) b ticked
    → all ≡ (if waited then true else (if ticked then true else false))
    → TellsWork (if worked then true else all) result → RunsTicks (Asks aa ac) carriage now a b worked result
ticks_so {L} {aa} {ab} {ac} carriage now a b q1 empty worked waited ticked all result first told phase e work =
    let lots = (tick_all now a.node).lots in
    let same : all ≡ has_packets (a.outbox.packets ∷ lots)
    =
    e
    ∙ (ap (λ (t : Bool). if waited then true else t) (or_false ticked)
    ∙ (ap (λ (t : Bool). if t then true else ticked) told
    ∙ (ap (λ (t : Bool). if has_packets (a.outbox.packets ∷ []) then true else t) phase.told
    ∙ sym (has_before (a.outbox.packets ∷ []) lots)))) in
    record {
      host = phase.host;
      size = phase.size;
      sends = sends_both carriage a.queue q1 b.queue (a.outbox.packets ∷ []) lots first phase.sends;
      work = subst (λ (t : Bool). TellsWork (if worked then true else t) result) same work;
    }

-- what waited was sent, and what came was delivered
pub arrival_so : {L : Type 0} {aa ab ac : AskedSince L Ask} {may_wait : Bool} (carriage : Carriage) (now : ℕ) (a b : Station HostView) (q1 : Option QueueView) (empty : OutboxView)
    (came : Arrival) (began sent worked : Bool) (answer : Option HostDelivered)
    → Begins (Asks aa ab) may_wait carriage a.outbox.packets a.queue q1 came began
    → DoesPhase (Asks ab ac) carriage (arrive_at_client came now a.node) (station a.node q1 empty) b sent
    → answer ≡ told_at_client came now a.node → worked ≡ (if began then true else sent)
    → RunsArrival (Asks aa ac) may_wait carriage now a b worked answer
arrival_so {L} {aa} {ab} {ac} {may_wait} carriage now a b q1 empty came began sent worked answer first phase told e =
    let lots = (arrive_at_client came now a.node).lots in
    record {
      came = came;
      host = phase.host;
      size = phase.size;
      told = told;
      queue =
          queue_so carriage a.queue q1 b.queue a.outbox.packets lots came first.queue phase.sends.sends;
      asks = turn_asks_more aa ab ac carriage may_wait a.outbox.packets [] lots first.asks phase.sends.asks;
      read = lots_read carriage (a.outbox.packets ∷ []) lots first.read phase.sends.read;
      work = e ∙ work_so began sent a.outbox.packets lots came first.work phase.told;
    }
