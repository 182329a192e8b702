use Rattle.std.proofs.Common.{rules}
use Rattle.chaos_packet.specs.Outbox.{OutboxView}
use Rattle.chaos_host.specs.View.{HostView}
use Rattle.chaos_link.specs.Link.{Asks}
use Rattle.chaos_node.specs.Arrive.{answer_to}
use Rattle.chaos_node.specs.InTurn.{station_of}
use Rattle.chaos_node.specs.Station.{station}
use Rattle.chaos_node.specs.Turn.{RunsClientTurn, client_phases}
use Rattle.chaos_node.proofs.InTurn.{left_as}
use Rattle.chaos_node.proofs.Whole.{goes_over}
use Rattle.chaos_node.proofs.client.timed_client_turn.Goals as goal

pub returns-clause-turn : goal.returns-clause-turn
returns-clause-turn g c =
    let input = c.args.input in
    let queue = g.L.Link.queue in
    let asked = g.L.Link.asked in
    let begun = c.begin-begun in
    let sent = c.make-sent in
    let before = station c.args.host.now (queue c.args.link.now) c.args.out.now in
    left_as
    (λ (h : HostView) l (o : OutboxView). RunsClientTurn input.timers.now (Asks (asked c.args.link.now) (asked l)) input.may_wait
    input.carriage input.now before (station h (queue l) o) c.end_of.result (answer_to sent.new.told))
    sent.new.self _ _ _ (search rules) (search rules) (search rules)
    (record {
      came = begun.result.came;
      host = sent.ensures.phases.0.host;
      told = sent.ensures.told;
      link =
          goes_over input.carriage before (station_of sent.new.self) (queue begun.new.link)
          (client_phases input.timers.now begun.result.came input.now c.args.host.now).lots begun.result.came begun.result.worked
          sent.result c.end_of.result begun.ensures.begins sent.ensures.phases.0.sends sent.ensures.phases.0.told
          c.end_of.ensures.work;
    })
