use Rattle.std.proofs.Common.{◌≡◌, Bool, true, if◌then◌else◌, ap, sym, ◌∙◌, rules}
use Rattle.chaos_packet.specs.Outbox.{OutboxView}
use Rattle.chaos_host.specs.View.{HostView}
use Rattle.chaos_link.specs.Link.{Asks}
use Rattle.chaos_node.specs.Arrive.{answer_to}
use Rattle.chaos_node.specs.Halves.{RunsArrival}
use Rattle.chaos_node.specs.InTurn.{station_of}
use Rattle.chaos_node.specs.Station.{station}
use Rattle.chaos_node.proofs.Halves.{arrival_so}
use Rattle.chaos_node.proofs.InTurn.{left_as}
use Rattle.chaos_node.proofs.node.Node.receive.Goals as goal
use Rattle.chaos_node.proofs.node.Node.receive.Goals.{then-begun, else-begun}

pub returns-clause-arrival : goal.returns-clause-arrival
returns-clause-arrival g c =
    let queue = g.L.Link.queue in
    let asked = g.L.Link.asked in
    let begun = c.begin-begun in
    let sent = c.arrive-sent in
    let node = c.args.self.now in
    let before = station node.host (queue c.args.link.now) node.out in
    let worked : c.if-begun.self ≡ (if begun.result.worked then true else sent.result) =
    elim c.if-begun.branch [
      | then-begun w ↦ w.self-is ∙ (w.if-begun.true ∙ sym (ap (λ (b : Bool). if b then true else sent.result) w.if-begun.true))
      | else-begun w ↦ w.self-is ∙ sym (ap (λ (b : Bool). if b then true else sent.result) w.if-begun.false)
    ] in
    left_as
    (λ (h : HostView) l (o : OutboxView). RunsArrival (Asks (asked c.args.link.now) (asked l)) c.args.may_wait node.carriage
    c.args.now before (station h (queue l) o) c.if-begun.self (answer_to sent.new.told))
    sent.new.self _ _ _ (search rules) (search rules) (search rules)
    (arrival_so node.carriage c.args.now before (station_of sent.new.self) (queue begun.new.link) begun.new.out
    begun.result.came begun.result.worked sent.result c.if-begun.self (answer_to sent.new.told) begun.ensures.begins
    sent.ensures.phase.0 sent.ensures.told worked)
