use Rattle.std.proofs.Common.{rules}
use Rattle.chaos_packet.specs.Outbox.{OutboxView}
use Rattle.chaos_host.specs.View.{HostView}
use Rattle.chaos_link.specs.Link.{Asks}
use Rattle.chaos_node.specs.Halves.{RunsTicks}
use Rattle.chaos_node.specs.InTurn.{station_of}
use Rattle.chaos_node.specs.Station.{station}
use Rattle.chaos_node.proofs.Halves.{ticks_so}
use Rattle.chaos_node.proofs.InTurn.{left_as}
use Rattle.chaos_node.proofs.node.Node.tick.Goals as goal

pub returns-clause-ticks : goal.returns-clause-ticks
returns-clause-ticks g c =
    let queue = g.L.Link.queue in
    let asked = g.L.Link.asked in
    let waited = c.send_all-waited in
    let ticked = c.tick_slots-ticked in
    let node = c.args.self.now in
    let before = station node.host (queue c.args.link.now) node.out in
    left_as
    (λ (h : HostView) l (o : OutboxView). RunsTicks (Asks (asked c.args.link.now) (asked l)) node.carriage c.args.now before
    (station h (queue l) o) node.worked c.end_of.result)
    ticked.new.self _ _ _ (search rules) (search rules) (search rules)
    (ticks_so node.carriage c.args.now before (station_of ticked.new.self)
    (queue waited.new.link) waited.new.out node.worked waited.result ticked.result c.any_of-sent.result
    c.end_of.result waited.ensures.sends waited.ensures.told
    ticked.ensures.0 c.any_of-sent.ensures c.end_of.ensures.work)
