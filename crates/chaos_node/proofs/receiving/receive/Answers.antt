use Rattle.chaos_node.proofs.Receipt.{receives}
use Rattle.chaos_node.proofs.receiving.receive.Goals as goal

pub returns-in-Got-clause-queued : goal.returns-in-Got-clause-queued
returns-in-Got-clause-queued g c =
    receives (g.L.Link.queue c.args.link.now) (g.L.Link.queue c.receive.new.self) _ c.receive.new.buffer c.in-Got.count
    c.open_datagram.result c.open_datagram.ensures.exact c.in-Got.ensures.queued
