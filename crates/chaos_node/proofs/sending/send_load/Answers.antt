use Rattle.chaos_node.proofs.Loaded.{load_asked, load_taken}
use Rattle.chaos_node.proofs.Readback.{load_read_so}
use Rattle.chaos_node.proofs.sending.send_load.Goals as goal

pub returns-clause-sends : goal.returns-clause-sends
returns-clause-sends g c =
    load_taken (g.L.Link.queue c.args.link.now) (g.L.Link.queue c.send.new.self) c.args.load.now c.destination.result _
    c.send.result c.destination.ensures.all c.destination.ensures.some c.datagram.ensures.exact c.send.ensures.queued

pub returns-clause-asks : goal.returns-clause-asks
returns-clause-asks g c =
    load_asked (g.L.Link.asked c.args.link.now) (g.L.Link.asked c.send.new.self) c.args.load.now c.destination.result _
    c.destination.ensures.all c.destination.ensures.some c.datagram.ensures.exact c.send.ensures.asked

pub returns-clause-read : goal.returns-clause-read
returns-clause-read g c = load_read_so c.args.load.now _ c.datagram.ensures.read c.datagram.ensures.exact
