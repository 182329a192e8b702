use Rattle.chaos_link.proofs.Asked.{one_heard}
use Rattle.chaos_link.proofs.udp.UdpLinkLink.receive.Goals as goal

pub returns-in-Got-Some-clause-asked : goal.returns-in-Got-Some-clause-asked
returns-in-Got-Some-clause-asked g c =
    one_heard g.S.DatagramSocket.asked g.K.PeerKeeper.becomes c.args.self.now c.listen-received.new.self _ c.self.view_is
    c.args.may_wait _ c.hear.new.self c.hear.new.peers c.listen-received.ensures.keeper c.listen-received.ensures.peers
    c.hear.ensures c.listen-received.ensures.nothing

pub returns-in_default-clause-asked : goal.returns-in_default-clause-asked
returns-in_default-clause-asked g c =
    one_heard g.S.DatagramSocket.asked g.K.PeerKeeper.becomes c.args.self.now c.listen-received.new.self _ c.self.view_is
    c.args.may_wait _ c.rest.new.self c.rest.new.peers c.listen-received.ensures.keeper c.listen-received.ensures.peers
    c.rest.ensures c.listen-received.ensures.nothing
