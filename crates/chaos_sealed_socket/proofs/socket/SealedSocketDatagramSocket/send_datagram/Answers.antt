use Rattle.std.proofs.Common.{sym}
use Rattle.chaos_sealed_socket.proofs.Asked.{send_asked}
use Rattle.chaos_sealed_socket.proofs.Sent.{sends_clear, sends_sealed}
use Rattle.chaos_sealed_socket.proofs.socket.SealedSocketDatagramSocket.send_datagram.Goals as goal

pub returns-in-None-clause-sends : goal.returns-in-None-clause-sends
returns-in-None-clause-sends g c =
    let found = rw (sym c.self.view_is) at c.sealed_host.ensures in
    rw (sym c.self.view_is)
    (sends_clear g.S.DatagramSocket.asked g.O.SealObserver.hears _ (record { to = c.args.to; bytes = c.args.bytes.now })
    c.sealed_host.result c.send_datagram.new.self found c.in-None.is c.send_datagram.ensures.asked)

pub returns-in-None-clause-asked : goal.returns-in-None-clause-asked
returns-in-None-clause-asked g c =
    send_asked g.S.DatagramSocket.asked g.O.SealObserver.hears (record { to = c.args.to; bytes = c.args.bytes.now })
    c.args.self.now _ (returns-in-None-clause-sends g c)

pub returns-in-Some-clause-sends : goal.returns-in-Some-clause-sends
returns-in-Some-clause-sends g c =
    sends_sealed g.S.DatagramSocket.asked g.O.SealObserver.hears c.args.self.now
    (record { to = c.args.to; bytes = c.args.bytes.now }) c.send_sealed.new.self c.sealed_host.result c.in-Some.host
    c.sealed_host.ensures c.in-Some.is c.send_sealed.ensures.sends

pub returns-in-Some-clause-asked : goal.returns-in-Some-clause-asked
returns-in-Some-clause-asked g c =
    send_asked g.S.DatagramSocket.asked g.O.SealObserver.hears (record { to = c.args.to; bytes = c.args.bytes.now })
    c.args.self.now c.send_sealed.new.self (returns-in-Some-clause-sends g c)
