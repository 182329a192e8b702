use Rattle.std.proofs.Common.{sym}
use Rattle.chaos_sealed_socket.proofs.Sent.{goes_out, is_lost}
use Rattle.chaos_sealed_socket.proofs.socket.SealedSocket.send_sealed.Goals as goal

pub returns-in_default-clause-sends : goal.returns-in_default-clause-sends
returns-in_default-clause-sends g c =
    rw (sym c.self.view_is)
    (is_lost g.S.DatagramSocket.asked g.O.SealObserver.hears _ c.args.host c.args.to c.args.bytes.now c.seal.new.self
    c.in_default.ensures.none.0 (λ can few. let yes = c.in_default.ensures.some.1 (can, few) in cc))

pub returns-clause-sends : goal.returns-clause-sends
returns-clause-sends g c =
    rw (sym c.self.view_is)
    (goes_out g.S.DatagramSocket.asked g.O.SealObserver.hears _ c.args.host c.args.to c.args.bytes.now _ c.seal.new.self
    c.keep.new.self _ _ c.in-Some.ensures.sealed c.keep.ensures c.send_datagram.ensures.asked c.report_unheard.ensures)
