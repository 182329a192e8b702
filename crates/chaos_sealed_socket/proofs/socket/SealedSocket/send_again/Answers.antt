use Rattle.std.proofs.Common.{◌∙◌, sym}
use Rattle.chaos_sealed_socket.proofs.Sent.{sends_again, sends_none_again}
use Rattle.chaos_sealed_socket.proofs.socket.SealedSocket.send_again.Goals as goal

pub returns-in_default-seal-clause-takes : goal.returns-in_default-seal-clause-takes
returns-in_default-seal-clause-takes g c =
    rw (sym c.self.view_is)
    (sends_none_again g.S.DatagramSocket.asked c.args.host c.in-Some.to _ _ c.seal.new.self
    c.in_default-seal.ensures.none.0 (sym c.to_host.ensures ∙ c.in-Some.is) c.bytes.ensures.bytes
    (λ can few. let yes = c.in_default-seal.ensures.some.1 (can, few) in cc))

pub returns-clause-takes : goal.returns-clause-takes
returns-clause-takes g c =
    rw (sym c.self.view_is)
    (sends_again g.S.DatagramSocket.asked c.args.host c.in-Some.to _ _ _ c.seal.new.self _
    (sym c.to_host.ensures ∙ c.in-Some.is) c.bytes.ensures.bytes c.in-Some-seal.ensures.sealed
    c.send_datagram.ensures.asked)
