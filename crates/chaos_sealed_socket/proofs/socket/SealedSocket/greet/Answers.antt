use Rattle.std.proofs.Common.{ap, sym}
use Rattle.chaos_link.specs.Heard.{source_of}
use Rattle.chaos_sealed_socket.proofs.Sent.{greets, greets_not}
use Rattle.chaos_sealed_socket.proofs.socket.SealedSocket.greet.Goals as goal

pub returns-in_default-hello-clause-takes : goal.returns-in_default-hello-clause-takes
returns-in_default-hello-clause-takes g c =
    rw (sym c.self.view_is)
    (greets_not g.S.DatagramSocket.asked _ c.args.from c.in-V4.there (ap source_of c.in-V4.is) c.args.host c.args.session
    c.hello.new.self c.in_default-hello.ensures.none.0
    (λ can. let yes = c.in_default-hello.ensures.some.1 can in cc))

pub returns-clause-takes : goal.returns-clause-takes
returns-clause-takes g c =
    rw (sym c.self.view_is)
    (greets g.S.DatagramSocket.asked _ c.args.from c.in-V4.there (ap source_of c.in-V4.is) c.args.host c.args.session
    _ c.hello.new.self _ c.in-Some.ensures.sealed c.send_datagram.ensures.asked)
