use Rattle.std.proofs.Common.{refl, sym}
use Rattle.chaos_sealed_socket.proofs.Asked.{passed_on}
use Rattle.chaos_sealed_socket.proofs.socket.SealedSocketDatagramSocket.set_wait.Goals as goal

pub returns-clause-asked : goal.returns-clause-asked
returns-clause-asked g c =
    rw (sym c.self.view_is)
    (passed_on g.S.DatagramSocket.asked _ c.set_wait.new.self _ (λ s. (refl, refl)) c.set_wait.ensures.asked)
