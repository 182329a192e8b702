use Rattle.std.proofs.Common.{◌≤◌, List, length, subst}
use Rattle.chaos_packet.specs.Packet.{PacketView}
use Rattle.chaos_link.specs.Loads.{load_in}
use Rattle.chaos_link.proofs.Bundled.{fit}
use Rattle.chaos_link.proofs.loads.Load.destination.Goals as goal

pub returns-clause-some : goal.returns-clause-some
returns-clause-some c =
    subst (λ (load : List PacketView). 1 ≤ length load) c.self.view_is
    (fit 1472 (load_in c.self.inside.end c.self.inside.bytes) c.self.invariant.fit).some
