use Rattle.std.proofs.Common.{subst, take, List}
use Rattle.chaos_packet.specs.Packet.{PacketView}
use Rattle.chaos_link.specs.Loads.{load_in}
use Rattle.chaos_link.specs.Packets.{Carries2}
use Rattle.chaos_link.proofs.Built.{built_carries}
use Rattle.chaos_link.proofs.Either.{read_two}
use Rattle.chaos_link.proofs.loads.Load.datagram.Goals as goal

pub returns-clause-carried : goal.returns-clause-carried
returns-clause-carried c =
    let s = c.self.inside in
    subst (λ (load : List PacketView). Carries2 load (take s.end s.bytes)) c.self.view_is
    (built_carries (load_in s.end s.bytes) s.to s.end s.bytes c.self.invariant)

pub returns-clause-read : goal.returns-clause-read
returns-clause-read c = read_two c.args.self.now _ (returns-clause-carried c)
