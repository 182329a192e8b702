use Rattle.std.proofs.Common.{rules, ◌≡◌, List, [], ◌∷◌, None, slice_get, refl}
use Rattle.chaos_packet.specs.Packet.{PacketView}
use Rattle.chaos_net.proofs.desk.Desk.post.Goals as goal

none_left : (packets : List PacketView) → slice_get packets 0 ≡ None → packets ≡ []
none_left [] none = refl
none_left (packet ∷ packets) none = absurd (cc)

-- nothing is left in the outbox
pub returns-in_default-clause-sent : goal.returns-in_default-clause-sent
returns-in_default-clause-sent c =
    let none : slice_get c.loop.self.out.packets 0 ≡ None = search rules in
    let left = none_left c.loop.self.out.packets none in
    search rules

pub returns-in_default-clause-out : goal.returns-in_default-clause-out
returns-in_default-clause-out c =
    let none : slice_get c.loop.self.out.packets 0 ≡ None = search rules in
    let left = none_left c.loop.self.out.packets none in
    search rules
