use Rattle.std.proofs.Common.{rules, ◌≡◌, List, [], ◌∷◌, None, slice_get, refl}
use Rattle.chaos_packet.specs.Packet.{PacketView}
use Rattle.chaos_lab.proofs.rig.post.Goals as goal

none_left : (packets : List PacketView) → slice_get packets 0 ≡ None → packets ≡ []
none_left [] none = refl
none_left (packet ∷ packets) none = absurd (cc)

-- nothing is left in the outbox
pub returns-in_default-clause-copies : goal.returns-in_default-clause-copies
returns-in_default-clause-copies c =
    let none : slice_get c.loop.out.packets 0 ≡ None = search rules in
    let left = none_left c.loop.out.packets none in
    search rules

pub returns-in_default-clause-out : goal.returns-in_default-clause-out
returns-in_default-clause-out c =
    let none : slice_get c.loop.out.packets 0 ≡ None = search rules in
    let left = none_left c.loop.out.packets none in
    search rules
