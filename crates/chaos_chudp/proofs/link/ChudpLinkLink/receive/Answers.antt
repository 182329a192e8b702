use Rattle.std.proofs.Common.{refl, sym}
use Rattle.chaos_chudp.proofs.Asked.{one_heard}
use Rattle.chaos_chudp.proofs.Handed.{heard}
use Rattle.chaos_chudp.proofs.link.ChudpLinkLink.receive.Goals as goal

pub returns-clause-asked : goal.returns-clause-asked
returns-clause-asked g c =
    rw (sym c.self.view_is)
    (one_heard g.L.Link.asked (record { inner = c.self.inside.inner; me = c.self.inside.me; hops = c.self.inside.hops })
    (record { inner = c.receive-received.new.self; me = c.self.inside.me; hops = c.self.inside.hops }) refl refl
    c.args.may_wait c.receive-received.ensures.asked)

pub returns-clause-heard : goal.returns-clause-heard
returns-clause-heard g c =
    rw (sym c.self.view_is) (heard _ _ _ _ _ _ _ c.receive-received.ensures.queued c.hand_up.ensures.handed)
