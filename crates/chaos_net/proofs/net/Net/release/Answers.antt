use Rattle.std.proofs.Common.{refl}
use Rattle.chaos_host.specs.Deeds.HostEvent.{Releases}
use Rattle.chaos_net.proofs.Sides.{turns, nothing, one_did, ended}
use Rattle.chaos_net.proofs.net.Net.release.Goals as goal

pub settle_ended-requires-clause-turns : goal.settle_ended-requires-clause-turns
settle_ended-requires-clause-turns c =
    turns c.self.inside c.args.side c.self.invariant c.at_mut-station.ensures.value c.in_ok-ready.ensures.counted

pub invariant_of-self : goal.invariant_of-self
invariant_of-self c =
    (nothing c.self.inside c.args.side c.self.invariant c.self.view_is c.at_mut-station.ensures.value
    c.in_err-ready.ensures).sound

pub invariant_of-self-2 : goal.invariant_of-self-2
invariant_of-self-2 c =
    (one_did c.self.inside c.args.side (Releases c.args.id) c.self.invariant c.self.view_is
    c.at_mut-station.ensures.value c.in_ok-ready.ensures c.release-told.ensures.does c.settle_ended.ensures refl
    refl (ended c.at_mut-station.result.now.host c.args.id c.is_named-named.ensures c.release-told.ensures.does.view) tt).sound

pub returns-clause-happens : goal.returns-clause-happens
returns-clause-happens c =
    (one_did c.self.inside c.args.side (Releases c.args.id) c.self.invariant c.self.view_is
    c.at_mut-station.ensures.value c.in_ok-ready.ensures c.release-told.ensures.does c.settle_ended.ensures refl
    refl (ended c.at_mut-station.result.now.host c.args.id c.is_named-named.ensures c.release-told.ensures.does.view) tt).happens
