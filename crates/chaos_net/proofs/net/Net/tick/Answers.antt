use Rattle.std.proofs.Common.{refl}
use Rattle.chaos_host.specs.Deeds.HostEvent.{Ticks}
use Rattle.chaos_net.proofs.Sides.{turns, nothing, one_did}
use Rattle.chaos_net.proofs.net.Net.tick.Goals as goal

pub settle-requires-clause-turns : goal.settle-requires-clause-turns
settle-requires-clause-turns c =
    turns c.self.inside c.args.side c.self.invariant c.at_mut-station.ensures.value c.in_ok-ready.ensures.counted

pub invariant_of-self : goal.invariant_of-self
invariant_of-self c =
    (nothing c.self.inside c.args.side c.self.invariant c.self.view_is c.at_mut-station.ensures.value
    c.in_err-ready.ensures).sound

pub invariant_of-self-2 : goal.invariant_of-self-2
invariant_of-self-2 c =
    (one_did c.self.inside c.args.side (Ticks c.args.slot c.args.now) c.self.invariant c.self.view_is
    c.at_mut-station.ensures.value c.in_ok-ready.ensures c.tick-told.ensures c.settle.ensures refl
    refl refl tt).sound

pub returns-clause-happens : goal.returns-clause-happens
returns-clause-happens c =
    (one_did c.self.inside c.args.side (Ticks c.args.slot c.args.now) c.self.invariant c.self.view_is
    c.at_mut-station.ensures.value c.in_ok-ready.ensures c.tick-told.ensures c.settle.ensures refl
    refl refl tt).happens
