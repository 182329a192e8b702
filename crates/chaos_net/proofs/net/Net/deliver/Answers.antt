use Rattle.chaos_net.proofs.Sides.{nothing, one_came, host_at, delivered}
use Rattle.chaos_net.proofs.net.Net.deliver.Goals as goal

pub invariant_of-self : goal.invariant_of-self
invariant_of-self c =
    (nothing c.self.inside c.args.side c.self.invariant c.self.view_is c.at_mut-station.ensures.value
    c.in_err-ready.ensures).sound

pub invariant_of-self-2 : goal.invariant_of-self-2
invariant_of-self-2 c =
    (one_came c.self.inside c.args.side c.args.number c.args.now c.in_ok-kept.kept.now c.self.invariant c.self.view_is
    c.at_mut-station.ensures.value c.in_ok-ready.ensures c.deliver-told.ensures.does c.settle.ensures
    c.packet-packet.ensures c.deliver_place.ensures c.deliver_mark.ensures c.in_ok-kept.ensures.kept
    c.in_ok-kept.ensures.may).sound

pub returns-clause-happens : goal.returns-clause-happens
returns-clause-happens c =
    (one_came c.self.inside c.args.side c.args.number c.args.now c.in_ok-kept.kept.now c.self.invariant c.self.view_is
    c.at_mut-station.ensures.value c.in_ok-ready.ensures c.deliver-told.ensures.does c.settle.ensures
    c.packet-packet.ensures c.deliver_place.ensures c.deliver_mark.ensures c.in_ok-kept.ensures.kept
    c.in_ok-kept.ensures.may).happens

pub returns-clause-answer : goal.returns-clause-answer
returns-clause-answer c =
    delivered c.args.now (host_at c.self.inside c.args.side c.self.view_is c.at_mut-station.ensures.value)
    c.packet-packet.ensures c.in_ok-kept.ensures.kept c.deliver-told.ensures.does.answers
