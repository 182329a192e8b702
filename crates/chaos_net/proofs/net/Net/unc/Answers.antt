use Rattle.std.proofs.Common.{Some, refl, ap}
use Rattle.chaos_conn.specs.Act.Call.{Unc}
use Rattle.chaos_host.specs.Deeds.HostEvent.{Calls}
use Rattle.chaos_net.proofs.Sides.{turns, nothing, one_did}
use Rattle.chaos_net.proofs.net.Net.unc.Goals as goal

pub settle-requires-clause-turns : goal.settle-requires-clause-turns
settle-requires-clause-turns c =
    turns c.self.inside c.args.side c.self.invariant c.at_mut-station.ensures.value c.in_ok-ready.ensures.counted

pub invariant_of-self : goal.invariant_of-self
invariant_of-self c =
    (nothing c.self.inside c.args.side c.self.invariant c.self.view_is c.at_mut-station.ensures.value
    c.in_err-ready.ensures).sound

pub invariant_of-self-2 : goal.invariant_of-self-2
invariant_of-self-2 c =
    (one_did c.self.inside c.args.side (Calls c.args.id (Unc c.args.bytes.now)) c.self.invariant c.self.view_is
    c.at_mut-station.ensures.value c.in_ok-ready.ensures c.unc-told.ensures c.settle.ensures refl
    (ap Some c.place_of.ensures) refl refl).sound

pub returns-clause-happens : goal.returns-clause-happens
returns-clause-happens c =
    (one_did c.self.inside c.args.side (Calls c.args.id (Unc c.args.bytes.now)) c.self.invariant c.self.view_is
    c.at_mut-station.ensures.value c.in_ok-ready.ensures c.unc-told.ensures c.settle.ensures refl
    (ap Some c.place_of.ensures) refl refl).happens
