use Rattle.std.proofs.Common.{Some, refl, ap, ◌∙◌}
use Rattle.chaos_conn.specs.Act.Call.{Write}
use Rattle.chaos_host.specs.Calls.{host_call}
use Rattle.chaos_host.specs.Deeds.HostEvent.{Calls}
use Rattle.chaos_net.proofs.Sides.{turns, nothing, one_did, host_at, write_told}
use Rattle.chaos_net.proofs.net.Net.write.Goals as goal

pub settle-requires-clause-turns : goal.settle-requires-clause-turns
settle-requires-clause-turns c =
    turns c.self.inside c.args.side c.self.invariant c.at_mut-station.ensures.value c.in_ok-ready.ensures.counted

pub invariant_of-self : goal.invariant_of-self
invariant_of-self c =
    (nothing c.self.inside c.args.side c.self.invariant c.self.view_is c.at_mut-station.ensures.value
    c.in_err-ready.ensures).sound

pub invariant_of-self-2 : goal.invariant_of-self-2
invariant_of-self-2 c =
    (one_did c.self.inside c.args.side (Calls c.args.id (Write c.args.op c.args.bytes.now c.args.now)) c.self.invariant c.self.view_is
    c.at_mut-station.ensures.value c.in_ok-ready.ensures c.write-told.ensures c.settle.ensures refl
    (ap Some c.place_of.ensures) refl refl).sound

pub returns-clause-happens : goal.returns-clause-happens
returns-clause-happens c =
    (one_did c.self.inside c.args.side (Calls c.args.id (Write c.args.op c.args.bytes.now c.args.now)) c.self.invariant c.self.view_is
    c.at_mut-station.ensures.value c.in_ok-ready.ensures c.write-told.ensures c.settle.ensures refl
    (ap Some c.place_of.ensures) refl refl).happens

pub returns-clause-told : goal.returns-clause-told
returns-clause-told c =
    write_told _ c.args.side c.args.id c.args.op c.args.bytes.now c.args.now c.write-told.result
    (c.write-told.ensures.answers
    ∙ ap (λ w. (host_call w c.args.id (Write c.args.op c.args.bytes.now c.args.now)).answer) (host_at c.self.inside c.args.side c.self.view_is c.at_mut-station.ensures.value))
