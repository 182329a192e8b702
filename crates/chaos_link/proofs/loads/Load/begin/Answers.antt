use Rattle.std.proofs.Common.{◌∷◌, [], ap}
use Rattle.chaos_link.proofs.Built.{built_in, view_of}
use Rattle.chaos_link.proofs.loads.Load.begin.Goals as goal

pub invariant_of-self : goal.invariant_of-self
invariant_of-self c =
    let to = ap (λ p. p.dst) c.packet.view_is in
    let built =
    built_in (c.args.packet.now ∷ []) c.args.packet.now.dst c.put_first-self-inside.result
    c.put_first-self-inside.new.buffer c.put_first-self-inside.ensures in
    rw to built

pub returns : goal.returns
returns c =
    view_of (c.args.packet.now ∷ []) c.args.packet.now.dst c.put_first-self-inside.result
    c.put_first-self-inside.new.buffer c.put_first-self-inside.ensures
