use Rattle.std.proofs.Common.{◌∙◌, ◌++◌, ◌∷◌, [], ap, sym, arith}
use Rattle.std.proofs.lemmas.Bool.{cond-true}
use Rattle.chaos_link.specs.Loads.{IsBuilt, joins, load_in}
use Rattle.chaos_link.proofs.Built.{built_in, joined_built, room_for, view_of}
use Rattle.chaos_link.proofs.loads.Load.join.Goals as goal

pub put_packet-self-inside-requires : goal.put_packet-self-inside-requires
put_packet-self-inside-requires c small =
    let s = c.self.inside in
    let it_joins =
    ap (λ load. joins load c.args.packet.now) c.self.view_is ∙ sym c.joins.ensures ∙ c.if-not-joins.false in
    let room = room_for (load_in s.end s.bytes) c.args.packet.now s.to s.end s.bytes c.self.invariant it_joins in
    grind (arith, room, c.self.told)

-- the load with the packet
grown : (c : goal.After-self-2-1)
    → IsBuilt (load_in c.self.inside.end c.self.inside.bytes ++ c.args.packet.now ∷ []) c.self.inside.to
    c.put_packet-self-inside.result c.put_packet-self-inside.new.buffer
grown c =
    let s = c.self.inside in
    let it_joins =
    ap (λ load. joins load c.args.packet.now) c.self.view_is ∙ sym c.joins.ensures ∙ c.if-not-joins.false in
    let put = c.put_packet-self-inside in
    joined_built (load_in s.end s.bytes) c.args.packet.now s.to s.end put.result s.bytes put.new.buffer c.self.invariant
    it_joins put.ensures.spelled put.ensures.end put.ensures.bytes

pub invariant_of-self : goal.invariant_of-self
invariant_of-self c =
    built_in _ c.self.inside.to c.put_packet-self-inside.result c.put_packet-self-inside.new.buffer (grown c)

pub returns-clause-load : goal.returns-clause-load
returns-clause-load c =
    let p = c.args.packet.now in
    view_of _ c.self.inside.to c.put_packet-self-inside.result c.put_packet-self-inside.new.buffer (grown c)
    ∙ ap (λ load. load ++ p ∷ []) c.self.view_is
    ∙ sym
    (cond-true (joins c.args.self.now p) (c.args.self.now ++ p ∷ []) c.args.self.now
    (sym c.joins.ensures ∙ c.if-not-joins.false))
