use Rattle.std.proofs.Common.{◌∙◌, arith}
use Rattle.chaos_chudp.proofs.Plain.{front_plain}
use Rattle.chaos_chudp.proofs.Carried.{carried_read, delivered, none_carried, not_refused, read_carried}
use Rattle.chaos_chudp.proofs.read.from_chudp.Goals as goal

pub returns-in_err-checked-clause-only : goal.returns-in_err-checked-clause-only
returns-in_err-checked-clause-only c p to from carried =
    none_carried _ p to from c.args.bytes.now _ c.in_err-checked.ensures.fault carried

pub unreachable-requires : goal.unreachable-requires
unreachable-requires c =
    not_refused c.args.bytes.now _ _ c.in_default.field-0 c.in_ok-checked.ensures.fault
    (front_plain c.args.bytes.now c.mark_over.new.to c.in_ok-checked.ensures.long c.mark_over.ensures)
    c.from_datagram.ensures.exact c.in_default.is

pub returns-clause-exact : goal.returns-clause-exact
returns-clause-exact c =
    let bs = c.args.bytes.now in
    delivered bs _ c.in-Ok.packet c.word_at.result c.word_at-2.result c.word_at-3.result c.in_ok-checked.ensures.fault
    (front_plain bs c.mark_over.new.to c.in_ok-checked.ensures.long c.mark_over.ensures) c.in-Ok.ensures.exact
    c.word_at.ensures c.word_at-2.ensures c.word_at-3.ensures

pub returns-clause-carried : goal.returns-clause-carried
returns-clause-carried c =
    carried_read _ c.args.bytes.now (λ i. omega (arith, c.type_inv.bytes i)) (returns-clause-exact c)

pub returns-clause-only : goal.returns-clause-only
returns-clause-only c p to from carried = returns-clause-exact c ∙ read_carried p to from c.args.bytes.now carried
