use Rattle.std.proofs.Common.{◌∙◌, sym, arith, Ok}
use Rattle.chaos_link.proofs.Either.{one_at_fault, two_at_fault, opened_one, opened_two, none_carried_all, carried_read_all, read_carried_all}
use Rattle.chaos_link.proofs.packets.open_datagram.Goals as goal

pub returns-then-is_version_two-clause-exact : goal.returns-then-is_version_two-clause-exact
returns-then-is_version_two-clause-exact c =
    opened_two c.args.bytes.now c.split_at.result.1.now c.in_ok-left.left
    (sym c.is_version_two.ensures ∙ c.if-is_version_two.true) c.in_ok-left.ensures.fault c.in_ok-left.ensures.number
    c.split_at.ensures.back

pub returns-then-is_version_two-clause-carried : goal.returns-then-is_version_two-clause-carried
returns-then-is_version_two-clause-carried c =
    carried_read_all (Ok _) c.args.bytes.now (λ i. omega (arith, c.type_inv.bytes i))
    (returns-then-is_version_two-clause-exact c)

pub returns-then-is_version_two-clause-only : goal.returns-then-is_version_two-clause-only
returns-then-is_version_two-clause-only c packets carried =
    returns-then-is_version_two-clause-exact c ∙ read_carried_all packets c.args.bytes.now carried

pub returns-in_err-left-clause-only : goal.returns-in_err-left-clause-only
returns-in_err-left-clause-only c packets carried =
    none_carried_all _ packets c.args.bytes.now _
    (two_at_fault c.args.bytes.now _ (sym c.is_version_two.ensures ∙ c.if-is_version_two.true)
    c.in_err-left.ensures.fault)
    carried

pub returns-in_err-checked_count-clause-only : goal.returns-in_err-checked_count-clause-only
returns-in_err-checked_count-clause-only c packets carried =
    none_carried_all _ packets c.args.bytes.now _
    (one_at_fault c.args.bytes.now _ (sym c.is_version_two.ensures ∙ c.if-is_version_two.false)
    c.in_err-checked_count.ensures.fault)
    carried

pub returns-clause-exact : goal.returns-clause-exact
returns-clause-exact c =
    opened_one c.args.bytes.now c.split_at-2.result.1.now (sym c.is_version_two.ensures ∙ c.if-is_version_two.false)
    c.in_ok-checked_count.ensures.fault c.split_at-2.ensures.back

pub returns-clause-carried : goal.returns-clause-carried
returns-clause-carried c =
    carried_read_all (Ok _) c.args.bytes.now (λ i. omega (arith, c.type_inv.bytes i)) (returns-clause-exact c)

pub returns-clause-only : goal.returns-clause-only
returns-clause-only c packets carried = returns-clause-exact c ∙ read_carried_all packets c.args.bytes.now carried
