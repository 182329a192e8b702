use Rattle.std.proofs.Common.{◌∙◌, arith}
use Rattle.chaos_link.proofs.Carried.{read_carried, carried_read, none_carried}
use Rattle.chaos_link.proofs.Made.{read_as}
use Rattle.chaos_link.proofs.datagram.from_datagram.Goals as goal

pub returns-in_err-count-clause-only : goal.returns-in_err-count-clause-only
returns-in_err-count-clause-only c p carried = none_carried _ p c.args.bytes.now _ c.in_err-count.ensures.fault carried

pub returns-clause-exact : goal.returns-clause-exact
returns-clause-exact c =
    read_as _ c.args.bytes.now _ c.in_ok-count.ensures.fault c.split_at.ensures.back c.packet_of.ensures

pub returns-clause-carried : goal.returns-clause-carried
returns-clause-carried c =
    carried_read _ c.args.bytes.now (λ i. omega (arith, c.type_inv.bytes i)) (returns-clause-exact c)

pub returns-clause-only : goal.returns-clause-only
returns-clause-only c p carried = returns-clause-exact c ∙ read_carried p c.args.bytes.now carried
