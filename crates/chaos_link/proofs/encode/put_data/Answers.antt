use Rattle.std.proofs.Common.{◌∙◌, ◌/◌, length, arith, sym, refl}
use Rattle.chaos_link.proofs.Turned.{wire-packed, odd_put}
use Rattle.chaos_link.proofs.encode.put_data.Goals as goal

pub returns-then-from-eq0-clause-bytes : goal.returns-then-from-eq0-clause-bytes
returns-then-from-eq0-clause-bytes c =
    c.turn_pairs.ensures ∙ sym (wire-packed c.args.from.now (λ i. omega (arith, c.type_inv.from i)) (omega arith))

pub returns-clause-bytes : goal.returns-clause-bytes
returns-clause-bytes c =
    odd_put c.args.from.now c.turn_pairs.new.to (length c.args.from.now / 2) _ _ (λ i. omega (arith, c.type_inv.from i))
    (omega arith) (omega arith) (omega arith) refl c.turn_pairs.ensures
