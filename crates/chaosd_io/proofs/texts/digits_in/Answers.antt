use Rattle.std.proofs.Common.{arith}
use Rattle.std.proofs.lemmas.Fmt.{length-decimal-le}
use Rattle.chaosd_io.proofs.Digits.{four_more}
use Rattle.chaosd_io.proofs.texts.digits_in.Goals as goal

pub overflow_add-count : goal.overflow_add-count
overflow_add-count c =
    let most = length-decimal-le 20 c.args.n (omega arith) (omega arith) (omega arith) in
    omega (arith, most, c.loop-rest.invariant)

pub loop-rest-preserved : goal.loop-rest-preserved
loop-rest-preserved c =
    omega (arith, four_more c.loop-rest.rest (omega arith) (omega arith), c.loop-rest.invariant)

pub overflow_add-result : goal.overflow_add-result
overflow_add-result c =
    let most = length-decimal-le 20 c.args.n (omega arith) (omega arith) (omega arith) in
    omega (arith, most, c.loop-rest.invariant, c.last_digits.ensures)
