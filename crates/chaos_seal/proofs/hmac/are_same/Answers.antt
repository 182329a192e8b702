use Rattle.std.proofs.Common.{arith}
use Rattle.chaos_seal.proofs.Bytes.{same_so_far}
use Rattle.chaos_seal.proofs.hmac.are_same.Goals as goal

pub loop-i-preserved : goal.loop-i-preserved
loop-i-preserved c =
    same_so_far c.args.a.now c.args.b.now c.loop-i.i c.loop-i.differ (omega (arith, c.loop-i-test.true, c.told-a))
    (omega (arith, c.loop-i-test.true, c.told-b)) c.loop-i.invariant
