use Rattle.std.proofs.Common.{sym, arith}
use Rattle.chaosd_lab.proofs.Copies.{copies_end, one_copy}
use Rattle.chaosd_lab.proofs.answers.put_copies.Goals as goal

pub loop-place-preserved : goal.loop-place-preserved
loop-place-preserved c =
    one_copy c.args.copies.now _ _ _ c.loop-place.place _ (omega arith) (sym c.index-copies-place.is)
    c.in_ok-put_copy.ensures c.loop-place.invariant

pub returns : goal.returns
returns c = copies_end c.args.copies.now _ _ c.loop-place.place (omega arith) c.loop-place.invariant
