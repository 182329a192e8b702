use Rattle.std.proofs.Common.{◌+◌, ◌/◌, ◌%◌, arith}
use Rattle.chaos_chudp.proofs.sum.folded.Goals as goal

pub returns-clause-folds : goal.returns-clause-folds
returns-clause-folds c =
    let t = c.args.total in
    (t / 65536 + (t % 65536 + t / 65536) / 65536, omega arith)
