use Rattle.std.proofs.Common.{arith}
use Rattle.chaosd_show.proofs.Digits.{digit_at}
use Rattle.chaosd_show.proofs.report.hex_digit.Goals as goal

pub returns : goal.returns
returns c = digit_at c.args.digit (omega arith)
