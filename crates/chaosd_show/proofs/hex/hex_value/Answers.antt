use Rattle.std.proofs.Common.{arith}
use Rattle.chaosd_show.proofs.Digits.{no_digit, table_digit}
use Rattle.chaosd_show.proofs.hex.hex_value.Goals as goal

pub returns-then-value : goal.returns-then-value
returns-then-value c = no_digit c.args.b (omega arith) c.if-value.true

pub returns-else-value : goal.returns-else-value
returns-else-value c = table_digit c.args.b (omega arith) c.if-value.false
