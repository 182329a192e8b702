use Rattle.std.proofs.Common.{arith}
use Rattle.chaosd_io.proofs.Digits.{one_digit, two_digits, three_digits, four_digits}
use Rattle.chaosd_io.proofs.texts.last_digits.Goals as goal

pub returns-in-0-to-9 : goal.returns-in-0-to-9
returns-in-0-to-9 c = one_digit _ (omega arith)

pub returns-in-10-to-99 : goal.returns-in-10-to-99
returns-in-10-to-99 c = two_digits _ (omega arith) (omega arith)

pub returns-in-100-to-999 : goal.returns-in-100-to-999
returns-in-100-to-999 c = three_digits _ (omega arith) (omega arith)

pub returns-in_default : goal.returns-in_default
returns-in_default c = four_digits _ (omega arith) (omega arith)
