-- What std reads as a number of 64 bits, within the bounds.
use Rattle.std.proofs.Common.{arith}
use Rattle.chaosd_hosts.proofs.Texts.{number_found, number_missed}
use Rattle.chaosd_hosts.proofs.numbers.number_of.Goals as goal

pub returns-in-Ok-clause-value : goal.returns-in-Ok-clause-value
returns-in-Ok-clause-value c =
    number_found c.args.radix c.args.least c.args.most c.in-Ok.number c.args.text.now (grind (arith, c.as_bytes-bytes.ensures.value, c.if-bytes-eq43.false)) c.in-Ok.ensures.value.0.0
    c.in-Ok.ensures.value.1 c.if-least-number.true c.if-number-most.true

pub returns-in_default-3-clause-value : goal.returns-in_default-3-clause-value
returns-in_default-3-clause-value c =
    number_missed c.args.radix c.args.least c.args.most c.args.text.now (grind (arith, c.as_bytes-bytes.ensures.value, c.if-bytes-eq43.false)) c.in_default.ensures.value (omega arith)
