use Rattle.std.proofs.Common.{sym, ◌∙◌, arith}
use Rattle.std.proofs.lemmas.Bool.Decides.{nat_tests}
use Rattle.chaosd_io.proofs.TextBytes.{byte_read, byte_stops, byte_too_many}
use Rattle.chaosd_io.proofs.escapes.read_byte.Goals as goal

pub returns-in_err-byte-clause-none : goal.returns-in_err-byte-clause-none
returns-in_err-byte-clause-none c none =
    byte_stops c.args.text.now c.args.bytes.now.items c.requires.some
    (sym c.first_byte.ensures.value ∙ c.in_err-byte.was)

pub returns-then-is_full-clause-none : goal.returns-then-is_full-clause-none
returns-then-is_full-clause-none c none =
    byte_too_many c.args.text.now c.args.bytes.now.items c.in_ok-byte.byte c.in_ok-byte.count c.requires.some
    (sym c.first_byte.ensures.value ∙ c.in_ok-byte.was)
    (grind (arith, nat_tests, c.is_full.ensures, c.if-is_full.true))

pub returns-clause-read : goal.returns-clause-read
returns-clause-read c = record {
  some = c.in_ok-byte.ensures.within.0;
  within = c.in_ok-byte.ensures.within.1;
  value =
      byte_read c.args.text.now c.args.bytes.now.items c.push.new.self.items c.in_ok-byte.byte c.in_ok-byte.count
      c.requires.some (sym c.first_byte.ensures.value ∙ c.in_ok-byte.was) c.push.ensures.items;
}
