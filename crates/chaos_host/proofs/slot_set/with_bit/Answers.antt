use Rattle.std.proofs.Common.{w64}
use Rattle.std.proofs.lemmas.Nat.Bits.{bit_at_set_same, bit_at_set_other, bit_at_clear_same, bit_at_clear_other}
use Rattle.chaos_host.proofs.slot_set.with_bit.Goals as goal

pub returns-then-is_set-clause-here : goal.returns-then-is_set-clause-here
returns-then-is_set-clause-here c =
    rw c.if-is_set.true (bit_at_set_same w64 c.args.word c.args.bit c.requires)

pub returns-then-is_set-clause-others : goal.returns-then-is_set-clause-others
returns-then-is_set-clause-others c other low apart =
    bit_at_set_other w64 c.args.word c.args.bit c.requires other apart

pub returns-clause-here : goal.returns-clause-here
returns-clause-here c = rw c.if-is_set.false (bit_at_clear_same w64 c.args.word c.args.bit c.requires)

pub returns-clause-others : goal.returns-clause-others
returns-clause-others c other low apart =
    bit_at_clear_other w64 c.args.word c.args.bit c.requires other low apart
