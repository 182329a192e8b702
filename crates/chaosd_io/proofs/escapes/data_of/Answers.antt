use Rattle.std.proofs.Common.{sym, ◌∙◌, arith}
use Rattle.chaosd_io.proofs.TextBytes.{plain_stands}
use Rattle.chaosd_io.proofs.escapes.data_of.Goals as goal

pub returns-then-are_plain : goal.returns-then-are_plain
returns-then-are_plain c =
    plain_stands c.args.text.now (sym c.are_plain.ensures ∙ c.if-are_plain.true) (omega (arith, c.if-text-le-MAX_DATA.true))
