use Rattle.std.proofs.Common.{◌≡◌, ◌++◌, sym, ◌∙◌, subst}
use Rattle.std.specs.Prelude.{OnOk}
use Rattle.chaosd_io.proofs.TextBytes.{plain_shown}
use Rattle.chaosd_io.proofs.escapes.put_piece.Goals as goal

-- a plain piece is shown as itself
pub returns-then-are_plain : goal.returns-then-are_plain
returns-then-are_plain c =
    subst (λ l. OnOk c.put.result (c.put.new.self ≡ c.args.out.now ++ l))
    (sym (plain_shown c.args.piece.now (sym c.are_plain.ensures ∙ c.if-are_plain.true))) c.put.ensures.taken
