use Rattle.std.proofs.Common.{◌≡◌, ◌≤◌, ◌∙◌, length, sym, subst, arith}
use Rattle.std.specs.Fmt.{decimal}
use Rattle.std.proofs.lemmas.Fmt.{length-decimal-le}
use Rattle.file_copy.proofs.row.spell_at.Goals as goal

pub write_command-requires-clause-tid : goal.write_command-requires-clause-tid
write_command-requires-clause-tid c =
    let is : c.as_bytes-name.result.now ≡ decimal c.args.tid = c.as_bytes-name.ensures.value ∙ c.format.ensures.text in
    subst (λ l. length l ≤ 8) (sym is) (length-decimal-le 8 c.args.tid (omega arith) (omega arith) (omega arith))
