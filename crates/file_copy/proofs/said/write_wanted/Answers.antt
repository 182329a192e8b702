use Rattle.std.proofs.Common.{◌≡◌, ◌≤◌, ◌∙◌, length, sym, subst, arith}
use Rattle.std.specs.Fmt.{decimal}
use Rattle.std.proofs.lemmas.Fmt.{length-decimal-le}
use Rattle.file_copy.proofs.said.write_wanted.Goals as goal

pub write_reply-requires : goal.write_reply-requires
write_reply-requires c =
    let is : c.as_bytes-tid.result.now ≡ decimal c.args.tid = c.as_bytes-tid.ensures.value ∙ c.format.ensures.text in (
      subst (λ l. length l ≤ 8) (sym is) (length-decimal-le 8 c.args.tid (omega arith) (omega arith) (omega arith)),
      c.requires.handle,
      c.requires.said,
    )
