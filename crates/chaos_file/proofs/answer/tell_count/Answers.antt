use Rattle.std.proofs.Common.{◌≡◌, ◌+◌, ap, ◌∙◌, rules, length, length-append}
use Rattle.std.proofs.lemmas.Fmt.{length-decimal-le}
use Rattle.chaos_file.proofs.answer.tell_count.Goals as goal

pub put_number-requires : goal.put_number-requires
put_number-requires c =
    let e : length c.put.new.reply.items ≡ length c.args.reply.now.items + length c.args.word.now =
    ap length c.put.ensures ∙ length-append _ _ in
    search (rules, length-decimal-le 20)
