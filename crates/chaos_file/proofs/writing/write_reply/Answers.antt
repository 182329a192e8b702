use Rattle.std.proofs.Common.{◌≡◌, ◌++◌, ap, ◌∙◌}
use Rattle.chaos_file.specs.Reply.{reading_of, reply_text, reply_view, said_text}
use Rattle.chaos_file.proofs.ReadReplies.{reply_read}
use Rattle.chaos_file.proofs.writing.write_reply.Goals as goal

pub returns : goal.returns
returns c =
    let reply = reply_view c.args.reply in
    let is : c.put_said.new.out.items ≡ reply_text reply =
    c.put_said.ensures ∙ ap (λ front. front ++ said_text reply.said) c.begin.ensures.value in
    record { spelled = is; read_back = λ legal. ap reading_of is ∙ reply_read reply legal }
