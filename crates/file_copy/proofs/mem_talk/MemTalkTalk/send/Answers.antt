use Rattle.std.proofs.Common.{rules, ap, ◌∙◌, ◌++◌, [], ◌∷◌}
use Rattle.file_copy.proofs.Memory.{answers_one, serves_next}
use Rattle.file_copy.proofs.mem_talk.MemTalkTalk.send.Goals as goal

pub invariant_of-self-2 : goal.invariant_of-self-2
invariant_of-self-2 c = record {
  within = search rules;
  honest =
      serves_next (λ v. v.items) _ _ _ _ _ _ c.args.self.now.sent.items _ c.args.self.now.replies.items _ c.copied.result
      c.in-Some.reply c.args.command.now
      c.args.self.now.honest
      (c.push_reserved.ensures.items ∙ ap (λ l. l ++ c.copied.result ∷ []) c.reserve.ensures.items)
      (c.push_reserved-2.ensures.items ∙ ap (λ l. l ++ c.in-Some.reply ∷ []) c.reserve-else-is_err.ensures.items)
      c.copied.ensures c.in-Some.ensures;
}

pub returns-clause-kept : goal.returns-clause-kept
returns-clause-kept c =
    answers_one (λ v. v.items) c.args.self.now.replies.items _ c.in-Some.reply c.args.self.now.received c.args.self.now.within
    (c.push_reserved-2.ensures.items ∙ ap (λ l. l ++ c.in-Some.reply ∷ []) c.reserve-else-is_err.ensures.items)
