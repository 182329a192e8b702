use Rattle.std.proofs.Common.{rules, ◌<◌, length, ◌∙◌}
use Rattle.file_copy.proofs.Memory.{heard_more, receives_next, takes_first}
use Rattle.file_copy.proofs.mem_talk.MemTalkTalk.receive.Goals as goal

pub returns-clause-received : goal.returns-clause-received
returns-clause-received c =
    let below : c.args.self.now.received < length c.args.self.now.replies.items = search rules in
    record {
      goes = λ first talk h. receives_next (λ v. v.items) c.args.self.now.replies.items c.args.self.now.received c.index.result.now
          c.fill.new.text.items below c.index.ensures
          (c.fill.ensures ∙ c.as_slice.ensures.value) _ ∙ heard_more _ talk _ _ h;
    }

pub returns-clause-next : goal.returns-clause-next
returns-clause-next c =
    let below : c.args.self.now.received < length c.args.self.now.replies.items = search rules in
    takes_first (λ v. v.items) c.args.self.now.replies.items c.args.self.now.received c.index.result.now
    c.fill.new.text.items below c.index.ensures
    (c.fill.ensures ∙ c.as_slice.ensures.value)
