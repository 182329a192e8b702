use Rattle.std.proofs.Common.{◌∙◌}
use Rattle.std.specs.Fmt.{decimal}
use Rattle.file_copy.proofs.ReadBack.{if_opened, opened_back}
use Rattle.file_copy.proofs.Talks.{untaken}
use Rattle.file_copy.proofs.get.opened_length.Goals as goal

pub returns-then-came-clause-is : goal.returns-then-came-clause-is
returns-then-came-clause-is c =
    if_opened c.args.came (decimal c.args.tid) c.args.reply.now.items c.length_said.result c.if-came.true
    c.length_said.ensures

pub returns-then-came-clause-all : goal.returns-then-came-clause-all
returns-then-came-clause-all c = λ n fits e.
    c.length_said.ensures ∙ opened_back c.args.came c.args.tid n c.args.reply.now.items c.requires fits e

pub returns-else-came-clause-all : goal.returns-else-came-clause-all
returns-else-came-clause-all c = λ n fits e. absurd (untaken c.args.came c.args.reply.now.items _ c.if-came.false e)
