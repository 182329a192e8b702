use Rattle.std.proofs.Common.{◌∙◌, sym, arith}
use Rattle.chaosd_show.proofs.Steps.{empty_behind}
use Rattle.chaosd_show.proofs.reporter.Reporter.put_report.Goals as goal

pub returns-then-is_empty-clause-text : goal.returns-then-is_empty-clause-text
returns-then-is_empty-clause-text g c =
    empty_behind _ _ _ c.args.format c.args.view c.args.self.now.tally.reports c.args.raw.now _
    (omega (arith, c.if-self-ne0.true)) c.without_return.ensures (sym c.is_empty.ensures ∙ c.if-is_empty.true)
    (c.in_ok-put_gap_and_empty.ensures c.args.view)
