-- The row that was found takes the refusal.
use Rattle.std.proofs.Common.{subst}
use Rattle.chaosd_log.specs.Refusals.{IsRowAt}
use Rattle.chaosd_log.proofs.Rows.{in_row}
use Rattle.chaosd_log.proofs.refusals.Refusals.count.Goals as goal

pub returns-in-Some : goal.returns-in-Some
returns-in-Some c =
    let there = subst (IsRowAt c.args.from c.args.fault c.in-Some.place) c.as_slice.ensures.value c.in-Some.ensures.some in
    in_row c.args.self.now c.self.inside.known.items c.deref_mut.result.now c.self.inside.others c.args.from c.args.fault c.args.now
    c.in-Some.place _ c.count.new.self c.count.result c.report_known.result
    c.self.view_is c.deref_mut.ensures.value there c.count.ensures.due c.count.ensures.tally c.report_known.ensures
