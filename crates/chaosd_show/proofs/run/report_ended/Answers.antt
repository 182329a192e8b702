use Rattle.std.proofs.Common.{refl, ap, ◌∙◌, arith}
use Rattle.chaosd_show.proofs.Runs.{shown_of, more_shown}
use Rattle.chaosd_show.proofs.run.report_ended.Goals as goal

pub lines-preserved : goal.lines-preserved
lines-preserved g c =
    let (few, room, shown) = c.lines.invariant in (
      omega
          (arith, few, ap (λ t. t.reports) c.in_ok-report.ensures.tally, c.cut.ensures.room, c.lines-test.ensures.less refl),
      c.cut.ensures.room ∙ room,
      λ input rest before s.
          let t = shown input rest before s in
          more_shown c.args.format c.args.view input rest before _ _ _ _ _ _ _ t (c.lines-test.ensures.given _ input rest t.given t.gives)
          c.line.ensures c.in_ok-report.ensures.text c.in_ok-report.ensures.tally,
    )

pub returns-clause-shown : goal.returns-clause-shown
returns-clause-shown g c input rest before s =
    let (few, room, shown) = c.lines.invariant in
    let t = shown input rest before s in
    shown_of c.args.format c.args.view input rest rest before _ _ _ _ t (c.lines-test.ensures.given _ input rest t.given t.gives).0
