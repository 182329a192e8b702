use Rattle.chaosd_show.proofs.Runs.{all_shown, last_shown}
use Rattle.chaosd_io.proofs.Steps.{on_ok}
use Rattle.chaosd_show.proofs.run.report_last.Goals as goal

pub returns-in_default : goal.returns-in_default
returns-in_default g c =
    record { shown = λ input rest before s end. all_shown c.args.format c.args.view input rest before _ _ _ s (c.in_default.ensures _ input rest s.given s.gives end) }

pub returns : goal.returns
returns g c = record {
  shown = on_ok c.report.result
      (λ text tally input rest before s end. last_shown c.args.format c.args.view input rest before _ _ _ _ _ _ s
      (c.in-Some.ensures _ input rest s.given s.gives end) text tally)
      c.report.ensures.text c.report.ensures.tally;
}
