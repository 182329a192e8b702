use Rattle.std.proofs.Common.{rules}
use Rattle.chaosd_ask.proofs.Asking.{asked_link, by_clock}
use Rattle.chaosd_ask.proofs.ask_run.run_ask.Goals as goal

pub returns-clause-talk : goal.returns-clause-talk
returns-clause-talk g c =
    by_clock _ _ c.ask_script.result c.in_ok-epoch.epoch c.in_ok-epoch.ensures.begins
    (asked_link _ _ _ _ _ _ _ _ _ _ _ c.ask_script.result
    (rw (
      c.in_ok-host.ensures.made,
      c.passed-passed.ensures,
      c.new-driver.ensures.timing.0,
      c.new-driver.ensures.timing.1,
      c.new-driver.ensures.link.1,
      c.usual-timing.ensures,
      c.file.ensures,
      c.usual.ensures,
    ) at c.ask_script.ensures.talk)
    (search rules) (search rules))
