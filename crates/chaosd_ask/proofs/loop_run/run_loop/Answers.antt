use Rattle.std.proofs.Common.{rules}
use Rattle.chaosd_ask.proofs.Asking.{asked_link, asked_there}
use Rattle.chaosd_ask.proofs.loop_run.run_loop.Goals as goal

pub returns-clause-talk : goal.returns-clause-talk
returns-clause-talk g c =
    asked_there _ _ _ _ _ _ _ _ c.ask_script.result
    (asked_link _ _ _ _ _ _ _ _ _ _ _ c.ask_script.result
    (rw (c.in_ok-host.ensures.made, c.file.ensures, c.usual-config.ensures) at c.ask_script.ensures.talk) (search rules) (search rules))
