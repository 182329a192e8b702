-- Each subcommand in its turn.
use Rattle.std.proofs.Common.{◌∙◌, ap}
use Rattle.clap.specs.Words.{app_of, with_subcommand}
use Rattle.chaosd_line.proofs.Planned.{subs_step}
use Rattle.chaosd_line.proofs.command.with_subs.Goals as goal

pub loop-name-preserved : goal.loop-name-preserved
loop-name-preserved c =
    let added = c.in_ok-full.ensures.shape c.in_ok-nested.ensures.local
    ∙ ap (λ a. with_subcommand (app_of c.loop-name.full) a.top) (c.in_ok-nested.ensures.app ∙ c.sub_of.ensures) in
    subs_step c.args.names.now c.loop-name.name-index _ _ _ _ c.loop-name-test.true c.loop-name.invariant added
