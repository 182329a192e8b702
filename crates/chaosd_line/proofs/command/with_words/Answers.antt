-- Each word in its turn.
use Rattle.std.proofs.Common.{◌∙◌, ◌||◌, ap}
use Rattle.clap.specs.Words.{app_of, with_rule}
use Rattle.chaosd_line.specs.Plan.{rule_of_word}
use Rattle.chaosd_line.proofs.Planned.{rules_step}
use Rattle.chaosd_line.proofs.command.with_words.Goals as goal

pub loop-word-preserved : goal.loop-word-preserved
loop-word-preserved c =
    let added =
    c.in_ok-full.ensures.shape c.arg_of.ensures.local
    ∙ ap (with_rule (app_of c.loop-word.full)) c.arg_of.ensures.rule in (
      rules_step rule_of_word c.args.words.now c.loop-word.word-index _ _ _ _ c.loop-word-test.true
          c.loop-word.invariant.0 added,
      c.in_ok-full.ensures.globals ∙ (λ i. c.loop-word.invariant.1 i || c.arg_of.ensures.local i),
    )
