-- Each word in its turn.
use Rattle.std.proofs.Common.{◌∙◌}
use Rattle.chaosd_line.proofs.Reading.{followed_step}
use Rattle.chaosd_line.proofs.followed.followed_among.Goals as goal

pub loop-text-preserved : goal.loop-text-preserved
loop-text-preserved c = record {
  few = c.in_ok-add_followed_word.ensures.few;
  rest = c.loop-text.invariant.rest
      ∙ followed_step (λ t. t.now) c.args.texts.now c.loop-text.text-index _ _ _ _ c.loop-text-test.true
      c.in_ok-add_followed_word.ensures.ok;
}
