-- Each word in its turn.
use Rattle.std.proofs.Common.{◌≡◌, ◌∙◌, None, Result, Ok, Err, map, refl, sym}
use Rattle.std.specs.Prelude.{IsErrAnd}
use Rattle.std.specs.Result.{result_ok}
use Rattle.chaosd_line.specs.Followed.{peers_among}
use Rattle.chaosd_line.proofs.Reading.{peers_step}
use Rattle.chaosd_line.proofs.followed.peers_among.Goals as goal

no_value : {T E : Type 0} (r : Result T E) (test : E → Type 0) → IsErrAnd r test → result_ok r ≡ None
no_value (Ok x) test h = absurd h
no_value (Err e) test h = refl

pub loop-text-preserved : goal.loop-text-preserved
loop-text-preserved c = record {
  few = c.in_ok-add_peer_word.ensures.few;
  rest = c.loop-text.invariant.rest
      ∙ peers_step (λ t. t.now) c.args.texts.now c.loop-text.text-index _ _ _ c.loop-text-test.true
      c.in_ok-add_peer_word.ensures.ok;
}

pub returns-in_err-add_peer_word : goal.returns-in_err-add_peer_word
returns-in_err-add_peer_word c =
    let none : peers_among (map (λ t. t.now) c.args.texts.now) ≡ None =
    c.loop-text.invariant.rest
    ∙ peers_step (λ t. t.now) c.args.texts.now c.loop-text.text-index _ _ _ c.loop-text-test.true
    c.in_err-add_peer_word.ensures.err in
    no_value c.from_residual.result _ c.from_residual.ensures.1 ∙ sym none
