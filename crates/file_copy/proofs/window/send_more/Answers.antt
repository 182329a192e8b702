use Rattle.std.proofs.Common.{rules, subst, ◌∙◌, ◌≡◌, true, false}
use Rattle.file_copy.specs.Copy.{upto}
use Rattle.file_copy.specs.Talk.{Since}
use Rattle.file_copy.specs.Row.{row_command}
use Rattle.file_copy.proofs.Talks.{kept_unsent, sent_next}
use Rattle.file_copy.proofs.Quiet.{quiet_send}
use Rattle.file_copy.proofs.window.send_more.Goals as goal

pub returns-then-not-send-clause-talk : goal.returns-then-not-send-clause-talk
returns-then-not-send-clause-talk g c = λ start replies h.
    let no : c.send.result ≡ false = search rules in
    kept_unsent _ _ _ _ _ c.send.result _ (c.loop-i.invariant.talk start replies h) c.send.ensures.sent no

pub loop-i-preserved : goal.loop-i-preserved
loop-i-preserved g c = record {
  talk = λ start replies h.
      let yes : c.send.result ≡ true = search rules in
      sent_next _ _ _ (row_command c.args.row.now) c.loop-i.i replies c.send.result _
      (c.loop-i.invariant.talk start replies h) c.send.ensures.sent yes
      (c.as_slice.ensures.value ∙ c.spell_at.ensures);
  quiet = quiet_send _ _ _ _ _ c.loop-i.invariant.quiet c.send.ensures.sent;
  still = c.send.ensures.still ∙ c.loop-i.invariant.still;
  unfailed = c.send.ensures.unfailed ∙ c.loop-i.invariant.unfailed;
  patient = c.send.ensures.patient ∙ c.loop-i.invariant.patient;
}

pub returns-then-not-send-clause-quiet : goal.returns-then-not-send-clause-quiet
returns-then-not-send-clause-quiet g c = quiet_send _ _ _ _ _ c.loop-i.invariant.quiet c.send.ensures.sent

pub returns-clause-talk : goal.returns-clause-talk
returns-clause-talk g c = λ start replies h.
    let e : c.loop-i.i ≡ c.args.most = search rules in
    subst (λ n. Since (g.T.Talk.talked start) (g.T.Talk.talked c.loop-i.talk) (upto (row_command c.args.row.now) n) replies) e
    (c.loop-i.invariant.talk start replies h)
