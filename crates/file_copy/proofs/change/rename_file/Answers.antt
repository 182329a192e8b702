use Rattle.std.proofs.Common.{◌≡◌, ◌∙◌, [], ◌∷◌, sym}
use Rattle.std.specs.Fmt.{decimal}
use Rattle.file_copy.specs.Talk.{Since, taken}
use Rattle.file_copy.specs.Ends.{EndedAt, rename_command, rename_reply}
use Rattle.file_copy.proofs.Ended.{unless_then, unwanted}
use Rattle.file_copy.proofs.Joined.{copied_then}
use Rattle.file_copy.proofs.Talks.{wanted_received}
use Rattle.file_copy.proofs.Quiet.{unanswered_by}
use Rattle.file_copy.proofs.change.rename_file.Goals as goal

pub returns-clause-done : goal.returns-clause-done
returns-clause-done g c =
    copied_then _ _ _ (λ e. wanted_received
    (λ x. Since (g.T.Talk.talked c.args.talk.now) (g.T.Talk.talked c.ask_one.new.talk)
    (rename_command c.args.tid c.args.old.now c.args.new.now ∷ []) (x ∷ []))
    (taken c.in_ok-came.came c.ask_one.new.reply.items) _ _ e c.write_wanted.ensures c.in_ok-came.ensures.received) c.settled.ensures.done

pub returns-clause-waited : goal.returns-clause-waited
returns-clause-waited g c =
    unanswered_by (taken c.in_ok-came.came c.ask_one.new.reply.items) _ _ _ c.settled.result _ _ c.settled.ensures.ended
    c.in_ok-came.ensures.waited (λ w. (c.args.talk.now, w))

pub returns-clause-ended : goal.returns-clause-ended
returns-clause-ended g c =
    let a = g.T.Talk.talked c.args.talk.now in
    let b = g.T.Talk.talked c.ask_one.new.talk in
    unless_then c.settled.result _ (EndedAt a b [] (decimal c.args.tid) [] (λ x. x ≡ rename_reply c.args.tid))
    (λ e.
    (taken c.in_ok-came.came c.ask_one.new.reply.items, c.in_ok-came.ensures.all, unwanted _ _ _ _ _ _ (λ x _ w. w ∙ sym c.write_wanted.ensures) e))
    c.settled.ensures.ended
