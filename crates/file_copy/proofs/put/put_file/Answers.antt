use Rattle.std.proofs.Common.{◌∙◌, rules, arith, subst, true, false, ◌≡◌, ◌+◌, length, [], ◌∷◌}
use Rattle.std.specs.Fmt.{decimal}
use Rattle.chaos_file.specs.Answer.{Closed}
use Rattle.chaos_file.specs.Command.{Close}
use Rattle.chaos_file.specs.Spelling.{spelling_of}
use Rattle.file_copy.specs.Copy.{reply_of}
use Rattle.file_copy.specs.Talk.{Since, SentOrNot, taken}
use Rattle.file_copy.specs.Row.{file_handle}
use Rattle.file_copy.proofs.Joined.{copied_then, when_copied}
use Rattle.file_copy.proofs.Talks.{wanted_received}
use Rattle.file_copy.proofs.Ended.{unless, is_received}
use Rattle.file_copy.proofs.Puts.{put_closing, put_done, put_ended_unanswered, put_not_closed, put_not_written, put_writing, put_written}
use Rattle.file_copy.proofs.Quiet.{unanswered_by, unanswered_waited, where_none}
use Rattle.file_copy.proofs.put.put_file.Goals as goal

pub returns-clause-done : goal.returns-clause-done
returns-clause-done g c =
    let m = g.T.Talk.talked c.write_all.new.talk in
    let d = g.T.Talk.talked c.ask_telling.new.talk in
    copied_then _ _ _ (λ e. put_done _ m d c.args.first c.args.path.now c.args.bytes.now
    (put_written _ m c.args.first c.args.path.now c.args.bytes.now (when_copied _ _ c.in-Done.is c.in_ok-end.ensures.done))
    (subst
    (λ n. Since m d (spelling_of (decimal (c.args.first + 1 + n)) file_handle Close ∷ [])
    (reply_of (decimal (c.args.first + 1 + n)) file_handle (Closed (length c.args.bytes.now)) ∷ []))
    c.chunk_count.ensures.value
    (wanted_received
    (λ x. Since m d (spelling_of (decimal (c.args.first + 1 + c.chunk_count.result)) file_handle Close ∷ [])
    (x ∷ []))
    (taken c.in_ok-came.came c.ask_telling.new.reply.items) _ _ e c.write_wanted.ensures c.in_ok-came.ensures.received)))
    c.settled.ensures.done

pub returns-in_err-end-clause-begun : goal.returns-in_err-end-clause-begun
returns-in_err-end-clause-begun g c = put_writing _ _ c.args.first c.args.path.now c.args.bytes.now c.write_all.ensures.sent

pub returns-in_default : goal.returns-in_default
returns-in_default g c = record {
  done = search rules;
  ended = put_not_written _ _ c.args.first c.args.path.now c.args.bytes.now c.in_ok-end.end c.in_ok-end.ensures.ended;
  waited = c.in_ok-end.ensures.waited;
  unfailed = c.in_ok-end.ensures.unfailed;
  patient = c.write_all.ensures.patient;
  faults = tt;
  begun = put_writing _ _ c.args.first c.args.path.now c.args.bytes.now c.write_all.ensures.sent;
}

pub returns-in_err-came-clause-begun : goal.returns-in_err-came-clause-begun
returns-in_err-came-clause-begun g c =
    put_closing _ _ _ c.args.first c.args.path.now c.args.bytes.now
    (put_written _ _ c.args.first c.args.path.now c.args.bytes.now (when_copied _ _ c.in-Done.is c.in_ok-end.ensures.done))
    (subst
    (λ n. SentOrNot (g.T.Talk.talked c.write_all.new.talk) (g.T.Talk.talked c.ask_telling.new.talk)
    (spelling_of (decimal (c.args.first + 1 + n)) file_handle Close))
    c.chunk_count.ensures.value c.ask_telling.ensures.sent)

pub returns-then-not-came-clause-begun : goal.returns-then-not-came-clause-begun
returns-then-not-came-clause-begun g c =
    put_closing _ _ _ c.args.first c.args.path.now c.args.bytes.now
    (put_written _ _ c.args.first c.args.path.now c.args.bytes.now (when_copied _ _ c.in-Done.is c.in_ok-end.ensures.done))
    (subst
    (λ n. SentOrNot (g.T.Talk.talked c.write_all.new.talk) (g.T.Talk.talked c.ask_telling.new.talk)
    (spelling_of (decimal (c.args.first + 1 + n)) file_handle Close))
    c.chunk_count.ensures.value c.ask_telling.ensures.sent)

pub returns-clause-begun : goal.returns-clause-begun
returns-clause-begun g c =
    put_closing _ _ _ c.args.first c.args.path.now c.args.bytes.now
    (put_written _ _ c.args.first c.args.path.now c.args.bytes.now (when_copied _ _ c.in-Done.is c.in_ok-end.ensures.done))
    (subst
    (λ n. SentOrNot (g.T.Talk.talked c.write_all.new.talk) (g.T.Talk.talked c.ask_telling.new.talk)
    (spelling_of (decimal (c.args.first + 1 + n)) file_handle Close))
    c.chunk_count.ensures.value c.ask_telling.ensures.sent)

pub returns-then-not-came-clause-ended : goal.returns-then-not-came-clause-ended
returns-then-not-came-clause-ended g c =
    let none : c.in_ok-came.came ≡ false = search rules in
    unless c.unanswered.result _
    (rw c.unanswered.ensures
    (put_ended_unanswered _ _ _ c.args.first c.chunk_count.result c.args.path.now c.args.bytes.now
    c.ask_telling.new.is_sent c.chunk_count.ensures.value
    (put_written _ _ c.args.first c.args.path.now c.args.bytes.now (when_copied _ _ c.in-Done.is c.in_ok-end.ensures.done))
    (where_none c.in_ok-came.came c.ask_telling.new.reply.items _ none c.in_ok-came.ensures.known)))

pub returns-then-not-came-clause-waited : goal.returns-then-not-came-clause-waited
returns-then-not-came-clause-waited g c =
    let none : c.in_ok-came.came ≡ false = search rules in
    unanswered_waited c.in_ok-came.came c.ask_telling.new.reply.items c.unanswered.result c.ask_telling.new.is_sent _ _ c.unanswered.ensures none
    c.in_ok-came.ensures.waited (λ w. (c.write_all.new.talk, w))

pub returns-clause-waited : goal.returns-clause-waited
returns-clause-waited g c =
    unanswered_by (taken c.in_ok-came.came c.ask_telling.new.reply.items) _ _ _ c.settled.result _ _ c.settled.ensures.ended
    c.in_ok-came.ensures.waited (λ w. (c.write_all.new.talk, w))

pub returns-clause-ended : goal.returns-clause-ended
returns-clause-ended g c =
    let yes : c.in_ok-came.came ≡ true = search rules in
    put_not_closed _ _ _ c.args.first c.chunk_count.result c.args.path.now c.args.bytes.now _ _ c.settled.result
    (is_received c.in_ok-came.came _ yes)
    c.chunk_count.ensures.value c.write_wanted.ensures
    (put_written _ _ c.args.first c.args.path.now c.args.bytes.now (when_copied _ _ c.in-Done.is c.in_ok-end.ensures.done))
    c.in_ok-came.ensures.all c.settled.ensures.ended
