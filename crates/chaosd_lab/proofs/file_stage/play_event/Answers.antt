use Rattle.std.proofs.Common.{rules, ◌≡◌, ◌++◌, length, drop, ◌∙◌, ap, true, false, inl, refl}
use Rattle.file_lab.specs.Events.{file_event}
use Rattle.file_lab.specs.View.{wrote_mem}
use Rattle.file_lab.proofs.Exactly.{exact_unless}
use Rattle.chaosd_lab.specs.Answers.{copies_text}
use Rattle.chaosd_io.proofs.Runs.{went_well}
use Rattle.chaosd_lab.proofs.FileLines.{event_plays, event_wants, not_wanted, serve_wants}
use Rattle.chaosd_lab.proofs.file_stage.play_event.Goals as goal

pub returns-clause-played : goal.returns-clause-played
returns-clause-played c =
    let mid = c.put_answer.new.out in
    let n = length c.args.lab.now.lab.copies in
    let none : wrote_mem c.step-answer.new.self ≡ false = search rules in
    event_plays c.args.lab.now c.step-answer.new.self c.args.out.now mid c.put_copies.new.out
    (file_event c.args.event.now) c.step-answer.result _
    (exact_unless c.args.lab.now c.step-answer.new.self (file_event c.args.event.now) c.step-answer.result
    c.step-answer.ensures.exact none)
    (went_well _ _ _ c.written.ensures c.in_ok-written.was c.put_answer.ensures)
    (went_well _ _ _ c.written-2.ensures c.in_ok-written-2.was c.put_copies.ensures
    ∙ ap (λ k. mid ++ copies_text (length k) (drop (length k) c.copies.result.now)) c.copies-before.ensures
    ∙ ap (λ k. mid ++ copies_text n (drop n k)) c.copies.ensures)
    c.is_refused.ensures none

pub returns-clause-no_memory : goal.returns-clause-no_memory
returns-clause-no_memory c wants ready =
    let mid = c.put_answer.new.out in
    let n = length c.args.lab.now.lab.copies in
    let (same, more)
    = event_wants c.args.lab.now c.step-answer.new.self c.args.out.now mid c.put_copies.new.out c.step-answer.result _
    (not_wanted c.step-answer.result _ c.step-answer.ensures.refused)
    (went_well _ _ _ c.written.ensures c.in_ok-written.was c.put_answer.ensures)
    (went_well _ _ _ c.written-2.ensures c.in_ok-written-2.was c.put_copies.ensures
    ∙ ap (λ k. mid ++ copies_text (length k) (drop (length k) c.copies.result.now)) c.copies-before.ensures
    ∙ ap (λ k. mid ++ copies_text n (drop n k)) c.copies.ensures)
    c.is_refused.ensures wants in
    (_, inl (same, refl), more)

pub returns-then-wrote_mem-clause-no_memory : goal.returns-then-wrote_mem-clause-no_memory
returns-then-wrote_mem-clause-no_memory c wants ready =
    let mem : wrote_mem c.step-answer.new.self ≡ true = search rules in
    serve_wants (file_event c.args.event.now) c.args.lab.now c.step-answer.new.self c.args.out.now c.step-answer.result
    c.step-answer.ensures.happens c.step-answer.ensures.mem mem ready
