use Rattle.std.proofs.lemmas.Result.{IfErr-weaker}
use Rattle.chaosd_io.proofs.Cutting.{none_came}
use Rattle.chaosd_io.proofs.Steps.{on_ok}
use Rattle.chaosd_lab.proofs.Plays.{on_fault}
use Rattle.chaosd_lab.proofs.Inputs.{given_of, given_kept}
use Rattle.chaosd_lab.proofs.Ends.{reading_stops}
use Rattle.chaosd_lab.proofs.script.play_all.Goals as goal

pub returns-in_err-refill-clause-stops : goal.returns-in_err-refill-clause-stops
returns-in_err-refill-clause-stops g c =
    on_fault c.from_residual-in_err-refill.result c.in_err-refill.field-0.0 _ c.from_residual-in_err-refill.ensures.1
    (λ before first.
    let s =
    given_kept g.S.Stage.script _ _ before _ _ _ _ _ c.in_ok-hand_on.ensures.kept c.in_ok-hand_on.ensures.same
    (c.in_ok-play_ended.ensures.plays _ _ before (c.reads.invariant.1 before first)) in
    reading_stops g.S.Stage.script _ _ _ before _ _ _ c.refill.new.self _ _ s
    (c.in_err-refill.ensures.given _ _ s.given s.gives))

pub play_last-requires-clause-none : goal.play_last-requires-clause-none
play_last-requires-clause-none g c = (c.in_ok-refill.ensures.end c.if-not-branch.true).0

pub returns-in_err-play_last-clause-stops : goal.returns-in_err-play_last-clause-stops
returns-in_err-play_last-clause-stops g c =
    on_fault c.from_residual-in_err-play_last.result c.in_err-play_last.field-0.0 _
    c.from_residual-in_err-play_last.ensures.1
    (λ before first.
    let s =
    given_kept g.S.Stage.script _ _ before _ _ _ _ _ c.in_ok-hand_on.ensures.kept c.in_ok-hand_on.ensures.same
    (c.in_ok-play_ended.ensures.plays _ _ before (c.reads.invariant.1 before first)) in
    c.in_err-play_last.ensures.stops _ _ before
    (given_of g.S.Stage.script _ _ _ before _ _ _ _ s
    (none_came _ _ _ _ s.given _ c.in_ok-refill.field-0 c.if-not-branch.true
    (c.in_ok-refill.ensures.given _ _ s.given s.gives)).0)
    (c.in_ok-refill.ensures.end c.if-not-branch.true).1)

pub returns-clause-plays : goal.returns-clause-plays
returns-clause-plays g c =
    on_ok c.finish.result
    (λ plays _ before first.
    let s =
    given_kept g.S.Stage.script _ _ before _ _ _ _ _ c.in_ok-hand_on.ensures.kept c.in_ok-hand_on.ensures.same
    (c.in_ok-play_ended.ensures.plays _ _ before (c.reads.invariant.1 before first)) in
    plays _ _ before
    (c.in_ok-play_last.ensures.plays _ _ before
    (given_of g.S.Stage.script _ _ _ before _ _ _ _ s
    (none_came _ _ _ _ s.given _ c.in_ok-refill.field-0 c.if-not-branch.true
    (c.in_ok-refill.ensures.given _ _ s.given s.gives)).0)
    (c.in_ok-refill.ensures.end c.if-not-branch.true).1))
    c.finish.ensures.plays c.finish.ensures.plays

pub returns-clause-ended : goal.returns-clause-ended
returns-clause-ended g c =
    on_ok c.finish.result (λ _ _. (c.in_ok-refill.ensures.end c.if-not-branch.true).1) c.finish.ensures.plays
    c.finish.ensures.plays

pub returns-clause-stops : goal.returns-clause-stops
returns-clause-stops g c =
    IfErr-weaker c.finish.result _ _
    (λ fault stops before first.
    let s =
    given_kept g.S.Stage.script _ _ before _ _ _ _ _ c.in_ok-hand_on.ensures.kept c.in_ok-hand_on.ensures.same
    (c.in_ok-play_ended.ensures.plays _ _ before (c.reads.invariant.1 before first)) in
    stops _ _ before
    (c.in_ok-play_last.ensures.plays _ _ before
    (given_of g.S.Stage.script _ _ _ before _ _ _ _ s
    (none_came _ _ _ _ s.given _ c.in_ok-refill.field-0 c.if-not-branch.true
    (c.in_ok-refill.ensures.given _ _ s.given s.gives)).0)
    (c.in_ok-refill.ensures.end c.if-not-branch.true).1))
    c.finish.ensures.stops
