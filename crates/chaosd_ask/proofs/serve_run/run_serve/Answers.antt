-- The configuration is the usual one, and the moments are those that the clock shows.
use Rattle.std.proofs.Common.{[], refl, subst}
use Rattle.std.proofs.lemmas.List.Elements.{All-nil}
use Rattle.chaos_file.specs.Store.{change}
use Rattle.chaos_node.specs.Clock.{IsMoment, ShownSince, number_of}
use Rattle.chaos_node.proofs.Reading.{shown_first}
use Rattle.chaosd_ask.proofs.Serving.{served_by_clock}
use Rattle.chaosd_ask.proofs.serve_run.run_serve.Goals as goal

pub returns-clause-turns : goal.returns-clause-turns
returns-clause-turns g c =
    let begun = c.in_ok-moments.moments in
    let begins = c.in_ok-moments.ensures.begins in
    rw c.in_ok-run_serve_by.was at
    (served_by_clock (change g.S.Store.contents g.S.Store.may_give g.S.Store.count) c.args.carriage (number_of begun.epoch)
    (g.C.ReadableClock.shows c.args.clock.now) (g.C.ReadableClock.dates c.args.clock.now) begun.epoch _ _ _ _ c.args.turns c.args.me _ _ _ _
    c.run_serve_by.result begins.1 c.usual-config.ensures refl
    (λ moments read.
    let behind = (read.goes begun [] (refl, refl, λ shown. (All-nil (IsMoment (g.C.ReadableClock.shows begun.clock.now) begun.epoch), shown))).2 in
    (subst (λ k. ShownSince (g.C.ReadableClock.shows k) begun.epoch begun.last c.run_serve_by.new.moments.last moments) begins.0 behind
    (shown_first (g.C.ReadableClock.shows c.args.clock.now) (g.C.ReadableClock.dates c.args.clock.now) begun.epoch begun.last begins.1
    begins.2)).0)
    c.run_serve_by.ensures.turns)
