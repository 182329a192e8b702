use Rattle.std.proofs.Common.{◌≡◌, true, false, ltb, length, refl, sym, ap, ◌∙◌, subst, arith, rules}
use Rattle.std.specs.Prelude.{Some}
use Rattle.std.specs.Io.BufRead.{strip_last}
use Rattle.std.proofs.lemmas.Bool.Decides.{nat_tests}
use Rattle.std.proofs.lemmas.Result.{IfErr-weaker}
use Rattle.chaosd_io.specs.declared.limits.TheConstants.{LINE_LIMIT}
use Rattle.chaosd_io.specs.Buffer.{written_of}
use Rattle.chaosd_io.proofs.Steps.{on_ok}
use Rattle.chaosd_lab.specs.Script.{PlaysLine}
use Rattle.chaosd_lab.proofs.Plays.{too_long_stops, plays_event, event_stops}
use Rattle.chaosd_lab.proofs.Inputs.{lines_kept}
use Rattle.chaosd_lab.proofs.player.Player.play_line.Goals as goal

pub returns-then-line-gt-LINE_LIMIT-clause-stops : goal.returns-then-line-gt-LINE_LIMIT-clause-stops
returns-then-line-gt-LINE_LIMIT-clause-stops g c before ended s =
    let raw = c.args.raw.now in
    let line : c.without_return-line.result.now ≡ strip_last 13 raw = c.without_return-line.ensures in
    let x = c.if-line-gt-LINE_LIMIT.true in
    too_long_stops g.S.Stage.script before _ _ ended raw
    (subst (λ l. ltb LINE_LIMIT (length l) ≡ true) line (grind (arith, nat_tests)))
    (lines_kept g.S.Stage.script before _ _ _ _ ended c.in_ok-make_room.ensures.kept refl s)

pub returns-in-Err-clause-stops : goal.returns-in-Err-clause-stops
returns-in-Err-clause-stops g c before ended s =
    let raw = c.args.raw.now in
    let line : c.without_return-line.result.now ≡ strip_last 13 raw = c.without_return-line.ensures in
    event_stops g.S.Stage.script c.in-Err.fault before _ _ _ ended raw c.in-Some.lab c.play.new.self _
    c.in-Some.is (subst (λ l. ltb LINE_LIMIT (length l) ≡ false) line (grind (arith, nat_tests)))
    c.in-Err.ensures.faults
    (λ n e. let (number, said, same) = c.in-Err.ensures.bad n
    e in (number, ap g.S.Stage.script.event (sym line) ∙ said, same))
    (λ n e. c.in-Err.ensures.wrong n e ∙ ap (λ l. Some (g.S.Stage.script.wrong l)) line)
    (λ e. let (said, more) = c.in-Err.ensures.no_memory
    e in (λ none. said (ap g.S.Stage.script.event line ∙ none), λ ready. let (text, wants, wrote) = more ready in (text, subst (λ l. g.S.Stage.script.wants c.in-Some.lab l c.play.new.self text) line wants, wrote)))
    (lines_kept g.S.Stage.script before _ _ _ _ ended c.in_ok-make_room.ensures.kept refl s)

pub returns-clause-plays : goal.returns-clause-plays
returns-clause-plays g c before ended s =
    let raw = c.args.raw.now in
    let line : c.without_return-line.result.now ≡ strip_last 13 raw = c.without_return-line.ensures in
    plays_event g.S.Stage.script before _ _ _ _ ended raw c.in-Some.lab c.play.new.self c.in-Ok.refused
    c.in-Some.is (search rules) (subst (λ l. ltb LINE_LIMIT (length l) ≡ false) line (grind (arith, nat_tests)))
    (subst
    (λ l. g.S.Stage.script.ready c.in-Some.lab
    → PlaysLine g.S.Stage.script l c.in-Some.lab c.play.new.self
    (written_of (g.W.Write.contents c.make_room.new.writer) c.make_room.new.out)
    (written_of (g.W.Write.contents c.play.new.writer) c.play.new.out) c.in-Ok.refused
    × g.S.Stage.script.ready c.play.new.self)
    line c.in-Ok.ensures.played)
    (lines_kept g.S.Stage.script before _ _ _ _ ended c.in_ok-make_room.ensures.kept refl s)

-- the first line, whatever the writer holds
pub returns-in_default-clause-plays : goal.returns-in_default-clause-plays
returns-in_default-clause-plays g c =
    on_ok c.play_first.result
    (λ plays _ before ended s. plays (g.W.Write.contents c.make_room.new.writer) before ended
    (lines_kept g.S.Stage.script before _ _ _ _ ended c.in_ok-make_room.ensures.kept refl s))
    c.play_first.ensures.plays c.play_first.ensures.plays

pub returns-in_default-clause-stops : goal.returns-in_default-clause-stops
returns-in_default-clause-stops g c =
    IfErr-weaker c.play_first.result _ _
    (λ fault stops before ended s. stops (g.W.Write.contents c.make_room.new.writer) before ended
    (lines_kept g.S.Stage.script before _ _ _ _ ended c.in_ok-make_room.ensures.kept refl s))
    c.play_first.ensures.stops
