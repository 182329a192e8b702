use Rattle.std.proofs.Common.{◌≡◌, refl, sym, ap, ◌∙◌}
use Rattle.std.specs.Prelude.{Some}
use Rattle.std.specs.Io.BufRead.{strip_last}
use Rattle.std.proofs.lemmas.Bool.{le-ltb}
use Rattle.chaosd_io.specs.declared.limits.TheConstants.{LINE_LIMIT}
use Rattle.chaosd_lab.proofs.Plays.{begins, first_stops}
use Rattle.chaosd_lab.proofs.player.Player.play_first.Goals as goal

pub returns-clause-plays : goal.returns-clause-plays
returns-clause-plays g c held before ended s =
    let raw = c.args.raw.now in
    let line : c.without_return-first.result.now ≡ strip_last 13 raw = c.without_return-first.ensures in
    begins g.S.Stage.script before held _ _ ended raw _ _ c.in-Ok.lab c.requires.first refl
    (le-ltb LINE_LIMIT _ c.requires.short) (ap g.S.Stage.script.first (sym line) ∙ c.in-Ok.ensures.begun.0)
    c.in-Ok.ensures.begun.1 c.in-Ok.ensures.begun.2 s

pub returns-in-Err-clause-stops : goal.returns-in-Err-clause-stops
returns-in-Err-clause-stops g c held before ended s =
    let raw = c.args.raw.now in
    let line : c.without_return-first.result.now ≡ strip_last 13 raw = c.without_return-first.ensures in
    first_stops g.S.Stage.script c.in-Err.fault before held _ ended raw _ _ _ c.requires.first
    (le-ltb LINE_LIMIT _ c.requires.short)
    c.in-Err.ensures.faults
    (λ n e. let (number, said, same) = c.in-Err.ensures.bad n
    e in (number, ap g.S.Stage.script.first (sym line) ∙ said, same))
    (λ n e. c.in-Err.ensures.wrong n e ∙ ap (λ l. Some (g.S.Stage.script.first_wrong l)) line)
    (λ e. let (said, same) = c.in-Err.ensures.no_memory
    e in (λ none. said (ap g.S.Stage.script.first line ∙ none), same))
    s
