use Rattle.std.proofs.lemmas.Result.{IfErr-weaker}
use Rattle.chaosd_io.proofs.Steps.{on_ok}
use Rattle.chaosd_lab.proofs.Inputs.{none_played, last_played, last_stops}
use Rattle.chaosd_lab.proofs.script.play_last.Goals as goal

pub returns-in_default-clause-plays : goal.returns-in_default-clause-plays
returns-in_default-clause-plays g c input rest before s end =
    none_played g.S.Stage.script input rest before _ _ _ s (c.in_default.ensures _ input rest s.given s.gives end)

pub returns-clause-plays : goal.returns-clause-plays
returns-clause-plays g c =
    on_ok c.play_line.result
    (λ plays _ input rest before s end. last_played g.S.Stage.script input rest before _ _ _ _ _ _ s
    (c.in-Some.ensures _ input rest s.given s.gives end) (plays before s.given))
    c.play_line.ensures.plays c.play_line.ensures.plays

pub returns-clause-stops : goal.returns-clause-stops
returns-clause-stops g c =
    IfErr-weaker c.play_line.result _ _
    (λ fault stops input rest before s end. last_stops g.S.Stage.script input rest before _ _ _ _ _ _ fault s
    (c.in-Some.ensures _ input rest s.given s.gives end) (stops before s.given))
    c.play_line.ensures.stops
