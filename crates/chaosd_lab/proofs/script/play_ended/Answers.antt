use Rattle.std.proofs.Common.{refl, ◌∙◌, arith}
use Rattle.chaosd_lab.proofs.Plays.{on_fault}
use Rattle.chaosd_lab.proofs.Inputs.{given_of, next_played, next_stops}
use Rattle.chaosd_lab.proofs.script.play_ended.Goals as goal

pub returns-in_err-play_line-clause-stops : goal.returns-in_err-play_line-clause-stops
returns-in_err-play_line-clause-stops g c =
    let (few, room, plays) = c.loop-player.invariant in
    on_fault c.from_residual.result c.in_err-play_line.field-0.0 _ c.from_residual.ensures.1
    (λ input rest before s.
    let t = plays input rest before s in
    next_stops g.S.Stage.script input rest before _ _ _ _ _ _ _ _ t
    (c.loop-player-test.ensures.given _ input rest t.given t.gives) c.line.ensures
    (c.in_err-play_line.ensures.stops before t.given))

pub loop-player-preserved : goal.loop-player-preserved
loop-player-preserved g c =
    let (few, room, plays) = c.loop-player.invariant in (
      omega (arith, few, c.in_ok-play_line.ensures.count, c.cut.ensures.room, c.loop-player-test.ensures.less refl),
      c.cut.ensures.room ∙ room,
      λ input rest before s.
          let t = plays input rest before s in
          next_played g.S.Stage.script input rest before _ _ _ _ _ _ _ t
          (c.loop-player-test.ensures.given _ input rest t.given t.gives) c.line.ensures
          (c.in_ok-play_line.ensures.plays before t.given),
    )

pub returns-clause-plays : goal.returns-clause-plays
returns-clause-plays g c input rest before s =
    let t = c.loop-player.invariant.2 input rest before s in
    given_of g.S.Stage.script input rest rest before _ _ _ _ t
    (c.loop-player-test.ensures.given _ input rest t.given t.gives).0
