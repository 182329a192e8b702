use Rattle.std.proofs.Common.{refl}
use Rattle.chaosd_lab.proofs.Inputs.{done_kept, no_first_line, end_said, after_written, written_stops}
use Rattle.chaosd_lab.proofs.player.Player.finish.Goals as goal

pub returns-in_default-clause-stops : goal.returns-in_default-clause-stops
returns-in_default-clause-stops g c input rest before s =
    no_first_line g.S.Stage.script input rest before _ _ c.in_default.is
    (done_kept g.S.Stage.script input rest before _ _ _ _ c.in_ok-make_room.ensures.kept refl s)

pub returns-clause-plays : goal.returns-clause-plays
returns-clause-plays g c =
    after_written c.end.result c.written.result c.written.ensures c.end.ensures
    (λ more input rest before s. end_said g.S.Stage.script input rest before _ _ _ _ c.in-Some.lab c.in-Some.is more
    (done_kept g.S.Stage.script input rest before _ _ _ _ c.in_ok-make_room.ensures.kept refl s))

pub returns-clause-stops : goal.returns-clause-stops
returns-clause-stops g c = written_stops c.end.result c.written.result _ c.written.ensures (λ input rest before s. tt)
