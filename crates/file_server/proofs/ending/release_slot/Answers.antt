use Rattle.std.proofs.Common.{refl, rules, sym}
use Rattle.chaos_node.specs.InTurn.{station_of}
use Rattle.file_server.proofs.Idle.{goes_on}
use Rattle.file_server.proofs.ending.release_slot.Goals as goal

pub returns-then-not-is_ended : goal.returns-then-not-is_ended
returns-then-not-is_ended g c =
    let turn = c.args.turn.now in (
      goes_on turn.carriage (station_of turn) c.args.place c.in-Some.id c.in-Some.conn.now
          (sym c.in-Some.ensures.index) c.in-Some.ensures.named
          (search rules),
      (refl, refl, refl, refl, refl),
    )
