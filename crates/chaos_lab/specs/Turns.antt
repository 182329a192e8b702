-- What a turn of B's user is in the laboratory.
use Rattle.std.specs.Prelude.{◌≡◌}
use Rattle.chaos_lab.specs.Machine.{Machine, Run}
use Rattle.chaos_lab.specs.Laboratory.{LabView, after_all}
use Rattle.chaos_lab.specs.Tied.{Ties, plain_run}
use Rattle.chaos_lab.specs.Turn.{Turn, IsTaken, turn_events}

-- Its events happen, one after the other, and none of its calls is refused. They are a run of the plain machine.
pub record TurnHappens (old : LabView) (turn : Turn) (new : LabView) : Type 0 where
  pub taken : IsTaken old.b.conn old.clock turn
  pub after : new ≡ after_all old (turn_events turn)
  pub run : (m : Machine) → Ties m old → (n : Machine) × Run m (plain_run old (turn_events turn)) n × Ties n new
