-- How a turn ended.
use Rattle.std.specs.Prelude.{◌≡◌, Bool, true, false}
use Rattle.chaos_node.specs.declared.end.TurnEnd.{TurnEnd}
use Rattle.chaos_node.specs.declared.end.TurnEnd.TheVariants as end

-- What is told, beside a fault of the link, is whether there was work.
abbrev pub TellsWork : Bool → TurnEnd → Type 0
TellsWork worked end.Idle = worked ≡ false
TellsWork worked end.Worked = worked ≡ true
TellsWork worked end.LinkFault = Unit {0}
