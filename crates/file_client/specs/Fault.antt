-- Which faults a turn meets.
use Rattle.std.specs.Prelude.{ℕ, ◌<◌}
use Rattle.chaos_node.specs.declared.fault.NodeFault.{NodeFault}
use Rattle.chaos_node.specs.declared.fault.NodeFault.TheVariants.{Link, Clock, NoMemory}

-- a turn meets a fault of the clock, where that stops, or of a link, where so many failures are counted then
abbrev pub IsTurnFault : Type 0 → ℕ → NodeFault → Type 0
IsTurnFault Stops count Link = 0 < count
IsTurnFault Stops count Clock = Stops
IsTurnFault Stops count NoMemory = ⊥
