-- Which faults a service meets.
use Rattle.chaos_node.specs.declared.fault.NodeFault.{NodeFault}
use Rattle.chaos_node.specs.declared.fault.NodeFault.TheVariants.{Link, Clock, NoMemory}

-- out of memory, and a fault of its link or of the clock, where that stops
abbrev pub IsServiceFault : Type 0 → NodeFault → Type 0
IsServiceFault Stops NoMemory = Unit {0}
IsServiceFault Stops Link = Unit {0}
IsServiceFault Stops Clock = Stops
