-- Which faults the engine `serve` meets.
use Rattle.chaosd_io.specs.declared.fault.RunFault.{RunFault}
use Rattle.chaosd_io.specs.declared.fault.RunFault.TheVariants.{ReadFault, WriteFault, InputTooLong, NoMemory, BadScript, LinkFault, ClockFault}

-- out of memory, and a fault of its link or of the clock, where that stops
abbrev pub IsServeFault : Type 0 → RunFault → Type 0
IsServeFault Stops NoMemory = Unit {0}
IsServeFault Stops LinkFault = Unit {0}
IsServeFault Stops ClockFault = Stops
IsServeFault Stops ReadFault = ⊥
IsServeFault Stops WriteFault = ⊥
IsServeFault Stops InputTooLong = ⊥
IsServeFault Stops (BadScript number) = ⊥
