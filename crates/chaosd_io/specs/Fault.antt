-- What ends turns, as the fault of a run.
use Rattle.chaos_node.specs.declared.fault.NodeFault.{NodeFault}
use Rattle.chaos_node.specs.declared.fault.NodeFault.TheVariants as node
use Rattle.chaosd_io.specs.declared.fault.RunFault.{RunFault}
use Rattle.chaosd_io.specs.declared.fault.RunFault.TheVariants.{NoMemory, LinkFault, ClockFault}

-- a link that failed, a clock that can't be read, and no memory are faults of a run, too
abbrev pub run_fault : NodeFault → RunFault
run_fault node.Link = LinkFault
run_fault node.Clock = ClockFault
run_fault node.NoMemory = NoMemory
