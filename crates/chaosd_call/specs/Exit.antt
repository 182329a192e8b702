-- Exit statuses.
use Rattle.std.specs.Prelude.{◌≢◌, ℕ, Bool, true, false, nat_lt, if◌then◌else◌, Result, Ok, Err}
use Rattle.chaosd_io.specs.declared.fault.RunFault.{RunFault}
use Rattle.chaosd_io.specs.declared.fault.RunFault.TheVariants as f
use Rattle.file_transfer.specs.declared.severity.Severity.{Severity}
use Rattle.file_transfer.specs.declared.severity.Severity.TheVariants as s
use Rattle.chaosd_call.specs.declared.exit_status.ExitStatus.{ExitStatus}
use Rattle.chaosd_call.specs.declared.exit_status.ExitStatus.TheVariants.{Done, Refused, BadLine, Fault, NoMemory}

-- the number that a program ends with
abbrev pub number_of : ExitStatus → ℕ
number_of Done = 0
number_of Refused = 3
number_of BadLine = 2
number_of Fault = 1
number_of NoMemory = 4

-- a status that isn't Done
abbrev pub IsFailure : ExitStatus → Type 0
IsFailure status = status ≢ Done

-- its place in their order, from well to worst
abbrev pub rank : ExitStatus → ℕ
rank Done = 0
rank Refused = 1
rank BadLine = 2
rank Fault = 3
rank NoMemory = 4

-- of two the one that is worse
abbrev pub worse : ExitStatus → ExitStatus → ExitStatus
worse a b = if nat_lt (rank a) (rank b) then b else a

-- the number of a fault: 4 out of memory, 2 at a bad line, else 1: reading, writing, a link or the clock failed, or the input is
-- too long
abbrev pub fault_status : RunFault → ℕ
fault_status f.ReadFault = 1
fault_status f.WriteFault = 1
fault_status f.InputTooLong = 1
fault_status f.NoMemory = 4
fault_status (f.BadScript line) = 2
fault_status f.LinkFault = 1
fault_status f.ClockFault = 1

-- that of a run which ended by a fault
abbrev pub status_of_fault : RunFault → ExitStatus
status_of_fault f.ReadFault = Fault
status_of_fault f.WriteFault = Fault
status_of_fault f.InputTooLong = Fault
status_of_fault f.NoMemory = NoMemory
status_of_fault (f.BadScript line) = BadLine
status_of_fault f.LinkFault = Fault
status_of_fault f.ClockFault = Fault

-- that of a run in which all was done, or something was refused, or which ended by a fault
abbrev pub status_of_run : Result Bool RunFault → ExitStatus
status_of_run (Ok true) = Done
status_of_run (Ok false) = Refused
status_of_run (Err fault) = status_of_fault fault

-- that of a run over files, by the worst that came of one
abbrev pub status_of_files : Severity → ExitStatus
status_of_files s.Done = Done
status_of_files s.Refused = Refused
status_of_files s.Failed = Fault
status_of_files s.NoMemory = NoMemory
