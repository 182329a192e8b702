-- The numbers by which C knows what calls answer: `negsuc n` is the number -(n + 1).
use Rattle.std.specs.Prelude.{ℕ, Bool, true, false, ℤ, pos, negsuc, Result, Ok, Err}
use Rattle.chaos_ncp.specs.declared.fault.Fault.{Fault}
use Rattle.chaos_ncp.specs.declared.fault.Fault.TheVariants.{NoNode, HasNode, BadAddress, BadCount, BadWindow, NoMemory, OutboxFull, BadDatagram, TooLong, BadContact, AlreadyListens, TooManyContacts, TableFull, NoConnection, NotOpen, WindowFull, WrongState, StillActive, BadOpcode, SmallBuffer, InUse}

abbrev pub code_of : Fault → ℤ
code_of NoNode = negsuc 0
code_of HasNode = negsuc 1
code_of BadAddress = negsuc 2
code_of BadCount = negsuc 3
code_of BadWindow = negsuc 4
code_of NoMemory = negsuc 5
code_of OutboxFull = negsuc 6
code_of BadDatagram = negsuc 7
code_of TooLong = negsuc 8
code_of BadContact = negsuc 9
code_of AlreadyListens = negsuc 10
code_of TooManyContacts = negsuc 11
code_of TableFull = negsuc 12
code_of NoConnection = negsuc 13
code_of NotOpen = negsuc 14
code_of WindowFull = negsuc 15
code_of WrongState = negsuc 16
code_of StillActive = negsuc 17
code_of BadOpcode = negsuc 18
code_of SmallBuffer = negsuc 19
code_of InUse = negsuc 20

-- of a call that says no more than whether it was refused
abbrev pub done_code : Result (Unit {0}) Fault → ℤ
done_code (Ok _) = pos 0
done_code (Err fault) = code_of fault

-- of a call that gives a number
abbrev pub number_code : Result ℕ Fault → ℤ
number_code (Ok number) = pos number
number_code (Err fault) = code_of fault

-- of a call that says whether something is so
abbrev pub flag_code : Result Bool Fault → ℤ
flag_code (Ok true) = pos 1
flag_code (Ok false) = pos 0
flag_code (Err fault) = code_of fault
