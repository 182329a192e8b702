-- Which errors of a socket are faults, and which fault was the last.
use Rattle.std.specs.Prelude.{ℕ, Bool, true, false, if◌then◌else◌, Option, Some, None}
use Rattle.std.specs.IoError.{error_kind}
use Rattle.std.specs.declared.io.Error.{Error}
use Rattle.std.specs.declared.io.ErrorKind.{ErrorKind}
use Rattle.std.specs.declared.io.ErrorKind.TheVariants.{WouldBlock, TimedOut, Interrupted, ConnectionRefused}
use Rattle.chaos_packet.specs.Count.{with_failure}
use Rattle.chaos_link.specs.declared.socket_fault.SocketCall.{SocketCall}
use Rattle.chaos_link.specs.declared.socket_fault.SocketFault.{SocketFault}

-- all but those that only say that nothing came, or that a socket that was sent to before is gone
abbrev pub is_fault : ErrorKind → Bool
is_fault WouldBlock = false
is_fault TimedOut = false
is_fault Interrupted = false
is_fault ConnectionRefused = false
is_fault kind = true

-- how many calls failed, if this is the last fault
abbrev pub faults_in : Option SocketFault → ℕ
faults_in None = 0
faults_in (Some fault) = with_failure fault.earlier

-- the last fault after a call that ended by this error: it counts the faults before it
abbrev pub fault_after : SocketCall → Error → Option SocketFault → Option SocketFault
fault_after call error before =
    if is_fault (error_kind error) then Some (record { call = call; error = error; earlier = faults_in before })
    else before

-- the last fault after a call that ended by this error, or by none
abbrev pub fault_so_far : SocketCall → Option Error → Option SocketFault → Option SocketFault
fault_so_far call None before = before
fault_so_far call (Some error) before = fault_after call error before
