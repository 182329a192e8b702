-- By which fault a client's last send failed.
use Rattle.std.specs.Prelude.{Option, Some, None, if◌then◌else◌}
use Rattle.std.specs.IoError.{error_kind}
use Rattle.std.specs.declared.io.Error.{Error}
use Rattle.std.specs.declared.net.socket_addr.SocketAddrV4.{SocketAddrV4}
use Rattle.chaos_link.specs.SocketFault.{is_fault}
use Rattle.chaos_link.specs.declared.socket_fault.SocketCall.TheVariants.{Send}
use Rattle.chaos_link.specs.declared.socket_fault.SocketFault.{SocketFault}

-- none after a send that didn't fail, the send after one that failed by a fault, and else that of before
abbrev pub fault_of_send : SocketAddrV4 → Option Error → Option SocketFault → Option SocketFault
fault_of_send to None before = None
fault_of_send to (Some error) before =
    if is_fault (error_kind error) then Some (record { call = Send to; error = error; earlier = 0 }) else before
