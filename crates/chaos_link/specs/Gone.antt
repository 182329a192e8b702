-- When a socket is gone.
use Rattle.std.specs.Prelude.{ℤ, pos, ◌||◌, Bool, true, false, if◌then◌else◌, Option, Some, None, Result, Ok, Err}
use Rattle.std.specs.Ordering.{int_eq}
use Rattle.std.specs.IoError.{error_kind, raw_os_error}
use Rattle.std.specs.declared.io.Error.{Error}
use Rattle.std.specs.declared.io.ErrorKind.{ErrorKind}
use Rattle.std.specs.declared.io.ErrorKind.TheVariants as kind
use Rattle.chaos_link.specs.declared.link.Sent.{Sent}
use Rattle.chaos_link.specs.declared.link.Sent.TheVariants as sending

-- The system knows no such descriptor (EBADF), or says that it is no socket's (ENOTSOCK).
abbrev pub is_no_socket : ℤ → Bool
is_no_socket code = int_eq code (pos 9) || int_eq code (pos 88)

-- An error that isn't the system's is of the kind by which a socket ends a run.
abbrev pub ends_run : ErrorKind → Bool
ends_run kind.NotConnected = true
ends_run _ = false

-- The socket that answered this is gone: an error with the system's code, where it has one, and of this kind.
abbrev pub is_gone_so : Option ℤ → ErrorKind → Bool
is_gone_so (Some code) kind = is_no_socket code
is_gone_so None kind = ends_run kind

-- The socket that answered this error is gone.
abbrev pub is_gone_by : Error → Bool
is_gone_by error = is_gone_so (raw_os_error error) (error_kind error)

-- the error that a socket answered, if it answered one
abbrev pub error_of : {A : Type 0} → Result A Error → Option Error
error_of (Ok value) = None
error_of (Err error) = Some error

-- what a link answers to a send after this error of its socket, or none: a datagram that the system doesn't send is lost
abbrev pub sent_after : Option Error → Sent
sent_after None = sending.Sent
sent_after (Some error) = if is_gone_by error then sending.Failed else sending.Sent
