-- What a client's calls make of its host.
use Rattle.std.specs.Prelude.{ℕ, Bool, true, false, if◌then◌else◌, List, Option, Some, None, Result, Ok, Err}
use Rattle.chaos_packet.specs.Item.{ItemView}
use Rattle.chaos_packet.specs.Opcode.{is_data}
use Rattle.chaos_conn.specs.State.{is_ended}
use Rattle.chaos_conn.specs.declared.answers.ReadDone.TheVariants as done
use Rattle.chaos_conn.specs.declared.answers.ReadEnd.TheVariants as gave
use Rattle.chaos_conn.specs.declared.state.State.{State}
use Rattle.chaos_conn.specs.Act.{Call, Finished, Gave, Wrote}
use Rattle.chaos_host.specs.declared.fault.CallFault.{CallFault}
use Rattle.chaos_host.specs.declared.fault.CallFault.TheVariants.{NoSuchConnection}
use Rattle.chaos_host.specs.Acted.{HostActed, no_effect}
use Rattle.chaos_host.specs.Calls.{HostReply, host_call}
use Rattle.chaos_host.specs.View.{HostView, host_look}

-- what a call of the connection does, where there is one
abbrev pub call_by : HostView → Call → Option ℕ → HostActed HostReply
call_by h call None = no_effect h (Err NoSuchConnection)
call_by h call (Some id) = host_call h id call

-- a number was given to what was written
abbrev pub is_wrote : HostReply → Bool
is_wrote (Ok (Wrote (Ok num))) = true
is_wrote _ = false

-- the bytes of an item that was read, where it is data
abbrev pub data_read : HostReply → Option (List ℕ)
data_read (Ok (Gave (gave.Item item))) = if is_data item.op then Some item.body else None
data_read _ = None

-- ---- the same item, lent and then read where it lies

abbrev pub data_in_front : Result (Option ItemView) CallFault → Option (List ℕ)
data_in_front (Ok (Some item)) = if is_data item.op then Some item.body else None
data_in_front _ = None

abbrev pub is_read : HostReply → Bool
is_read (Ok (Finished done.Done)) = true
is_read _ = false

-- ---- the end

abbrev pub has_ended : Result State CallFault → Bool
has_ended (Ok state) = is_ended state
has_ended (Err fault) = true

-- the connection has ended, or there is none
abbrev pub is_over : HostView → Option ℕ → Bool
is_over h None = true
is_over h (Some id) = has_ended (host_look h id (λ conn. conn.state))
