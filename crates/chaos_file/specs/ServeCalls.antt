-- The calls on a host by which it serves a connection.
use Rattle.std.specs.Prelude.{ℕ, Bool, true, false, List, ◌++◌, Option, Some, None, option_map}
use Rattle.chaos_packet.specs.Opcode.{op_data}
use Rattle.chaos_conn.specs.Act.{FinishRead, Write}
use Rattle.chaos_host.specs.Slot.{named_slot}
use Rattle.chaos_host.specs.View.{HostView}
use Rattle.chaos_host.specs.Acted.{HostActed, no_effect}
use Rattle.chaos_host.specs.Calls.{HostReply, host_call}
use Rattle.chaos_file.specs.ServeWork.{Work, NotOpen, Nothing, Full, LastItem, Command, work_of}
use Rattle.chaos_file.specs.declared.served.Served.{Served}
use Rattle.chaos_file.specs.declared.served.Served.TheVariants as told

-- the write of a reply by the connection with an own index, after the read of its command
abbrev pub reply_write_at : HostView → ℕ → List ℕ → ℕ → HostActed HostReply
reply_write_at h id reply now = host_call (host_call h id FinishRead).view id (Write op_data reply now)

abbrev pub after_reply_at : HostView → ℕ → List ℕ → ℕ → HostActed Served
after_reply_at h id reply now = record {
  view = (reply_write_at h id reply now).view;
  packets = (host_call h id FinishRead).packets ++ (reply_write_at h id reply now).packets;
  answer = told.Replied;
}

abbrev pub after_eof_at : HostView → ℕ → HostActed Served
after_eof_at h id =
    record { view = (host_call h id FinishRead).view; packets = (host_call h id FinishRead).packets; answer = told.Eof }

-- what is to be done at the connection with an own index, where there is one
abbrev pub work_at : HostView → ℕ → Option Work
work_at h id = option_map (λ slot. work_of slot.conn) (named_slot h.slots id)

-- there is something to serve
abbrev pub is_served : Option Work → Bool
is_served (Some LastItem) = true
is_served (Some (Command body)) = true
is_served _ = false

abbrev pub can_serve : HostView → ℕ → Bool
can_serve h id = is_served (work_at h id)

-- what serving does, told by those calls
abbrev pub DoesWorkByCalls : (List ℕ → List ℕ → Type 0) → Type 0 → (HostActed Served → Type 0) → HostView → ℕ → ℕ
    → Option Work → Type 0
DoesWorkByCalls answered unused does h id now None = unused × does (no_effect h told.NoSuchConnection)
DoesWorkByCalls answered unused does h id now (Some (NotOpen state)) = unused × does (no_effect h (told.Ended state))
DoesWorkByCalls answered unused does h id now (Some Nothing) = unused × does (no_effect h told.Idle)
DoesWorkByCalls answered unused does h id now (Some Full) = unused × does (no_effect h told.NoRoom)
DoesWorkByCalls answered unused does h id now (Some LastItem) = unused × does (after_eof_at h id)
DoesWorkByCalls answered unused does h id now (Some (Command body)) =
    (reply : List ℕ) × answered body reply × does (after_reply_at h id reply now)
