-- The user's calls on a connection: writing, reading and closing.
use Rattle.std.specs.Prelude.{ℕ, ◌+◌, ◌*◌, Bool, ◌&&◌, ◌==◌, nat_lt, nat_le, if◌then◌else◌, List, [], ◌∷◌, length, Option, Some, None, Result, Ok, Err, false, not, is_some, slice_get}
use Rattle.chaos_packet.specs.Item.{ItemView}
use Rattle.chaos_packet.specs.Opcode.{op_cls, op_opn, op_unc, kind_of}
use Rattle.chaos_packet.specs.Packet.{PacketView}
use Rattle.chaos_packet.specs.declared.limits.TheConstants.{MAX_DATA}
use Rattle.chaos_packet.specs.declared.opcode.Kind.{Kind}
use Rattle.chaos_packet.specs.declared.opcode.Kind.TheVariants as kind
use Rattle.chaos_window.specs.Send.{SendView, outstanding_of, next_of}
use Rattle.chaos_window.specs.Receive.{item_at, after_advance, after_announcement, held_count}
use Rattle.chaos_conn.specs.declared.fault.ConnFault.{ConnFault}
use Rattle.chaos_conn.specs.declared.fault.ConnFault.TheVariants as fault
use Rattle.chaos_conn.specs.declared.answers.ReadDone.{ReadDone}
use Rattle.chaos_conn.specs.declared.answers.ReadDone.TheVariants as done
use Rattle.chaos_conn.specs.declared.answers.ReadEnd.{ReadEnd}
use Rattle.chaos_conn.specs.declared.answers.ReadEnd.TheVariants as end
use Rattle.chaos_conn.specs.State.{is_open, is_opening, is_inactive, tells_close}
use Rattle.chaos_conn.specs.View.{ConnView, moment}
use Rattle.chaos_conn.specs.Acted.{Acted, quietly, map_answer}
use Rattle.chaos_conn.specs.Sending.{untelling_packet, with_item, with_sts}
use Rattle.chaos_conn.specs.Opening.{Outcome, refusal, closed_conn}

-- ---- a write

-- how many bytes a user may write with an opcode of this kind: an EOF has none, and only data and EOF are written
abbrev pub most_bytes : Kind → Option ℕ
most_bytes kind.Data = Some MAX_DATA
most_bytes kind.Eof = Some 0
most_bytes _ = None

-- fewer items are outstanding than the window allows
abbrev pub has_window : SendView → Bool
has_window send = nat_lt (outstanding_of send) send.window

-- the item goes out where the window has room
abbrev pub write_item : ConnView → ItemView → ℕ → Acted (Result ℕ ConnFault)
write_item v item t =
    if has_window v.send then with_item (record v { last = t; untold = 0 }) item (Ok (next_of v.send))
    else quietly v (Err fault.Full)

-- a write of at most so many bytes
abbrev pub write_at_most : ConnView → Option ℕ → ItemView → ℕ → Acted (Result ℕ ConnFault)
write_at_most v None item t = quietly v (Err fault.BadOp)
write_at_most v (Some most) item t =
    if nat_lt most (length item.body) then quietly v (Err fault.TooLong) else write_item v item t

abbrev pub act_write : ConnView → ℕ → List ℕ → ℕ → Acted (Result ℕ ConnFault)
act_write v op bytes now =
    if is_open v.state then write_at_most v (most_bytes (kind_of op)) (record { op = op; body = bytes }) (moment v now)
    else quietly v (Err fault.NotOpen)

-- ---- uncontrolled data

abbrev pub act_unc : ConnView → List ℕ → Acted Outcome
act_unc v bytes =
    if is_open v.state then
    (if nat_lt MAX_DATA (length bytes) then refusal v fault.TooLong
    else record { view = v; packets = untelling_packet v op_unc bytes ∷ []; answer = Ok tt })
    else refusal v fault.NotOpen

-- ---- a close

-- the CLS of a close, at an end whose peer is to know of it
abbrev pub cls_of : ConnView → List ℕ → List PacketView
cls_of v text = if tells_close v.state then untelling_packet v op_cls text ∷ [] else []

abbrev pub act_close : ConnView → List ℕ → Acted Outcome
act_close v text =
    if nat_lt MAX_DATA (length text) then refusal v fault.TooLong
    else record { view = closed_conn v; packets = cls_of v text; answer = Ok tt }

-- ---- a read

module _ {A : Type 0} where
  -- the peer is told once the untold reads come to a third of the window that the end announces
  abbrev pub with_reads_told : ConnView → A → Acted A
  with_reads_told v answer = if nat_le v.recv.window (3 * v.untold) then with_sts v answer else quietly v answer

-- an item was read at an open end, and counted
abbrev pub read_open : ConnView → ItemView → Acted ReadEnd
read_open v item = with_reads_told v (end.Item item)

-- at an open end the next item, where it is held, and else nothing yet
abbrev pub read_at_open : ConnView → Option ItemView → Acted ReadEnd
read_at_open v None = quietly v end.Nothing
read_at_open v (Some item) = read_open (record v { recv = after_advance v.recv; untold = v.untold + 1 }) item

-- at an end that is not live the next item, where it is held, and else nothing any more
abbrev pub read_at_end : ConnView → Option ItemView → Acted ReadEnd
read_at_end v None = quietly v (end.Ended v.state)
read_at_end v (Some item) = quietly (record v { recv = after_advance v.recv }) (end.Item item)

-- the next item to read, where it is held
abbrev pub front_of : ConnView → Option ItemView
front_of v = item_at v.recv 1

-- an item is held, and the next isn't
abbrev pub has_gap : ConnView → Bool
has_gap v = nat_lt 0 (held_count v.recv) && not (is_some (front_of v))

abbrev pub act_read : ConnView → Acted ReadEnd
act_read v =
    if is_opening v.state then quietly v end.Nothing
    else (if is_open v.state then read_at_open v (front_of v)
    else read_at_end v (front_of v))

-- ---- a read that hands nothing out

-- what it comes to, where a read would give this
abbrev pub done_of : ReadEnd → ReadDone
done_of (end.Item item) = done.Done
done_of end.Nothing = done.Nothing
done_of (end.Ended state) = done.Ended state

-- what a read does, with another answer
abbrev pub act_read_done : ConnView → Acted ReadDone
act_read_done v = map_answer done_of (act_read v)

-- ---- another window

-- an open end announces a window, which is at most its receive window's cap, and tells its status
abbrev pub act_announce : ConnView → ℕ → Acted Outcome
act_announce v window =
    if is_open v.state then
    (if nat_lt v.config.recv_cap window then refusal v fault.BadWindow
    else with_sts (record v { recv = after_announcement v.recv window }) (Ok tt))
    else refusal v fault.NotOpen

-- ---- looks

-- a write of data would not be refused for the state or the window
abbrev pub can_write : ConnView → Bool
can_write v = has_window v.send && is_open v.state

-- the peer's user read all that was sent, as far as is known
abbrev pub is_drained : ConnView → Bool
is_drained v = outstanding_of v.send == 0

-- an OPN
abbrev pub is_opn_item : Option ItemView → Bool
is_opn_item None = false
is_opn_item (Some item) = item.op == op_opn

-- the OPN, which is item 0, is still kept: the peer has receipted and acknowledged nothing that this end sent
abbrev pub keeps_opn : ConnView → Bool
keeps_opn v = is_opn_item (slice_get v.send.kept 0)

-- the peer's address, and its index where that is known; an inactive end has no peer
abbrev pub peer_of : ConnView → Option (ℕ × Option ℕ)
peer_of v = if is_inactive v.state then None else Some (v.peer, v.peer_index)
