-- The calls that open a connection, or refuse one.
use Rattle.std.specs.Prelude.{ℕ, true, false, ◌||◌, ◌==◌, nat_lt, if◌then◌else◌, List, [], ◌∷◌, length, Some, None, Result, Ok, Err}
use Rattle.chaos_packet.specs.Number.{off}
use Rattle.chaos_packet.specs.Item.{ItemView}
use Rattle.chaos_packet.specs.Opcode.{op_rfc, op_opn, op_cls, op_ans, kind_of, is_rfc}
use Rattle.chaos_packet.specs.Packet.{PacketView, item_of}
use Rattle.chaos_packet.specs.declared.limits.TheConstants.{MAX_DATA}
use Rattle.chaos_window.specs.Send.{started_send}
use Rattle.chaos_window.specs.Receive.{started_receive, after_arrival, after_advance}
use Rattle.chaos_conn.specs.declared.state.State.TheVariants as st
use Rattle.chaos_conn.specs.declared.state.End.{End}
use Rattle.chaos_conn.specs.declared.fault.ConnFault.{ConnFault}
use Rattle.chaos_conn.specs.declared.fault.ConnFault.TheVariants as fault
use Rattle.chaos_conn.specs.State.{is_inactive, is_requested}
use Rattle.chaos_conn.specs.View.{ConnView, new_conn, moment}
use Rattle.chaos_conn.specs.Acted.{Acted, quietly}
use Rattle.chaos_conn.specs.Sending.{status_body, untelling_packet, with_item}

-- done, or refused
abbrev pub Outcome : Type 0
Outcome = Result (Unit {0}) ConnFault

abbrev pub refusal : ConnView → ConnFault → Acted Outcome
refusal v why = quietly v (Err why)

-- ---- a request made

-- an end that asks this peer from a moment on, and numbers what it writes from start on
abbrev pub after_asking : ConnView → End → ℕ → ℕ → ℕ → ConnView
after_asking v me peer start t = record v {
  state = st.RfcSent;
  me = me;
  peer = peer;
  peer_index = None;
  asked = true;
  request = start;
  last = t;
  heard = t;
  send = started_send v.send.cap start;
}

-- the request for a contact is an end's item 0
abbrev pub rfc_item : List ℕ → ItemView
rfc_item contact = record { op = op_rfc; body = contact }

-- a request between two addresses, neither of which is 0
abbrev pub request_between : ConnView → End → ℕ → List ℕ → ℕ → ℕ → Acted Outcome
request_between v me peer contact start t =
    if me.address == 0 || peer == 0 then refusal v fault.BadAddress
    else with_item (after_asking v me peer start t) (rfc_item contact) (Ok tt)

abbrev pub act_request : ConnView → End → ℕ → List ℕ → ℕ → ℕ → Acted Outcome
act_request v me peer contact start now =
    if nat_lt MAX_DATA (length contact) then refusal v fault.TooLong
    else (if is_inactive v.state then request_between v me peer contact start (moment v now)
    else refusal v fault.Busy)

-- ---- a request taken

-- an end that was asked at a moment: it holds the request, which is the peer's item 0
abbrev pub after_taking_rfc : ConnView → PacketView → End → ℕ → ConnView
after_taking_rfc v rfc me t = record v {
  state = st.RfcReceived;
  me = me;
  peer = rfc.src;
  peer_index = Some rfc.src_index;
  asked = false;
  request = rfc.num;
  last = t;
  heard = t;
  recv = after_arrival (started_receive v.recv.cap (off rfc.num 1)) rfc.num (item_of rfc);
}

-- only an RFC is a request
abbrev pub take_rfc : ConnView → PacketView → End → ℕ → Acted Outcome
take_rfc v rfc me t =
    if is_rfc (kind_of rfc.op) then quietly (after_taking_rfc v rfc me t) (Ok tt) else refusal v fault.BadRequest

abbrev pub act_take_request : ConnView → PacketView → End → ℕ → Acted Outcome
act_take_request v rfc me now =
    if is_inactive v.state then
    (if me.address == 0 || rfc.src == 0 then refusal v fault.BadAddress else take_rfc v rfc me (moment v now))
    else refusal v fault.Busy

-- ---- a request accepted

-- an end that read the request at a moment, and may write: it numbers what it writes from start on
abbrev pub after_accepting : ConnView → ℕ → ℕ → ConnView
after_accepting v start t = record v {
  state = st.Open;
  last = t;
  heard = t;
  probed = t;
  untold = 0;
  send = started_send v.send.cap start;
  recv = after_advance v.recv;
}

-- the OPN is an end's item 0; it keeps the status of the moment when it is made
abbrev pub opn_item : ConnView → ItemView
opn_item v = record { op = op_opn; body = status_body v }

-- an end opens by an OPN of its own
abbrev pub with_opn : ConnView → Acted Outcome
with_opn v = with_item v (opn_item v) (Ok tt)

abbrev pub act_accept : ConnView → ℕ → ℕ → Acted Outcome
act_accept v start now =
    if is_requested v.state then with_opn (after_accepting v start (moment v now))
    else refusal v fault.WrongState

-- ---- a request turned away

-- a connection as new, but for its moments
abbrev pub closed_conn : ConnView → ConnView
closed_conn v = record (new_conn v.config) { last = v.last; heard = v.heard; resent = v.resent; probed = v.probed }

-- one packet with these bytes goes out, and the end is closed
abbrev pub with_last_packet : ConnView → ℕ → List ℕ → Acted Outcome
with_last_packet v op bytes = record {
  view = closed_conn v;
  packets = untelling_packet v op bytes ∷ [];
  answer = Ok tt;
}

-- the request that an end holds is turned away by a packet with these bytes
abbrev pub turn_away : ConnView → ℕ → List ℕ → Acted Outcome
turn_away v op bytes =
    if nat_lt MAX_DATA (length bytes) then refusal v fault.TooLong
    else (if is_requested v.state then with_last_packet v op bytes
    else refusal v fault.WrongState)

abbrev pub act_answer : ConnView → List ℕ → Acted Outcome
act_answer v bytes = turn_away v op_ans bytes

abbrev pub act_reject : ConnView → List ℕ → Acted Outcome
act_reject v text = turn_away v op_cls text
