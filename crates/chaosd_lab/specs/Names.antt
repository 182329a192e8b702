-- Names of states, answers and faults.
use Rattle.std.specs.Prelude.{ℕ, List, codes}
use Rattle.chaos_conn.specs.declared.state.State.{State}
use Rattle.chaos_conn.specs.declared.state.State.TheVariants as st
use Rattle.chaos_conn.specs.declared.answers.Why.{Why}
use Rattle.chaos_conn.specs.declared.answers.Why.TheVariants as why
use Rattle.chaos_conn.specs.declared.answers.Delivered.{Delivered}
use Rattle.chaos_conn.specs.declared.answers.Delivered.TheVariants as came
use Rattle.chaos_conn.specs.declared.fault.ConnFault.{ConnFault}
use Rattle.chaos_conn.specs.declared.fault.ConnFault.TheVariants as conn
use Rattle.chaos_lab.specs.declared.side.Side.{Side}
use Rattle.chaos_lab.specs.declared.side.Side.TheVariants.{A, B}

abbrev pub side_name : Side → List ℕ
side_name A = codes "a"
side_name B = codes "b"

abbrev pub state_name : State → List ℕ
state_name st.Inactive = codes "Inactive"
state_name st.RfcSent = codes "RfcSent"
state_name st.RfcReceived = codes "RfcReceived"
state_name st.Open = codes "Open"
state_name st.Answered = codes "Answered"
state_name st.ClsReceived = codes "ClsReceived"
state_name st.LosReceived = codes "LosReceived"
state_name st.HostDown = codes "HostDown"
state_name st.Forwarded = codes "Forwarded"

abbrev pub why_name : Why → List ℕ
why_name why.NotOurs = codes "Dropped NotOurs"
why_name why.NoSource = codes "Dropped NoSource"
why_name why.NotOpen = codes "Dropped NotOpen"
why_name why.Stranger = codes "Dropped Stranger"
why_name why.BadOp = codes "Dropped BadOp"
why_name why.BadStatus = codes "Dropped BadStatus"
why_name why.OtherNumber = codes "Dropped OtherNumber"
why_name why.NoConn = codes "Dropped NoConn"

-- a packet's fate, without the packet
abbrev pub delivered_name : Delivered → List ℕ
delivered_name came.Took = codes "Took"
delivered_name came.Duplicate = codes "Duplicate"
delivered_name came.Outside = codes "Outside"
delivered_name came.Opened = codes "Opened"
delivered_name came.Status = codes "Status"
delivered_name came.Probed = codes "Probed"
delivered_name (came.Unc packet) = codes "Unc"
delivered_name (came.Answered packet) = codes "Answered"
delivered_name (came.Forwarded packet) = codes "Forwarded"
delivered_name (came.Closed packet) = codes "Closed"
delivered_name (came.Lost packet) = codes "Lost"
delivered_name (came.Dropped reason) = why_name reason

-- a connection's fault, with its number
abbrev pub conn_fault_name : ConnFault → List ℕ
conn_fault_name conn.NotOpen = codes "1 NotOpen"
conn_fault_name conn.BadOp = codes "2 BadOp"
conn_fault_name conn.TooLong = codes "3 TooLong"
conn_fault_name conn.Full = codes "4 Full"
conn_fault_name conn.Busy = codes "5 Busy"
conn_fault_name conn.WrongState = codes "6 WrongState"
conn_fault_name conn.BadAddress = codes "7 BadAddress"
conn_fault_name conn.BadRequest = codes "8 BadRequest"
conn_fault_name conn.BadWindow = codes "9 BadWindow"
