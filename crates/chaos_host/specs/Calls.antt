-- A user's calls on one connection, which its own index names.
use Rattle.std.specs.Prelude.{ℕ, if◌then◌else◌, Option, Some, None, Result, Ok, Err, []}
use Rattle.chaos_conn.specs.State.{is_ended}
use Rattle.chaos_conn.specs.Act.{Call, Close, Reply, act}
use Rattle.chaos_conn.specs.declared.fault.ConnFault.{ConnFault}
use Rattle.chaos_host.specs.declared.fault.CallFault.{CallFault}
use Rattle.chaos_host.specs.declared.fault.CallFault.TheVariants.{NoSuchConnection, Refused, StillActive}
use Rattle.chaos_host.specs.declared.slot.Slot.{Slot}
use Rattle.chaos_host.specs.Slot.{named_slot, place_of}
use Rattle.chaos_host.specs.View.{HostView}
use Rattle.chaos_host.specs.Acted.{HostActed, no_effect, on_slot, on_slot_then_free}

-- what the connection replied, or why no connection did
abbrev pub HostReply : Type 0
HostReply = Result Reply CallFault

-- ---- calls that leave the connection in its slot

abbrev pub call_slot : HostView → ℕ → Call → Option Slot → HostActed HostReply
call_slot v id call None = no_effect v (Err NoSuchConnection)
call_slot v id call (Some slot) = on_slot v (place_of id) slot call (Ok (act slot.conn call).answer)

-- the connection with an own index does a call, and no other changes
abbrev pub host_call : HostView → ℕ → Call → HostActed HostReply
host_call v id call = call_slot v id call (named_slot v.slots id)

-- ---- calls that may end the connection

abbrev pub end_slot : HostView → ℕ → Call → Option Slot → HostActed HostReply
end_slot v id call None = no_effect v (Err NoSuchConnection)
end_slot v id call (Some slot) = on_slot_then_free v (place_of id) slot call (Ok (act slot.conn call).answer)

-- the connection with an own index does a call; where it is inactive then, its slot is freed; no other slot changes
abbrev pub host_end : HostView → ℕ → Call → HostActed HostReply
host_end v id call = end_slot v id call (named_slot v.slots id)

-- ---- release

-- an ended connection is closed with an empty text, and its slot is freed
abbrev pub release_slot : HostView → ℕ → Option Slot → HostActed (Result (Unit {0}) CallFault)
release_slot v id None = no_effect v (Err NoSuchConnection)
release_slot v id (Some slot) =
    if is_ended slot.conn.state then on_slot_then_free v (place_of id) slot (Close []) (Ok tt)
    else no_effect v (Err StillActive)

abbrev pub host_release : HostView → ℕ → HostActed (Result (Unit {0}) CallFault)
host_release v id = release_slot v id (named_slot v.slots id)

-- ---- what callers are told

module _ {A : Type 0} where
  -- of a call that the connection may refuse: its refusal is a reply of the connection, and every other fault is the
  -- host's own
  abbrev pub reply_of : (Result A ConnFault → Reply) → Result A CallFault → HostReply
  reply_of reply (Ok done) = Ok (reply (Ok done))
  reply_of reply (Err (Refused why)) = Ok (reply (Err why))
  reply_of reply (Err fault) = Err fault

  -- of a call that the connection never refuses: each fault is the host's own
  abbrev pub plain_reply_of : (A → Reply) → Result A CallFault → HostReply
  plain_reply_of reply (Ok answer) = Ok (reply answer)
  plain_reply_of reply (Err fault) = Err fault
