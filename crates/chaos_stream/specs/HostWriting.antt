-- Writing bytes to the stream of one of a host's connections.
use Rattle.std.specs.Prelude.{◌≡◌, ℕ, ◌<◌, ◌≤◌, Bool, false, List, take, length, Option, Some, None, Result}
use Rattle.chaos_packet.specs.Outbox.{OutboxView}
use Rattle.chaos_conn.specs.View.{ConnView}
use Rattle.chaos_stream.specs.Writing.{can_put, Puts, SendsBytes}
use Rattle.chaos_host.specs.declared.fault.CallFault.{CallFault}
use Rattle.chaos_host.specs.declared.slot.Slot.{Slot}
use Rattle.chaos_host.specs.Slot.{named_slot}
use Rattle.chaos_host.specs.View.{HostView}
use Rattle.chaos_stream.specs.HostNamed.{DoesFound, DoesInSlot}

-- one more packet of data can be written
abbrev pub can_put_in : Option Slot → OutboxView → Bool
can_put_in None out = false
can_put_in (Some slot) out = can_put slot.conn out

-- and that by the connection with an own index
abbrev pub can_put_at : HostView → ℕ → OutboxView → Bool
can_put_at h id out = can_put_in (named_slot h.slots id) out

-- Bytes were put to a connection, as chaos_stream puts them: what that leaves, to the letter; and in plain words how
-- many are taken, when not all are, and what goes out.
pub record PutsBytes (before : OutboxView) (bytes : List ℕ) (now : ℕ) (after : OutboxView) (old new : ConnView)
    (taken : ℕ) : Type 0 where
  pub exact : Puts old before bytes now new after taken
  pub within : taken ≤ length bytes
  pub short : taken < length bytes → can_put new after ≡ false
  pub sent : SendsBytes old new before after (take taken bytes)

-- a connection that is there put these bytes
abbrev pub PutsNamed : HostView → ℕ → List ℕ → ℕ → HostView → OutboxView → OutboxView → ℕ → Type 0
PutsNamed old id bytes now new before after taken =
    (slot : Slot) → named_slot old.slots id ≡ Some slot
    → DoesInSlot (PutsBytes before bytes now after) old id slot new taken

-- the connection with an own index put these bytes
abbrev pub PutsAt : HostView → ℕ → List ℕ → ℕ → HostView → OutboxView → OutboxView → Result ℕ CallFault → Type 0
PutsAt old id bytes now new before after answer =
    DoesFound (PutsBytes before bytes now after) old id (named_slot old.slots id) new before after answer
