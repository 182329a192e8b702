-- Reading bytes from the stream of one of a host's connections.
use Rattle.std.specs.Prelude.{◌≡◌, ℕ, drop, Result, Option, Some, None}
use Rattle.chaos_packet.specs.Outbox.{OutboxView}
use Rattle.chaos_conn.specs.View.{ConnView}
use Rattle.chaos_stream.specs.Reading.{Sight, Bytes, peek_of, Consumes}
use Rattle.chaos_host.specs.declared.fault.CallFault.{CallFault}
use Rattle.chaos_host.specs.declared.slot.Slot.{Slot}
use Rattle.chaos_host.specs.Slot.{named_slot}
use Rattle.chaos_host.specs.View.{HostView, host_look}
use Rattle.chaos_stream.specs.HostStream.{StreamView}
use Rattle.chaos_stream.specs.HostNamed.{DoesFound}

-- what is shown from a place on, where this is shown from the start of an item
abbrev pub sight_from : Sight → ℕ → Sight
sight_from (Bytes bytes) place = Bytes (drop place bytes)
sight_from sight place = sight

-- what a look at a stream shows
abbrev pub peek_at : HostView → StreamView → Result Sight CallFault
peek_at h s = host_look h s.id (λ conn. peek_of conn s.place)

-- A connection's bytes were consumed, as chaos_stream consumes them. The stream is still that connection's.
pub record ConsumesBytes (before : OutboxView) (s t : StreamView) (count : ℕ) (after : OutboxView) (old new : ConnView)
    (answer : Unit {0}) : Type 0 where
  pub consumes : Consumes old s.place count t.place new before after
  pub id : t.id ≡ s.id

-- the bytes of the connection in the slot that was found were consumed, and where none was the stream is as it was
abbrev pub ConsumesFound : HostView → StreamView → ℕ → Option Slot → StreamView → HostView → OutboxView → OutboxView
    → Result (Unit {0}) CallFault → Type 0
ConsumesFound old s count None t new before after answer =
    (t ≡ s) × DoesFound (ConsumesBytes before s t count after) old s.id None new before after answer
ConsumesFound old s count (Some slot) t new before after answer =
    DoesFound (ConsumesBytes before s t count after) old s.id (Some slot) new before after answer

-- those of the connection of a stream
abbrev pub ConsumesAt : HostView → StreamView → ℕ → StreamView → HostView → OutboxView → OutboxView
    → Result (Unit {0}) CallFault → Type 0
ConsumesAt old s count t new before after answer =
    ConsumesFound old s count (named_slot old.slots s.id) t new before after answer
