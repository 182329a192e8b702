-- What a call does that is made on the connection which an own index names, told by what it does to a connection.
use Rattle.std.specs.Prelude.{◌≡◌, ℕ, Bool, true, false, length, Option, Some, None, Result, Ok, Err}
use Rattle.chaos_packet.specs.Outbox.{OutboxView}
use Rattle.chaos_conn.specs.View.{ConnView}
use Rattle.chaos_host.specs.declared.fault.CallFault.{CallFault}
use Rattle.chaos_host.specs.declared.fault.CallFault.TheVariants.{NoSuchConnection}
use Rattle.chaos_host.specs.declared.slot.Slot.{Slot}
use Rattle.chaos_host.specs.Slot.{named_slot, place_of}
use Rattle.chaos_host.specs.View.{HostView}
use Rattle.chaos_host.specs.Acted.{with_slot}

abbrev pub is_there : Option Slot → Bool
is_there None = false
is_there (Some slot) = true

-- a connection has this own index
abbrev pub is_named : HostView → ℕ → Bool
is_named h id = is_there (named_slot h.slots id)

module _ {A : Type 0} where
  -- The connection in a slot did this, and no other slot changed, nor anything else of the host. The index names the
  -- connection as before.
  pub record DoesInSlot (does : ConnView → ConnView → A → Type 0) (old : HostView) (id : ℕ) (slot : Slot)
      (new : HostView) (answer : A) : Type 0 where
    pub conn : ConnView
    pub did : does slot.conn conn answer
    pub view : new ≡ with_slot old (place_of id) (record slot { conn = conn })
    pub named : named_slot new.slots id ≡ Some (record slot { conn = conn })
    pub config : new.config ≡ old.config
    pub size : length new.slots ≡ length old.slots

  -- the connection in a slot did this, and answered
  abbrev pub AnswersInSlot : (ConnView → ConnView → A → Type 0) → HostView → ℕ → Slot → HostView → Result A CallFault
      → Type 0
  AnswersInSlot does old id slot new (Ok answer) = DoesInSlot does old id slot new answer
  AnswersInSlot does old id slot new (Err fault) = ⊥

  -- nothing changed, and no connection was there
  pub record IsRefused (old new : HostView) (before after : OutboxView) (answer : Result A CallFault) : Type 0 where
    pub view : new ≡ old
    pub out : after ≡ before
    pub answers : answer ≡ Err NoSuchConnection

  -- the connection in the slot that was found did this
  abbrev pub DoesFound : (ConnView → ConnView → A → Type 0) → HostView → ℕ → Option Slot → HostView → OutboxView
      → OutboxView → Result A CallFault → Type 0
  DoesFound does old id None new before after answer = IsRefused old new before after answer
  DoesFound does old id (Some slot) new before after answer = AnswersInSlot does old id slot new answer
