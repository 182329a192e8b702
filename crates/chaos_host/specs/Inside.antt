-- A host's fields as what contracts see, and what holds of them.
use Rattle.std.specs.Prelude.{◌≡◌, ℕ, List}
use Rattle.chaos_host.specs.Slot.{is_used_at}
use Rattle.chaos_host.specs.SlotSet.{has}
use Rattle.chaos_host.specs.View.{HostView, IsHost}
use Rattle.chaos_host.specs.declared.host.Host.TheInside.{Inside}
use Rattle.chaos_host.specs.declared.slot.Slot.{Slot}

abbrev pub host_view : Inside → HostView
host_view h = record { address = h.address; config = h.config; listeners = h.listeners.items; slots = h.slots.items }

-- A set of slots has exactly those that are in use.
abbrev pub HasUsed : List ℕ → List Slot → Type 0
HasUsed set slots = (place : ℕ) → has set place ≡ is_used_at slots place

pub record IsSound (h : Inside) : Type 0 where
  pub host : IsHost (host_view h)
  pub in_use : HasUsed h.in_use.words h.slots.items
