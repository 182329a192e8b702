-- What serving one connection of a host does.
use Rattle.std.specs.Prelude.{ℕ, List, Option, Some, None}
use Rattle.chaos_packet.specs.Outbox.{OutboxView}
use Rattle.chaos_conn.specs.Acted.{Acted}
use Rattle.chaos_file.specs.Session.{SessionView}
use Rattle.chaos_file.specs.Store.{StoreChange}
use Rattle.chaos_host.specs.declared.slot.Slot.{Slot}
use Rattle.chaos_host.specs.Slot.{named_slot, place_of}
use Rattle.chaos_host.specs.View.{HostView}
use Rattle.chaos_host.specs.Acted.{HostActed, HostDoes, no_effect, with_slot}
use Rattle.chaos_file.specs.declared.change.Change.{Change}
use Rattle.chaos_file.specs.ServeAnswer.{IsAnswered, IsReported, IsUnreported, IsUnused}
use Rattle.chaos_file.specs.Serve.{DoesWorkBy}
use Rattle.chaos_file.specs.ServeWork.{work_of}
use Rattle.chaos_file.specs.declared.served.Served.{Served}
use Rattle.chaos_file.specs.declared.served.Served.TheVariants as told

-- the connection in a slot did this; no other slot changes
abbrev pub in_slot : HostView → ℕ → Slot → Acted Served → HostActed Served
in_slot h place slot acted = record {
  view = with_slot h place (record slot { conn = acted.view });
  packets = acted.packets;
  answer = acted.answer;
}

-- the connection in a slot is served, where there is one
abbrev pub DoesWorkInSlotBy : (List ℕ → List ℕ → Type 0) → Type 0 → (HostActed Served → Type 0) → HostView → ℕ → ℕ
    → Option Slot → Type 0
DoesWorkInSlotBy answered unused does h place now None = unused × does (no_effect h told.NoSuchConnection)
DoesWorkInSlotBy answered unused does h place now (Some slot) =
    DoesWorkBy answered unused (λ acted. does (in_slot h place slot acted)) slot.conn now (work_of slot.conn)

abbrev pub DoesWorkInSlot : StoreChange → SessionView → SessionView → (HostActed Served → Type 0) → HostView → ℕ → ℕ
    → Option Slot → Type 0
DoesWorkInSlot store s t = DoesWorkInSlotBy (IsAnswered store s t) (IsUnused store s t)

-- the connection with an own index is served
abbrev pub ServesOne : StoreChange → SessionView → SessionView → HostView → ℕ → ℕ → HostView → OutboxView → OutboxView
    → Served → Type 0
ServesOne store s t old id now new before after answer =
    DoesWorkInSlot store s t (λ acted. HostDoes old 2 acted new before after answer) old (place_of id) now
    (named_slot old.slots id)

-- the same, and what its command is reported to have changed
abbrev pub ServesAndReports : StoreChange → SessionView → SessionView → Option Change → HostView → ℕ → ℕ → HostView
    → OutboxView → OutboxView → Served → Type 0
ServesAndReports store s t made old id now new before after answer =
    DoesWorkInSlotBy (IsReported store s t made) (IsUnreported store s t made)
    (λ acted. HostDoes old 2 acted new before after answer) old (place_of id) now (named_slot old.slots id)
