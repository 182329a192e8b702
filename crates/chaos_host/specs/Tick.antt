-- What is due in one slot.
use Rattle.std.specs.Prelude.{ℕ, if◌then◌else◌, Option, Some, None, slice_get}
use Rattle.chaos_conn.specs.Act.{Tick}
use Rattle.chaos_conn.specs.Time.{act_tick}
use Rattle.chaos_conn.specs.declared.answers.Ticked.{Ticked}
use Rattle.chaos_conn.specs.declared.answers.Ticked.TheVariants.{Quiet}
use Rattle.chaos_host.specs.declared.slot.Slot.{Slot}
use Rattle.chaos_host.specs.Slot.{is_used}
use Rattle.chaos_host.specs.View.{HostView}
use Rattle.chaos_host.specs.Acted.{HostActed, no_effect, on_slot}

-- the connection in a slot in use does what is due; a free slot, and a place without a slot, is quiet
abbrev pub tick_slot : HostView → ℕ → ℕ → Option Slot → HostActed Ticked
tick_slot v place now None = no_effect v Quiet
tick_slot v place now (Some slot) =
    if is_used slot then on_slot v place slot (Tick now) (act_tick slot.conn now).answer
    else no_effect v Quiet

abbrev pub host_tick : HostView → ℕ → ℕ → HostActed Ticked
host_tick v place now = tick_slot v place now (slice_get v.slots place)
