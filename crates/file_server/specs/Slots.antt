-- What a server's turn does in one slot, beside serving it.
use Rattle.std.specs.Prelude.{◌≡◌, zero, suc, ℕ, ◌-◌, nat_le, Bool, false, ◌&&◌, ◌||◌, if◌then◌else◌, List, [], length, Option, Some, None, slice_set}
use Rattle.chaos_conn.specs.Act.{Close}
use Rattle.chaos_conn.specs.Calls.{is_drained, keeps_opn}
use Rattle.chaos_conn.specs.View.{ConnView}
use Rattle.chaos_host.specs.declared.slot.Slot.{Slot}
use Rattle.chaos_host.specs.Slot.{named_slot}
use Rattle.chaos_host.specs.Calls.{host_end, host_release}
use Rattle.chaos_host.specs.View.{HostView, id_at}
use Rattle.chaos_node.specs.Link.{has_packets}
use Rattle.chaos_node.specs.Phase.{Effect, no_effect_on, effect_of, and_then, over_slots}
use Rattle.chaos_node.specs.Timer.{tick_by}
use Rattle.chaos_node.specs.declared.timer.RetransmitTimer.{RetransmitTimer}
use Rattle.file_server.specs.Sessions.{Serving, serving_at, without_files}

-- A peer that stays silent has so many milliseconds since a moment to acknowledge something, or all the time. They are over.
abbrev pub is_late : Option ℕ → ℕ → ℕ → Bool
is_late None since now = false
is_late (Some millis) since now = nat_le millis (now - since)

-- the EOF was served and the peer read all, or it is late, and the peer has acknowledged nothing that was sent to it
abbrev pub is_over : Bool → Bool → ConnView → Bool
is_over eof late conn = eof && is_drained conn || late && keeps_opn conn

abbrev pub is_over_in : Bool → Bool → Option Slot → Bool
is_over_in eof late None = false
is_over_in eof late (Some slot) = is_over eof late slot.conn

-- such a connection is closed with an empty text
abbrev pub close_by : Bool → Bool → HostView → Option ℕ → Effect
close_by eof late h None = no_effect_on h
close_by eof late h (Some id) =
    if is_over_in eof late (named_slot h.slots id) then effect_of (host_end h id (Close [])) else no_effect_on h

abbrev pub close_for : Option ℕ → ℕ → Serving → HostView → Option ℕ → Effect
close_for silence now serving h there = close_by serving.eof (is_late silence serving.since now) h there

abbrev pub close_at : Option ℕ → ℕ → List Serving → ℕ → HostView → Effect
close_at silence now sessions place h = close_for silence now (serving_at sessions place) h (id_at h place)

-- an ended connection is released
abbrev pub release_by : HostView → Option ℕ → Effect
release_by h None = no_effect_on h
release_by h (Some id) = effect_of (host_release h id)

abbrev pub release_at : ℕ → HostView → Effect
release_at place h = release_by h (id_at h place)

-- A phase leaves this host as it is, and sends nothing.
abbrev pub IsIdle : Effect → HostView → Type 0
IsIdle effect h = (effect.host ≡ h) × (has_packets effect.lots ≡ false)

-- No connection in this slot is to be closed or released.
abbrev pub EndsNothingAt : Option ℕ → ℕ → List Serving → HostView → ℕ → Type 0
EndsNothingAt silence now sessions h place =
    IsIdle (close_at silence now sessions place h) h × IsIdle (release_at place h) h

-- So it is in each of the first so many slots.
abbrev pub EndsNothing : Option ℕ → ℕ → List Serving → HostView → ℕ → Type 0
EndsNothing silence now sessions h zero = Unit {0}
EndsNothing silence now sessions h (suc n) =
    EndsNothing silence now sessions h n × EndsNothingAt silence now sessions h n

-- a session after the look whether its slot has a connection
abbrev pub given_back_in : Option ℕ → Serving → Serving
given_back_in None serving = without_files serving
given_back_in (Some id) serving = serving

-- the files of a slot without a connection are given back
abbrev pub given_back_at : Option ℕ → ℕ → List Serving → List Serving
given_back_at None place sessions = slice_set sessions place (without_files (serving_at sessions place))
given_back_at (Some id) place sessions = sessions

-- those of each of the first so many slots
abbrev pub given_back : HostView → ℕ → List Serving → List Serving
given_back h zero sessions = sessions
given_back h (suc n) sessions = given_back_at (id_at h n) n (given_back h n sessions)

-- ---- the last phases of a turn, each over all slots

-- What a turn has beside the definition of `run_turn`: the milliseconds for which it serves a peer that acknowledges nothing,
-- and a timer for each slot. A timer may hold the tick of its slot back.
pub record Options : Type 0 where
  pub silence : Option ℕ
  pub timers : List RetransmitTimer

-- `run_turn` serves such a peer as long as it is heard, and ticks each slot.
abbrev pub no_options : Options
no_options = record { silence = None; timers = [] }

abbrev pub end_phases : Options → List Serving → ℕ → HostView → Effect
end_phases options sessions now h =
    and_then
    (and_then (over_slots (close_at options.silence now sessions) (length h.slots) h)
    (over_slots release_at (length h.slots)))
    (over_slots (tick_by options.timers now) (length h.slots))
