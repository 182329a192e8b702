-- The next moment at which something is due in one of the slots.
use Rattle.std.specs.Prelude.{◌≡◌, ℕ, ◌<◌, ◌^◌, true, false, Option}
use Rattle.chaos_conn.specs.NextDue.{is_quiet, is_before}
use Rattle.chaos_host.specs.View.{HostView}
use Rattle.chaos_host.specs.Tick.{host_tick}

-- Before this moment a tick of each slot would be quiet, and from it on that of some slot wouldn't.
pub record TellsDue (v : HostView) (due : Option ℕ) (now : ℕ) : Type 0 where
  pub before : is_before now due ≡ true → (place : ℕ) → is_quiet (host_tick v place now).answer ≡ true
  pub after : is_before now due ≡ false → (place : ℕ) × (is_quiet (host_tick v place now).answer ≡ false)

-- So it is at each moment that a call can name.
abbrev pub IsNextDue : HostView → Option ℕ → Type 0
IsNextDue v due = (now : ℕ) → now < 2 ^ 64 → TellsDue v due now
