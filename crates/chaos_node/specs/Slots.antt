-- What a turn does in one slot.
use Rattle.std.specs.Prelude.{zero, suc, ℕ, Bool, true, false, if◌then◌else◌}
use Rattle.chaos_host.specs.Tick.{host_tick}
use Rattle.chaos_host.specs.View.{HostView}
use Rattle.chaos_node.specs.Phase.{Effect, effect_singly_of}

-- The connection in a slot does what is due. What it puts out, as what it sends again, goes one packet to a datagram by either
-- carriage.
abbrev pub tick_at : ℕ → ℕ → HostView → Effect
tick_at now place h = effect_singly_of (host_tick h place now)

-- It is so of one of the first so many slots.
abbrev pub any_within : (ℕ → Bool) → ℕ → Bool
any_within p zero = false
any_within p (suc n) = if any_within p n then true else p n
