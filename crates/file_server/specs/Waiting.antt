-- Whether a turn has something to serve, so that it isn't to wait for a datagram.
use Rattle.std.specs.Prelude.{ℕ, Bool, false, not, ◌&&◌, List, length, Option, Some, None}
use Rattle.chaos_host.specs.View.{HostView, id_at}
use Rattle.chaos_file.specs.ServeCalls.{can_serve}
use Rattle.chaos_node.specs.Slots.{any_within}
use Rattle.chaos_node.specs.Timer.{resends_any}
use Rattle.chaos_node.specs.declared.timer.RetransmitTimer.{RetransmitTimer}

-- the connection with this index, where there is one, has something to serve
abbrev pub serves_by : HostView → Option ℕ → Bool
serves_by h None = false
serves_by h (Some id) = can_serve h id

-- that in any slot has
abbrev pub can_serve_any : HostView → Bool
can_serve_any h = any_within (λ place. serves_by h (id_at h place)) (length h.slots)

-- Whether a turn of this host waits for a datagram: where its caller lets it, nothing in front can be served, and no tick of the turn
-- sends kept items again by these timers.
abbrev pub waits : List RetransmitTimer → ℕ → Bool → HostView → Bool
waits timers now may_wait h = may_wait && not (can_serve_any h) && not (resends_any timers now h)
