-- What a client knows of the line to its server.
use Rattle.std.specs.Prelude.{ℕ, ◌+◌, min, Bool, true, false, Option, Some, None, if◌then◌else◌}
use Rattle.chaos_packet.specs.Count.{max_count}
use Rattle.chaos_conn.specs.Calls.{has_gap}
use Rattle.chaos_conn.specs.State.{is_open}
use Rattle.chaos_conn.specs.View.{ConnView}
use Rattle.chaos_conn.specs.declared.answers.Delivered.TheVariants.{Duplicate, Took}
use Rattle.chaos_host.specs.View.{HostView, conn_at}
use Rattle.chaos_host.specs.declared.answers.HostDelivered.{HostDelivered}
use Rattle.chaos_host.specs.declared.answers.HostDelivered.TheVariants.{At}
use Rattle.chaos_node.specs.RoundTrip.{is_crowded}
use Rattle.chaos_node.specs.declared.timer.RetransmitTimer.{RetransmitTimer}
use Rattle.chaos_node.specs.declared.round_trip.RoundTrip.{RoundTrip}
use Rattle.file_copy.specs.declared.pace.Line.{Line}

-- how many items the window of the server allows, and 0 where no connection is open: only an OPN shows that window
abbrev pub window_in : Option (ℕ × ConnView) → ℕ
window_in None = 0
window_in (Some (id, v)) = if is_open v.state then v.send.window else 0

abbrev pub has_gap_in : Option (ℕ × ConnView) → Bool
has_gap_in None = false
has_gap_in (Some (id, v)) = has_gap v

-- The packet that came last came before, or is ahead of a packet that is missing: a packet was lost.
abbrev pub shows_loss : Option HostDelivered → Bool → Bool
shows_loss (Some (At id Duplicate)) gap = true
shows_loss (Some (At id Took)) gap = gap
shows_loss _ gap = false

abbrev pub losses_after : Option HostDelivered → HostView → ℕ → ℕ
losses_after last_arrival h losses =
    if shows_loss last_arrival (has_gap_in (conn_at h 0)) then min (losses + 1) max_count else losses

-- how often this end sent kept items again
abbrev pub resent_by : Option RetransmitTimer → ℕ
resent_by None = 0
resent_by (Some timer) = timer.retransmissions

-- packets wait in a queue of the line, as far as the round trip shows
abbrev pub crowded_trip : Option RoundTrip → Bool
crowded_trip None = true
crowded_trip (Some trip) = is_crowded trip

abbrev pub crowded_by : Option RetransmitTimer → Bool
crowded_by None = true
crowded_by (Some timer) = crowded_trip timer.trip

abbrev pub line_by : ℕ → Bool → HostView → ℕ → Line
line_by resent crowded h losses = record {
  window = window_in (conn_at h 0);
  losses = min (resent + losses) max_count;
  is_crowded = crowded;
}

abbrev pub line_of : Option RetransmitTimer → HostView → ℕ → Line
line_of timer h losses = line_by (resent_by timer) (crowded_by timer) h losses
