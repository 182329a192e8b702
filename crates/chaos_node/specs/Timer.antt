-- When kept items are sent again: the timer of each connection, as RFC 6298 has it.
use Rattle.std.specs.Prelude.{ℕ, ◌-◌, ◌*◌, ◌+◌, ◌/◌, max, min, nat_le, nat_lt, ◌==◌, Bool, true, false, not, ◌&&◌, ◌||◌, if◌then◌else◌, List, [], ◌∷◌, length, Option, Some, None, is_some, slice_get, slice_set, zero, suc}
use Rattle.chaos_packet.specs.Count.{max_count}
use Rattle.chaos_packet.specs.Number.{off}
use Rattle.chaos_conn.specs.View.{ConnView}
use Rattle.chaos_conn.specs.Time.{at_moment, due_of}
use Rattle.chaos_conn.specs.declared.time.Due.{Due}
use Rattle.chaos_conn.specs.declared.time.Due.TheVariants.{Resend}
use Rattle.chaos_host.specs.View.{HostView, conn_at}
use Rattle.chaos_link.specs.declared.limits.TheConstants.{MAX_WAIT}
use Rattle.chaos_node.specs.Phase.{Effect, no_effect_on}
use Rattle.chaos_node.specs.RoundTrip.{trip_after, trip_interval}
use Rattle.chaos_node.specs.Slots.{any_within, tick_at}
use Rattle.chaos_node.specs.declared.limits.TheConstants.{FIRST_INTERVAL, MOST_BACKED_OFF, MOST_FACTOR}
use Rattle.chaos_node.specs.declared.round_trip.RoundTrip.{RoundTrip}
use Rattle.chaos_node.specs.declared.timer.Interval.{Interval}
use Rattle.chaos_node.specs.declared.timer.Interval.TheVariants.{Fixed, Measured}
use Rattle.chaos_node.specs.declared.timer.RetransmitTimer.{RetransmitTimer}
use Rattle.chaos_node.specs.declared.timer.Sending.{Sending}
use Rattle.chaos_node.specs.declared.timer.Timed.{Timed}

-- ---- its time

-- where nothing was sent again since the last receipt
abbrev pub base_of : Interval → ℕ → Option RoundTrip → ℕ
base_of (Fixed millis) floor trip = millis
base_of Measured floor None = max FIRST_INTERVAL floor
base_of Measured floor (Some trip) = max (trip_interval trip) floor

abbrev pub interval_of : RetransmitTimer → ℕ
interval_of t = min (base_of t.interval t.floor t.trip * t.factor) MOST_BACKED_OFF

-- ---- what it sees

abbrev pub sending_of : ConnView → Sending
sending_of v =
    record { receipted = v.send.receipted; sent = v.send.sent; resent = v.resent; keeps = nat_lt 0 (length v.send.kept) }

abbrev pub new_timer : Interval → RetransmitTimer
new_timer interval = record {
  interval = interval;
  id = None;
  seen = record { receipted = 0; sent = 0; resent = 0; keeps = false };
  progressed = 0;
  factor = 1;
  waits_since = 0;
  is_measured = false;
  floor = 0;
  trip = None;
  timed = None;
  retransmissions = 0;
}

-- a timer that begins with a connection: all items that the connection keeps are new to the timer
abbrev pub begun : Interval → ℕ → ConnView → RetransmitTimer
begun interval id v = record (new_timer interval) {
  id = Some id;
  seen = record { receipted = v.send.receipted; sent = v.send.receipted; resent = v.resent; keeps = false };
}

abbrev pub timer_by : ℕ → ConnView → RetransmitTimer → Option ℕ → RetransmitTimer
timer_by id v t None = begun t.interval id v
timer_by id v t (Some seen) = if seen == id then t else begun t.interval id v

-- the timer of this connection: as it is, or a new one
abbrev pub timer_of : ℕ → ConnView → RetransmitTimer → RetransmitTimer
timer_of id v t = timer_by id v t t.id

-- an item was receipted since the last look
abbrev pub has_progress : Sending → RetransmitTimer → Bool
has_progress s t = not (s.receipted == t.seen.receipted)

-- Kept items were sent again since the last look: items were kept then, none was receipted, and the moment of the last
-- retransmission is another.
abbrev pub was_resent : Sending → RetransmitTimer → Bool
was_resent s t = t.seen.keeps && not (has_progress s t) && not (s.resent == t.seen.resent)

-- this item is among those that were receipted since
abbrev pub covers : Sending → Sending → ℕ → Bool
covers s seen number = nat_le (off number seen.receipted) (off s.receipted seen.receipted)

-- a round trip was measured
abbrev pub measured : ℕ → RetransmitTimer → RetransmitTimer
measured millis t =
    record t { trip = Some (trip_after t.trip millis); timed = None; factor = 1; is_measured = true; floor = 0 }

-- the least time after so long a wait for a receipt
abbrev pub floor_after : ℕ → ℕ
floor_after waited = min (waited + waited / 4 + MAX_WAIT) MOST_BACKED_OFF

-- A receipt that measures nothing ends a back-off. Where no round trip was measured since one ended a back-off so last, the way may
-- take longer than the time: so the time is somewhat longer than this wait until a round trip is measured.
abbrev pub back_off_ended : ℕ → RetransmitTimer → RetransmitTimer
back_off_ended now t = if nat_le t.factor 1 then t
    else record t { factor = 1; is_measured = false; floor = if t.is_measured then t.floor else floor_after (now - t.waits_since) }

-- the round trip is measured where the item that is timed was receipted
abbrev pub measured_by : ℕ → Sending → RetransmitTimer → Option Timed → RetransmitTimer
measured_by now s t None = back_off_ended now t
measured_by now s t (Some timed) = if covers s t.seen timed.num then measured (now - timed.at) t else back_off_ended now t

-- A receipt starts the timer anew.
abbrev pub progressed : ℕ → Sending → RetransmitTimer → RetransmitTimer
progressed now s t = measured_by now s (record t { progressed = now }) t.timed

-- A retransmission doubles its time. The item that is timed went twice, so its receipt measures nothing.
abbrev pub backed_off : RetransmitTimer → RetransmitTimer
backed_off t = record t {
  waits_since = if t.factor == 1 then max t.seen.resent t.progressed else t.waits_since;
  factor = min (t.factor * 2) MOST_FACTOR;
  timed = None;
  retransmissions = min (t.retransmissions + 1) max_count;
}

-- the newest item is timed from now on, where items were sent since the last look and none is timed
abbrev pub timed_from : ℕ → Sending → RetransmitTimer → RetransmitTimer
timed_from now s t = if not (is_some t.timed) && not (s.sent == t.seen.sent)
    then record t { timed = Some (record { num = s.sent; at = now }) }
    else t

abbrev pub changed_by : ℕ → Sending → RetransmitTimer → RetransmitTimer
changed_by now s t = if has_progress s t then timed_from now s (progressed now s t)
    else (if was_resent s t then backed_off t else timed_from now s t)

-- a connection shows this at a moment
abbrev pub seen_at : ℕ → Sending → RetransmitTimer → RetransmitTimer
seen_at now s t = record (changed_by now s t) { seen = s }

-- the timer looks at a connection
abbrev pub looked : ℕ → ConnView → ℕ → RetransmitTimer → RetransmitTimer
looked id v now t = seen_at now (sending_of v) (timer_of id v t)

-- ---- each timer, at the connection in its slot

abbrev pub looked_in : ℕ → ℕ → Option (ℕ × ConnView) → Option RetransmitTimer → List RetransmitTimer → List RetransmitTimer
looked_in now place (Some (id, v)) (Some t) ts = slice_set ts place (looked id v now t)
looked_in now place _ _ ts = ts

abbrev pub looked_at : ℕ → HostView → ℕ → List RetransmitTimer → List RetransmitTimer
looked_at now h place ts = looked_in now place (conn_at h place) (slice_get ts place) ts

-- those of the first so many slots
abbrev pub looked_slots : ℕ → HostView → ℕ → List RetransmitTimer → List RetransmitTimer
looked_slots now h zero ts = ts
looked_slots now h (suc n) ts = looked_at now h n (looked_slots now h n ts)

-- ---- when a tick is held back

-- No item was receipted since the last look. Its time has passed since a receipt and since items were sent again; or the time
-- after which a silent peer is probed has passed since then, and since the peer was heard.
abbrev pub is_over : RetransmitTimer → ℕ → ConnView → Bool
is_over t now v = let since = max v.resent t.progressed in
    v.send.receipted == t.seen.receipted
    && (nat_le (interval_of t) (now - since) || nat_le v.config.probe (now - max since v.heard))

abbrev pub is_resend : Due → Bool
is_resend Resend = true
is_resend _ = false

-- A tick would send kept items again, and the timer isn't over.
abbrev pub holds_back : RetransmitTimer → ℕ → ConnView → Bool
holds_back t now v = is_resend (due_of (at_moment v now)) && not (is_over t now v)

abbrev pub holds_in : ℕ → Option RetransmitTimer → Option (ℕ × ConnView) → Bool
holds_in now (Some t) (Some (id, v)) = holds_back t now v
holds_in now _ _ = false

-- The timer of this slot holds the tick back. A slot without a timer is always ticked.
abbrev pub holds_at : List RetransmitTimer → ℕ → ℕ → HostView → Bool
holds_at ts now place h = holds_in now (slice_get ts place) (conn_at h place)

-- The connection in a slot does what is due, where its timer doesn't hold that back.
abbrev pub tick_by : List RetransmitTimer → ℕ → ℕ → HostView → Effect
tick_by ts now place h = if holds_at ts now place h then no_effect_on h else tick_at now place h

-- ---- when a tick sends again

-- A tick would send kept items again, and the timer is over.
abbrev pub resends : RetransmitTimer → ℕ → ConnView → Bool
resends t now v = is_resend (due_of (at_moment v now)) && is_over t now v

abbrev pub resends_in : ℕ → Option RetransmitTimer → Option (ℕ × ConnView) → Bool
resends_in now (Some t) (Some (id, v)) = resends t now v
resends_in now _ _ = false

-- The tick of the connection in this slot sends kept items again, by the slot's timer.
abbrev pub resends_at : List RetransmitTimer → ℕ → HostView → ℕ → Bool
resends_at ts now h place = resends_in now (slice_get ts place) (conn_at h place)

-- The tick of any connection does.
abbrev pub resends_any : List RetransmitTimer → ℕ → HostView → Bool
resends_any ts now h = any_within (resends_at ts now h) (length h.slots)
