-- A round trip that is measured and smoothed, as RFC 6298 has it.
use Rattle.std.specs.Prelude.{ℕ, ◌+◌, ◌-◌, ◌*◌, ◌/◌, max, min, nat_le, nat_lt, Bool, ◌||◌, if◌then◌else◌, Option, Some, None}
use Rattle.chaos_link.specs.declared.limits.TheConstants.{MAX_WAIT}
use Rattle.chaos_node.specs.declared.limits.TheConstants.{LEAST_INTERVAL, MOST_INTERVAL, MOST_TRIP, SURE_TIMES, UNSURE_INTERVAL}
use Rattle.chaos_node.specs.declared.round_trip.RoundTrip.{RoundTrip}

-- The first time is the smoothed time, and half of it is the deviation.
abbrev pub first_trip : ℕ → RoundTrip
first_trip millis = record { eighths = 8 * millis; spread = 2 * millis; times = 1; least = millis }

-- how far one number is from another
abbrev pub apart : ℕ → ℕ → ℕ
apart a b = max a b - min a b

-- A further time moves the smoothed time by an eighth, and the deviation by a quarter.
abbrev pub joined_trip : RoundTrip → ℕ → RoundTrip
joined_trip trip millis = record {
  eighths = trip.eighths - trip.eighths / 8 + millis;
  spread = trip.spread - trip.spread / 4 + apart (trip.eighths / 8) millis;
  times = min (trip.times + 1) SURE_TIMES;
  least = min trip.least millis;
}

abbrev pub joined_to : Option RoundTrip → ℕ → RoundTrip
joined_to None millis = first_trip millis
joined_to (Some trip) millis = joined_trip trip millis

-- after a time was measured, of which a minute counts at most
abbrev pub trip_after : Option RoundTrip → ℕ → RoundTrip
trip_after trip millis = joined_to trip (min millis MOST_TRIP)

-- The first times that are measured are of short packets, which a slow line carries sooner than the packets of a file.
abbrev pub least_interval : RoundTrip → ℕ
least_interval trip = if nat_lt trip.times SURE_TIMES then UNSURE_INTERVAL else LEAST_INTERVAL

-- The smoothed time and four times the deviation, at most 10 seconds. The longest wait of a turn stands in for a smaller deviation,
-- since a turn sees no moment more exactly.
abbrev pub trip_interval : RoundTrip → ℕ
trip_interval trip =
    min (max (trip.eighths / 8 + max (min trip.spread MOST_INTERVAL) MAX_WAIT) (least_interval trip)) MOST_INTERVAL

-- Packets wait in a queue of the line: the smoothed time is well above the least. Where the least time is short, a queue can't be told
-- from the moments between turns.
abbrev pub is_crowded : RoundTrip → Bool
is_crowded trip = let least = min trip.least MOST_TRIP in
    nat_lt least LEAST_INTERVAL || nat_le (least + least / 4 + 5) (trip.eighths / 8)
