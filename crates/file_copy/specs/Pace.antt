-- How many commands are in flight: no more than the line carries, and no more than the server's window allows.
use Rattle.std.specs.Prelude.{ℕ, ◌+◌, ◌/◌, ◌==◌, ◌&&◌, max, min, nat_le, nat_lt, not, Bool, false, if◌then◌else◌, Option, Some, None}
use Rattle.chaos_packet.specs.Count.{max_count}
use Rattle.file_copy.specs.declared.limits.TheConstants.{FIRST_FLIGHT, LEAST_FLIGHT, MOST_FLIGHT}
use Rattle.file_copy.specs.declared.pace.Line.{Line}
use Rattle.file_copy.specs.declared.pace.Pace.{Pace}

-- before the first command
abbrev pub first_pace : Pace
first_pace = record {
  window = 0;
  allowed = FIRST_FLIGHT;
  threshold = MOST_FLIGHT;
  credit = 0;
  recovered = 0;
  losses = None;
}

-- so many commands may be in flight
abbrev pub most_of : Pace → ℕ
most_of p = min p.allowed p.window

-- how many of so many commands the server's window allows, where it is known and there are more
abbrev pub bound_of : Pace → ℕ → Option ℕ
bound_of p count = if nat_lt 0 p.window && nat_lt p.window count then Some p.window else None

-- one command more
abbrev pub with_more : Pace → Pace
with_more p = record p { allowed = min (p.allowed + 1) MOST_FLIGHT }

-- A reply came. From the threshold on a whole flight of replies has to come for one command more.
abbrev pub grown : Pace → Pace
grown p = if nat_lt p.allowed p.threshold then with_more p
    else (if nat_le p.allowed (p.credit + 1) then record (with_more p) { credit = 0 } else record p { credit = p.credit + 1 })

-- half as many commands, after so many were sent
abbrev pub halved : ℕ → Pace → Pace
halved sent p = let half = max (p.allowed / 2) LEAST_FLIGHT in
    record p { allowed = half; threshold = half; credit = 0; recovered = sent }

-- a packet was lost since the last look
abbrev pub has_lost : Option ℕ → ℕ → Bool
has_lost None losses = false
has_lost (Some before) losses = not (losses == before)

-- The line is looked at, once so many commands were sent and so many replies came. The first window that is known stays. A loss on a
-- crowded line halves the flight, once for each flight.
abbrev pub looked : Line → ℕ → ℕ → Pace → Pace
looked line sent received p =
    let seen = record p { window = if p.window == 0 then line.window else p.window; losses = Some line.losses } in
    if has_lost p.losses line.losses && line.is_crowded && nat_le p.recovered received then halved sent seen else seen
