-- How far the copy of files has come.
use Rattle.std.specs.Prelude.{ℕ, ◌==◌, ◌+◌, ◌-◌, ◌*◌, ◌/◌, ◌&&◌, min, max, nat_le, nat_lt, if◌then◌else◌, Bool, Option, Some, None, option_map}
use Rattle.file_transfer.specs.declared.progress.TheConstants.{SHOW_MILLIS, SPEED_MILLIS, STALL_MILLIS}
use Rattle.file_transfer.specs.declared.progress.Mark.{Mark}
use Rattle.file_transfer.specs.declared.progress.Progress.{Progress}
use Rattle.file_transfer.specs.declared.progress.Speed.{Speed}
use Rattle.file_transfer.specs.declared.progress.Share.{Share}

-- the greatest count of the machine, at which sums and products stop
abbrev pub most : ℕ
most = 18446744073709551615

-- a part of a whole in hundredths, and 100 of nothing
abbrev pub hundredths_of : ℕ → ℕ → ℕ
hundredths_of part whole = if whole == 0 then 100 else min (part * 100) most / whole

-- the bytes of this file that have come
abbrev pub part_of : Progress → ℕ
part_of p = min p.part p.whole

-- the bytes of all files that have come
abbrev pub reached : Progress → ℕ
reached p = min (p.before + part_of p) most

-- the bytes of all files, where those of the files behind this one are known
abbrev pub total_of : Progress → Option ℕ
total_of p = option_map (λ behind. min (min (p.before + p.whole) most + behind) most) p.behind

-- how fast bytes came since the look from which on that is counted
abbrev pub speed_of : Progress → ℕ → Speed
speed_of p now = record { bytes = reached p - p.from.bytes; millis = max (now - p.from.moment) 1 }

-- no byte has come for so long
abbrev pub is_stalled : Progress → ℕ → Bool
is_stalled p now = nat_le STALL_MILLIS (now - p.moved.moment)

-- in how many milliseconds so many bytes come at a speed
abbrev pub left_of : ℕ → Speed → Option ℕ
left_of bytes speed = if speed.bytes == 0 then None else Some (min (bytes * speed.millis) most / speed.bytes)

-- the bytes that are still to come: of all files where these are known, or else of this one
abbrev pub bytes_left : Progress → Option ℕ → ℕ
bytes_left p None = p.whole - part_of p
bytes_left p (Some total) = total - reached p

-- what a user is shown at this moment
abbrev pub share_of : Progress → ℕ → Share
share_of p now = record {
  whole = p.whole;
  part = part_of p;
  hundredths = hundredths_of (part_of p) p.whole;
  reached = reached p;
  total = total_of p;
  speed = speed_of p now;
  is_stalled = is_stalled p now;
  left = left_of (bytes_left p (total_of p)) (speed_of p now);
}

-- nothing had come by this moment
abbrev pub nothing_by : ℕ → Mark
nothing_by now = record { moment = now; bytes = 0 }

-- the copy begins at this moment
abbrev pub begun_at : ℕ → Progress
begun_at now = record {
  before = 0;
  whole = 0;
  part = 0;
  behind = None;
  moved = nothing_by now;
  from = nothing_by now;
  next = nothing_by now;
  shown = now;
}

-- what has come at this moment
abbrev pub mark_at : Progress → ℕ → Mark
mark_at p now = record { moment = now; bytes = reached p }

-- the next file begins at this moment
abbrev pub file_begun : Option ℕ → Progress → ℕ → Progress
file_begun behind p now = record p { before = reached p; whole = 0; part = 0; behind = behind; moved = mark_at p now }

-- the last look that found more bytes than the one before
abbrev pub moved_at : Progress → ℕ → Progress
moved_at p now = if nat_lt p.moved.bytes (reached p) then record p { moved = mark_at p now } else p

-- a look, from which on the speed is counted some seconds later
abbrev pub looked_at : Progress → ℕ → Progress
looked_at p now = if nat_le SPEED_MILLIS (now - p.next.moment) then record (moved_at p now) { from = p.next; next = mark_at p now } else moved_at p now

-- the file has bytes, and so many milliseconds have passed since the user was shown something last
abbrev pub is_due : Progress → ℕ → Bool
is_due p now = nat_lt 0 p.whole && nat_le SHOW_MILLIS (now - p.shown)

-- what a user is shown where that is due
abbrev pub share_due : Progress → ℕ → Option Share
share_due p now = if is_due p now then Some (share_of (looked_at p now) now) else None

-- a look that is shown where that is due
abbrev pub shown_at : Progress → ℕ → Progress
shown_at p now = if is_due p now then record (looked_at p now) { shown = now } else looked_at p now
