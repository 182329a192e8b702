-- How many lines about each topic a log writes in a second, and how many lines the log leaves out.
use Rattle.std.specs.Prelude.{ℕ, ◌&&◌, nat_lt, Bool, true, false, if◌then◌else◌, List, Option, Some, None, slice_index_or, slice_set}
use Rattle.chaos_packet.specs.Count.{with_failure as one_more}
use Rattle.chaosd_log.specs.declared.level.Topic.{Topic}
use Rattle.chaosd_log.specs.declared.level.Topic.TheVariants.{Change, Read}
use Rattle.chaosd_log.specs.declared.limiter.Tally.{Tally}
use Rattle.chaosd_log.specs.Level.{place_of_topic}

-- the most lines about a topic in a second; lines about changes have no limit
abbrev pub limit_of : Topic → Option ℕ
limit_of Change = None
limit_of Read = Some 200
limit_of topic = Some 20

-- ---- the lines about one topic

-- no line came
abbrev pub no_lines : Tally
no_lines = record { second = 0; written = 0; left_out = 0 }

-- in a later second no line was written yet
abbrev pub in_second : ℕ → Tally → Tally
in_second now tally = if nat_lt tally.second now then record tally { second = now; written = 0 } else tally

abbrev pub is_below : Option ℕ → ℕ → Bool
is_below None count = true
is_below (Some limit) count = nat_lt count limit

abbrev pub has_room : Option ℕ → ℕ → Tally → Bool
has_room limit now tally = is_below limit (in_second now tally).written

-- a line is written where there is room, and left out elsewhere
abbrev pub counted : Bool → Tally → Tally
counted true tally = record tally { written = one_more tally.written }
counted false tally = record tally { left_out = one_more tally.left_out }

abbrev pub with_line : Option ℕ → ℕ → Tally → Tally
with_line limit now tally = counted (has_room limit now tally) (in_second now tally)

-- lines were left out in a second that is over
abbrev pub is_due : ℕ → Tally → Bool
is_due now tally = nat_lt 0 tally.left_out && nat_lt tally.second now

abbrev pub with_report : Tally → Tally
with_report tally = record tally { left_out = 0 }

-- ---- the lines about all topics

abbrev pub tally_of : Topic → List Tally → Tally
tally_of topic tallies = slice_index_or tallies (place_of_topic topic) no_lines

abbrev pub with_tally : Topic → Tally → List Tally → List Tally
with_tally topic tally tallies = slice_set tallies (place_of_topic topic) tally
