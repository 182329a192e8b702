-- Which refusals of datagrams a log reports, and how many at once.
use Rattle.std.specs.Prelude.{◌≡◌, ◌⊎◌, ◌<◌, ◌++◌, ◌∷◌, ◌-◌, [], ℕ, Bool, true, nat_le, if◌then◌else◌, List, length, Option, Some, None, slice_get, slice_set}
use Rattle.std.specs.List.{All}
use Rattle.std.specs.declared.net.socket_addr.SocketAddr.{SocketAddr}
use Rattle.chaos_packet.specs.Count.{with_failure as one_more}
use Rattle.chaos_seal.specs.declared.fault.SealFault.{SealFault}
use Rattle.chaosd_log.specs.declared.refusals.TheConstants.{MAX_REFUSED, QUIET_SECONDS}
use Rattle.chaosd_log.specs.declared.refusals.Refused.{Refused}
use Rattle.chaosd_log.specs.declared.refusals.RefusalReport.{RefusalReport}
use Rattle.chaosd_log.specs.declared.refusals.RefusalReport.TheVariants.{Silent, Known, Others}
use Rattle.chaosd_log.specs.declared.refusals.RefusalTally.{RefusalTally}

-- ---- one row

-- nothing was refused
abbrev pub no_refusals : RefusalTally
no_refusals = record { unreported = 0; reported = None }

-- nothing was reported in the last 10 seconds
abbrev pub is_due_since : ℕ → Option ℕ → Bool
is_due_since now None = true
is_due_since now (Some second) = nat_le QUIET_SECONDS (now - second)

abbrev pub is_due : ℕ → RefusalTally → Bool
is_due now tally = is_due_since now tally.reported

-- a refusal that is due is reported with those that weren't; any other is counted
abbrev pub counted : ℕ → RefusalTally → RefusalTally
counted now tally = if is_due now tally
    then record { unreported = 0; reported = Some now }
    else record tally { unreported = one_more tally.unreported }

abbrev pub count_due : ℕ → RefusalTally → Option ℕ
count_due now tally = if is_due now tally then Some (one_more tally.unreported) else None

-- ---- the table

-- what was refused by UDP address and reason, and what was refused of addresses for which there was no row
pub record RefusalsView : Type 0 where
  pub known : List Refused
  pub others : RefusalTally

-- a row is of this address and this reason
abbrev pub IsOf : SocketAddr → SealFault → Refused → Type 0
IsOf from fault row = (row.from ≡ from) × (row.fault ≡ fault)

abbrev pub IsRowAt : SocketAddr → SealFault → ℕ → List Refused → Type 0
IsRowAt from fault place rows = (row : Refused) × (slice_get rows place ≡ Some row) × IsOf from fault row

abbrev pub HasNoRow : SocketAddr → SealFault → List Refused → Type 0
HasNoRow from fault rows = All (λ row. ¬ IsOf from fault row) rows

abbrev pub report_known : Option ℕ → RefusalReport
report_known None = Silent
report_known (Some count) = Known count

abbrev pub report_others : Option ℕ → RefusalReport
report_others None = Silent
report_others (Some count) = Others count

abbrev pub row_of : SocketAddr → SealFault → RefusalTally → Refused
row_of from fault tally = record { from = from; fault = fault; tally = tally }

-- the refusal is counted in the row of its address and reason
abbrev pub CountsInRow : SocketAddr → SealFault → ℕ → RefusalsView → RefusalReport → RefusalsView → Type 0
CountsInRow from fault now refusals report next = (place : ℕ) × (row : Refused) × (slice_get refusals.known place ≡ Some row)
    × IsOf from fault row × (report ≡ report_known (count_due now row.tally))
    × (next ≡ record refusals { known = slice_set refusals.known place (row_of from fault (counted now row.tally)) })

-- or in a new row, where there is room
abbrev pub CountsInNewRow : SocketAddr → SealFault → ℕ → RefusalsView → RefusalReport → RefusalsView → Type 0
CountsInNewRow from fault now refusals report next = HasNoRow from fault refusals.known
    × (length refusals.known < MAX_REFUSED) × (report ≡ Known 1)
    × (next ≡ record refusals { known = refusals.known ++ row_of from fault (counted now no_refusals) ∷ [] })

-- or among those without a row
abbrev pub CountsAmongOthers : SocketAddr → SealFault → ℕ → RefusalsView → RefusalReport → RefusalsView → Type 0
CountsAmongOthers from fault now refusals report next = HasNoRow from fault refusals.known
    × (length refusals.known ≡ MAX_REFUSED) × (report ≡ report_others (count_due now refusals.others))
    × (next ≡ record refusals { others = counted now refusals.others })

abbrev pub Counts : SocketAddr → SealFault → ℕ → RefusalsView → RefusalReport → RefusalsView → Type 0
Counts from fault now refusals report next = CountsInRow from fault now refusals report next
    ⊎ (CountsInNewRow from fault now refusals report next ⊎ CountsAmongOthers from fault now refusals report next)
