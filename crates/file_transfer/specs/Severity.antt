-- How bad what came of files is.
use Rattle.std.specs.Prelude.{ℕ, Bool, true, false, nat_lt, if◌then◌else◌}
use Rattle.file_transfer.specs.declared.severity.Severity.{Severity}
use Rattle.file_transfer.specs.declared.severity.Severity.TheVariants.{Done, Refused, Failed, NoMemory}

-- its place in their order, from well to worst
abbrev pub rank : Severity → ℕ
rank Done = 0
rank Refused = 1
rank Failed = 2
rank NoMemory = 3

-- of two the one that is worse
abbrev pub worse : Severity → Severity → Severity
worse a b = if nat_lt (rank a) (rank b) then b else a

abbrev pub is_done : Severity → Bool
is_done Done = true
is_done Refused = false
is_done Failed = false
is_done NoMemory = false
