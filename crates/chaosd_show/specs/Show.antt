-- The reports of an input.
use Rattle.std.specs.Prelude.{ℕ, ◌+◌, Bool, true, false, List, [], ◌∷◌, Option, length, map, count_by, if◌then◌else◌}
use Rattle.std.specs.Io.KnownBytes.{Appends, Consumes}
use Rattle.std.specs.List.{join_with_byte}
use Rattle.chaosd_show.specs.declared.format.Format.{Format}
use Rattle.chaosd_show.specs.declared.view.View.{View}
use Rattle.chaosd_show.specs.declared.tally.Tally.{Tally}
use Rattle.chaosd_show.specs.Entry.{entry_of, entry_text, is_refusal}
use Rattle.chaosd_io.specs.Lines.{lines_of, ended_lines}

-- the report of a line
abbrev pub line_report : Format → View → List ℕ → List ℕ
line_report format view raw = entry_text view (entry_of format raw)

-- the reports of lines, and an empty line between each two
abbrev pub reports_of : Format → View → List (List ℕ) → List ℕ
reports_of format view lines = join_with_byte 10 (map (line_report format view) lines)

-- what is printed of an input
abbrev pub report_of : Format → View → List ℕ → List ℕ
report_of format view input = reports_of format view (lines_of input)

-- What was written to a writer is the reports of the lines that ended in what was read of an input.
abbrev pub ReportsRead : Format → View → Option (List ℕ) → Option (List ℕ) → Option (List ℕ) → Option (List ℕ) → Type 0
ReportsRead format view input rest old new =
    (read : List ℕ) × Consumes input rest read × Appends old new (reports_of format view (ended_lines read))

-- how many lines there are, and how many of them are reported as refusals
abbrev pub tally_of : Format → List (List ℕ) → Tally
tally_of format lines = record {
  reports = length lines;
  refused = count_by (λ raw. is_refusal (entry_of format raw)) lines;
}

-- what stands in front of a report: an empty line, but not in front of the first
abbrev pub gap : Bool → List ℕ
gap true = []
gap false = 10 ∷ []

-- the tally with one line more
abbrev pub counted : Format → Tally → List ℕ → Tally
counted format tally raw = record {
  reports = tally.reports + 1;
  refused = tally.refused + (if is_refusal (entry_of format raw) then 1 else 0);
}
