-- The first line, which says what both ends are.
use Rattle.std.specs.Prelude.{ℕ, List, codes, Option, option_map}
use Rattle.std.specs.FinMap as files
use Rattle.chaos_lab.specs.Laboratory.{start_for}
use Rattle.chaos_file.specs.Session.{new_session}
use Rattle.file_lab.specs.View.{FileLabView}
use Rattle.chaosd_lab.specs.declared.start.Start.{Start}
use Rattle.chaosd_lab.specs.Start.{start_of}

-- A has asked for FILE; B has a new session, and no files
abbrev pub file_start : Start → FileLabView
file_start s = record { lab = start_for (codes "FILE") s.a s.b s.start; session = new_session; files = files.empty }

-- the laboratory of the line `ends SA RA SB RB N`, where it is of that form
abbrev pub first_of : List ℕ → Option FileLabView
first_of line = option_map file_start (start_of line)
