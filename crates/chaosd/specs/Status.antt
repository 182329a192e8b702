-- The exit statuses of a program that was not asked for a run.
use Rattle.std.specs.Prelude.{ℕ, Bool, false}
use Rattle.chaosd_line.specs.declared.fault.LineFault.{LineFault}
use Rattle.chaosd_line.specs.declared.fault.LineFault.TheVariants.{BadLine, Help}
use Rattle.chaosd_line.specs.declared.fault.LineFault.TheVariants as line
use Rattle.chaosd.specs.declared.words.WordsFault.{WordsFault}
use Rattle.chaosd.specs.declared.words.WordsFault.TheVariants.{NotText, NoMemory}

-- the number of a fault of the line: help or the version was shown, the line is bad, or memory ran out
abbrev pub line_status : LineFault → ℕ
line_status Help = 0
line_status line.BadLine = 2
line_status line.NoMemory = 4

-- words that cannot be had end the program as the line's own faults do
abbrev pub words_status : WordsFault → ℕ
words_status (NotText place) = line_status line.BadLine
words_status NoMemory = line_status line.NoMemory

-- help that cannot be written is a fault, and every other refusal ends by its own status
abbrev pub refused_status_of : LineFault → Bool → ℕ
refused_status_of Help false = 1
refused_status_of fault _ = line_status fault
