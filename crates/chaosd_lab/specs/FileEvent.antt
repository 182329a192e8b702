-- The event that a line asks for.
use Rattle.std.specs.Prelude.{ℕ, List, codes, Option, Some, option_map, if◌then◌else◌}
use Rattle.std.specs.Str.{bytes_eq}
use Rattle.file_lab.specs.Events.{FileHappening, At, Serve}
use Rattle.chaosd_lab.specs.Event.{event_of}

-- `serve`, or a line of a laboratory's script
abbrev pub file_line_of : List ℕ → Option FileHappening
file_line_of line = if bytes_eq line (codes "serve") then Some Serve else option_map At (event_of line)
