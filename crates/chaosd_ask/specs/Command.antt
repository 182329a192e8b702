-- The command that a line of a script stands for.
use Rattle.std.specs.Prelude.{ℕ, List, length, Option, None, nat_lt, if◌then◌else◌}
use Rattle.std.specs.Io.BufRead.{strip_last}
use Rattle.chaosd_io.specs.Escapes.{data_of}
use Rattle.chaosd_io.specs.BadText.{why_text}
use Rattle.chaosd_io.specs.declared.bad_text.BadText.{BadText}
use Rattle.chaosd_io.specs.declared.limits.TheConstants.{LINE_LIMIT}

-- the bytes of a text that isn't too long
abbrev pub command_of_text : List ℕ → Option (List ℕ)
command_of_text text = if nat_lt LINE_LIMIT (length text) then None else data_of text

-- the bytes of the command that a line stands for, as it stands in the input: a byte 13 at its end is ignored
unfoldable pub command_of : List ℕ → Option (List ℕ)
command_of raw = command_of_text (strip_last 13 raw)

-- what is wrong with a line that stands for no command, as a text that is a whole line
unfoldable pub wrong_command : List ℕ → BadText
wrong_command raw = why_text 0 (strip_last 13 raw)
