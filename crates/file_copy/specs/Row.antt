-- What is sent in a row.
use Rattle.std.specs.Prelude.{◌≤◌, ℕ, zero, suc, ◌+◌, nat_le, if◌then◌else◌, List, [], codes, length}
use Rattle.std.specs.Fmt.{decimal}
use Rattle.chaos_file.specs.declared.limits.TheConstants.{MAX_PATH}
use Rattle.chaos_file.specs.Command.{CommandView, Login, OpenWrite, Read, Write, Close, Rename, Delete}
use Rattle.chaos_file.specs.Spelling.{spelling_of}
use Rattle.chaos_file.specs.Views.{command_view, CommandFits}
use Rattle.file_copy.specs.declared.row.Row.{Row}
use Rattle.file_copy.specs.declared.row.Commands.{Commands}
use Rattle.file_copy.specs.declared.row.Commands.TheVariants as r
use Rattle.file_copy.specs.Copy.{chunk}

-- the handle of the file that is copied
abbrev pub file_handle : List ℕ
file_handle = codes "F"

-- the commands of a put before its CLOSE: OPEN, and then the file in WRITEs
abbrev pub put_command : List ℕ → List ℕ → ℕ → CommandView
put_command path bytes zero = OpenWrite path
put_command path bytes (suc i) = Write (chunk bytes i)

-- the command at a place of a row
abbrev pub command_at : Commands → ℕ → CommandView
command_at (r.One command) i = command_view command
command_at (r.Put path bytes) i = put_command path.now bytes.now i
command_at (r.Get pieces) i = if nat_le i pieces then Read else Close

-- the commands for a file that is open have its handle
abbrev pub handle_of : CommandView → List ℕ
handle_of (Login name) = []
handle_of (Rename old new) = []
handle_of (Delete path) = []
handle_of command = file_handle

-- names and paths are no longer than they may be
abbrev pub CommandsFit : Commands → Type 0
CommandsFit (r.One command) = CommandFits (command_view command)
CommandsFit (r.Put path bytes) = length path.now ≤ MAX_PATH
CommandsFit (r.Get pieces) = Unit {0}

-- the bytes of a command that is named by this number
abbrev pub request_command : CommandView → ℕ → List ℕ
request_command command tid = spelling_of (decimal tid) (handle_of command) command

abbrev pub row_command : Row → ℕ → List ℕ
row_command row i = request_command (command_at row.commands i) (row.first + i)
