-- The plain values that the command types stand for, and how long their parts are.
use Rattle.std.specs.Prelude.{ℕ, List, ◌≤◌, length}
use Rattle.chaos_file.specs.declared.limits.TheConstants.{MAX_TID, MAX_HANDLE, MAX_NAME, MAX_PATH, MAX_CHUNK}
use Rattle.chaos_file.specs.declared.command.Command.{Command}
use Rattle.chaos_file.specs.declared.command.Command.TheVariants as c
use Rattle.chaos_file.specs.declared.command.Parsed.{Parsed}
use Rattle.chaos_file.specs.declared.command.Parsed.TheVariants as p
use Rattle.chaos_file.specs.declared.form.Form.{Form}
use Rattle.chaos_file.specs.declared.form.Form.TheVariants as f
use Rattle.chaos_file.specs.declared.parse.Front.{Front}
use Rattle.chaos_file.specs.Command.{CommandView, Login, OpenRead, OpenWrite, Read, Write, Close, Rename, Delete, FormView, Malformed, IllegalPath, Formed, ParsedView, BadHead, NoWord, Unknown, BadForm, BadPath, Good, tid_of, handle_of}
use Rattle.chaos_file.specs.Grammar.{Head}

abbrev pub command_view : Command → CommandView
command_view (c.Login name) = Login name.now
command_view (c.OpenRead path) = OpenRead path.now
command_view (c.OpenWrite path) = OpenWrite path.now
command_view c.Read = Read
command_view (c.Write bytes) = Write bytes.now
command_view c.Close = Close
command_view (c.Rename old new) = Rename old.now new.now
command_view (c.Delete path) = Delete path.now

abbrev pub form_view : Form → FormView
form_view f.Malformed = Malformed
form_view f.IllegalPath = IllegalPath
form_view (f.Formed command) = Formed (command_view command)

abbrev pub parsed_view : Parsed → ParsedView
parsed_view p.BadHead = BadHead
parsed_view (p.NoWord tid handle) = NoWord tid.now handle.now
parsed_view (p.Unknown tid handle) = Unknown tid.now handle.now
parsed_view (p.BadForm tid handle word) = BadForm tid.now handle.now word
parsed_view (p.BadPath tid handle word) = BadPath tid.now handle.now word
parsed_view (p.Good tid handle command) = Good tid.now handle.now (command_view command)

abbrev pub front_view : Front → Head
front_view f = record { tid = f.tid.now; handle = f.handle.now; tail = f.tail.now }

-- ---- lengths

-- the command's parts are no longer than they may be
abbrev pub CommandFits : CommandView → Type 0
CommandFits (Login name) = length name ≤ MAX_NAME
CommandFits (OpenRead path) = length path ≤ MAX_PATH
CommandFits (OpenWrite path) = length path ≤ MAX_PATH
CommandFits Read = Unit {0}
CommandFits (Write bytes) = length bytes ≤ MAX_CHUNK
CommandFits Close = Unit {0}
CommandFits (Rename old new) = (length old ≤ MAX_PATH) × (length new ≤ MAX_PATH)
CommandFits (Delete path) = length path ≤ MAX_PATH

abbrev pub FormFits : FormView → Type 0
FormFits Malformed = Unit {0}
FormFits IllegalPath = Unit {0}
FormFits (Formed command) = CommandFits command

-- the two names are no longer than they may be
abbrev pub NamesFit : List ℕ → List ℕ → Type 0
NamesFit tid handle = (length tid ≤ MAX_TID) × (length handle ≤ MAX_HANDLE)

abbrev pub GoodFits : ParsedView → Type 0
GoodFits (Good tid handle command) = CommandFits command
GoodFits _ = Unit {0}

-- the parts that were read are no longer than they may be
abbrev pub ParsedFits : ParsedView → Type 0
ParsedFits p = NamesFit (tid_of p) (handle_of p) × GoodFits p
