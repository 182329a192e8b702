-- A command that is typed without its tid.
use Rattle.std.specs.Prelude.{ℕ, ◌+◌, Bool, true, false, ◌&&◌, nat_le, if◌then◌else◌, List, [], ◌++◌, length, codes, Option, Some, None}
use Rattle.std.specs.Fmt.{decimal}
use Rattle.std.specs.Str.{bytes_eq}
use Rattle.chaos_file.specs.Command.{ParsedView, BadHead, NoWord, Unknown, BadForm, BadPath, Good}
use Rattle.chaos_file.specs.Grammar.{parse_of}
use Rattle.chaosd_ask.specs.declared.typed.NoCommand.{NoCommand}
use Rattle.chaosd_ask.specs.declared.typed.NoCommand.TheVariants.{LoginHandle, Other}

-- what was read is a command of FILE, though its paths may be illegal
abbrev pub is_command : ParsedView → Bool
is_command BadHead = false
is_command (NoWord tid handle) = false
is_command (Unknown tid handle) = false
is_command (BadForm tid handle word) = false
is_command (BadPath tid handle word) = true
is_command (Good tid handle command) = true

abbrev pub is_formed : List ℕ → Bool
is_formed bytes = is_command (parse_of bytes)

-- why what was read is no command of FILE, if it is none: LOGIN is its handle, or another reason
abbrev pub why_by_handle : List ℕ → NoCommand
why_by_handle handle = if bytes_eq handle (codes "LOGIN") then LoginHandle else Other

abbrev pub why_no_command : ParsedView → Option NoCommand
why_no_command BadHead = Some Other
why_no_command (NoWord tid handle) = Some (why_by_handle handle)
why_no_command (Unknown tid handle) = Some (why_by_handle handle)
why_no_command (BadForm tid handle word) = Some (why_by_handle handle)
why_no_command (BadPath tid handle word) = None
why_no_command (Good tid handle command) = None

abbrev pub no_command : List ℕ → Option NoCommand
no_command bytes = why_no_command (parse_of bytes)

-- a command that isn't too long is one of FILE behind this front
abbrev pub is_formed_behind : List ℕ → List ℕ → Bool
is_formed_behind front command = nat_le (length front + length command) 512 && is_formed (front ++ command)

-- the tid of a number
abbrev pub tid_of : ℕ → List ℕ
tid_of number = codes "T" ++ decimal number

-- what is missing in front of a command: the tid, or the tid and an empty handle, or nothing
abbrev pub front_of : List ℕ → ℕ → List ℕ
front_of command number =
    if is_formed_behind (codes "T ") command then tid_of number ++ codes " "
    else (if is_formed_behind (codes "T  ") command then tid_of number ++ codes "  " else [])
