-- What data are in FILE: a command or a reply, by its parts.
use Rattle.std.specs.Prelude.{ℕ, Bool, true, false, List, [], ◌++◌, length, Option, Some, None, is_some, codes, if◌then◌else◌}
use Rattle.std.specs.Fmt.{decimal}
use Rattle.std.specs.List.{flat_map}
use Rattle.chaos_file.specs.Command.{CommandView, Login, OpenRead, OpenWrite, Read, Write, Close, Rename, Delete, ParsedView, Good}
use Rattle.chaos_file.specs.Answer.{LoggedIn, Opened, Given, AtEnd, Wrote, Closed, Renamed, Deleted}
use Rattle.chaos_file.specs.Reply.{SaidView, Answered, Refused, ReplyView, reading_of}
use Rattle.chaos_file.specs.Grammar.{cut, is_nil, parse_of, space}
use Rattle.chaosd_io.specs.Escapes.{shown_byte}
use Rattle.chaosd_io.specs.Texts.{line}

-- words, and bytes behind them as a text
unfoldable pub with_text : List ℕ → List ℕ → List ℕ
with_text words bytes = words ++ flat_map shown_byte bytes

-- words, and a number behind them
unfoldable pub with_number : List ℕ → ℕ → List ℕ
with_number words n = words ++ decimal n

-- a command's words and parts: of the bytes of a file how many they are
abbrev pub command_said : CommandView → List ℕ
command_said (Login name) = with_text (codes " LOGIN user ") name
command_said (OpenRead path) = with_text (codes " OPEN READ path ") path
command_said (OpenWrite path) = with_text (codes " OPEN WRITE path ") path
command_said Read = codes " READ"
command_said (Write bytes) = with_number (codes " WRITE bytes ") (length bytes)
command_said Close = codes " CLOSE"
command_said (Rename old new) = with_text (codes " RENAME path ") old ++ with_text (codes " new path ") new
command_said (Delete path) = with_text (codes " DELETE path ") path

-- an error has a code where a space ends it, and behind that a text
abbrev pub error_by : List ℕ → Option (List ℕ × List ℕ) → List ℕ
error_by error None = with_text (codes " ERROR text ") error
error_by error (Some p) = with_text (codes " ERROR code ") p.0 ++ with_text (codes " text ") p.1

abbrev pub error_said : List ℕ → List ℕ
error_said error = error_by error (cut space error)

-- a reply's words and parts: of the bytes of a file how many they are
abbrev pub reply_said : SaidView → List ℕ
reply_said (Answered (LoggedIn name)) = with_text (codes " LOGIN user ") name
reply_said (Answered (Opened count)) = with_number (codes " OPEN length ") count
reply_said (Answered (Given bytes)) = with_number (codes " READ bytes ") (length bytes)
reply_said (Answered AtEnd) = codes " EOF"
reply_said (Answered (Wrote count)) = with_number (codes " WRITE length ") count
reply_said (Answered (Closed count)) = with_number (codes " CLOSE length ") count
reply_said (Answered Renamed) = codes " RENAME"
reply_said (Answered Deleted) = codes " DELETE"
reply_said (Refused error) = error_said error

-- the handle, where there is one
abbrev pub handle_said : List ℕ → List ℕ
handle_said handle = if is_nil handle then [] else with_text (codes " handle ") handle

-- words, and behind them the tid and the handle
unfoldable pub names_said : List ℕ → List ℕ → List ℕ → List ℕ
names_said words tid handle = with_text words tid ++ handle_said handle

-- a LOGIN and the reply to a LOGIN have the same bytes
abbrev pub command_words : Bool → List ℕ
command_words true = codes "file command or reply tid "
command_words false = codes "file command tid "

-- the line of a command, whose bytes may also be those of a reply
unfoldable pub command_line : Bool → List ℕ → List ℕ → CommandView → List ℕ
command_line is_reply tid handle command =
    line (names_said (command_words is_reply) tid handle ++ command_said command)

-- the line of a reply, where there is one
unfoldable pub reply_line : Option ReplyView → List ℕ
reply_line None = []
reply_line (Some r) = line (names_said (codes "file reply tid ") r.tid r.handle ++ reply_said r.said)

abbrev pub file_said : ParsedView → Option ReplyView → List ℕ
file_said (Good tid handle command) reply = command_line (is_some reply) tid handle command
file_said _ reply = reply_line reply

-- the line of data that are a command or a reply of FILE; nothing of other data
unfoldable pub file_text : List ℕ → List ℕ
file_text body = file_said (parse_of body) (reading_of body)
