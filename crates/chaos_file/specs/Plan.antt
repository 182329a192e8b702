-- What a command comes to before the store is asked: the checks in their order, by the session and the command alone.
use Rattle.std.specs.Prelude.{ℕ, ◌+◌, Bool, true, false, ◌||◌, nat_lt, if◌then◌else◌, List, length, Option, Some, None, is_some}
use Rattle.chaos_file.specs.declared.limits.TheConstants.{MAX_FILE, MAX_HANDLES}
use Rattle.chaos_file.specs.declared.command.Word.{Word}
use Rattle.chaos_file.specs.declared.command.Word.TheVariants as w
use Rattle.chaos_file.specs.declared.error.FileError.{FileError}
use Rattle.chaos_file.specs.declared.error.FileError.TheVariants as e
use Rattle.chaos_file.specs.Command.{CommandView, Login, OpenRead, OpenWrite, Read, Write, Close, Rename, Delete, ParsedView, BadHead, NoWord, Unknown, BadForm, BadPath, Good, word_said}
use Rattle.chaos_file.specs.Answer.{Answer, LoggedIn, Opened, Wrote, Closed, read_answer}
use Rattle.chaos_file.specs.Session.{HandleView, SessionView, writer, next_bytes, after_read, with_bytes, handle_named, with_name, with_handle, without_handle, with_new_handle}

-- what is asked of the store
pub data Request : Type 0 where
  -- the file of a path, for a new handle of this name
  GetFile : (name path : List ℕ) → Request
  -- bytes to be a path's whole content; done, the session is this
  PutFile : (path bytes : List ℕ) (session : SessionView) → Request
  RenameFile : (old new : List ℕ) → Request
  RemoveFile : (path : List ℕ) → Request

pub data Plan : Type 0 where
  -- refused
  Refuse : (error : FileError) → Plan
  -- answered from the session, without memory
  Tell : (session : SessionView) (answer : Answer) → Plan
  -- answered from the session, where there is memory
  Grow : (session : SessionView) (answer : Answer) → Plan
  -- left to the store
  Ask : (request : Request) → Plan

-- READ: no such handle, or one that writes
abbrev pub plan_read : SessionView → Option (ℕ × HandleView) → Plan
plan_read s None = Refuse e.NoSuchHandle
plan_read s (Some f) =
    if f.1.writes then Refuse e.WrongKind
    else Tell (with_handle s f.0 (after_read f.1)) (read_answer (next_bytes f.1))

-- WRITE: no such handle, or one that reads, or a file too big
abbrev pub plan_write : List ℕ → SessionView → Option (ℕ × HandleView) → Plan
plan_write bytes s None = Refuse e.NoSuchHandle
plan_write bytes s (Some f) =
    if f.1.writes then
    (if nat_lt MAX_FILE (length f.1.bytes + length bytes) then Refuse e.FileTooBig
    else Grow (with_handle s f.0 (with_bytes f.1 bytes)) (Wrote (length f.1.bytes + length bytes)))
    else Refuse e.WrongKind

-- CLOSE: the bytes of a handle that writes are put into the store, and the handle is gone
abbrev pub plan_close : SessionView → Option (ℕ × HandleView) → Plan
plan_close s None = Refuse e.NoSuchHandle
plan_close s (Some f) =
    if f.1.writes then Ask (PutFile f.1.path f.1.bytes (without_handle s f.0))
    else Tell (without_handle s f.0) (Closed (length f.1.bytes))

-- why no handle of a name may be opened: it is open, or too many are
abbrev pub open_error : SessionView → Option (ℕ × HandleView) → Option FileError
open_error s (Some f) = Some e.HandleInUse
open_error s None = if nat_lt (length s.handles) MAX_HANDLES then None else Some e.TooManyHandles

abbrev pub plan_unless : Option FileError → Plan → Plan
plan_unless None plan = plan
plan_unless (Some error) plan = Refuse error

abbrev pub plan_open : SessionView → List ℕ → Plan → Plan
plan_open s handle plan = plan_unless (open_error s (handle_named handle s.handles)) plan

-- a command of the right form, by a user who may give it
abbrev pub plan_command : SessionView → List ℕ → CommandView → Plan
plan_command s handle (Login name) = Tell (with_name s name) (LoggedIn name)
plan_command s handle (OpenRead path) = plan_open s handle (Ask (GetFile handle path))
plan_command s handle (OpenWrite path) = plan_open s handle (Tell (with_new_handle s (writer handle path)) (Opened 0))
plan_command s handle Read = plan_read s (handle_named handle s.handles)
plan_command s handle (Write bytes) = plan_write bytes s (handle_named handle s.handles)
plan_command s handle Close = plan_close s (handle_named handle s.handles)
plan_command s handle (Rename old new) = Ask (RenameFile old new)
plan_command s handle (Delete path) = Ask (RemoveFile path)

abbrev pub is_login : Word → Bool
is_login w.Login = true
is_login _ = false

-- every word but LOGIN wants a user who has given a name
abbrev pub may_say : SessionView → Word → Bool
may_say s word = is_login word || is_some s.name

abbrev pub if_known : SessionView → Word → Plan → Plan
if_known s word plan = if may_say s word then plan else Refuse e.NotLoggedIn

-- the checks in their order: head and word, the word known, the user known, form, paths, and then the command's own
abbrev pub plan_of : SessionView → ParsedView → Plan
plan_of s BadHead = Refuse e.Syntax
plan_of s (NoWord tid handle) = Refuse e.Syntax
plan_of s (Unknown tid handle) = Refuse e.UnknownCommand
plan_of s (BadForm tid handle word) = if_known s word (Refuse e.Syntax)
plan_of s (BadPath tid handle word) = if_known s word (Refuse e.IllegalPath)
plan_of s (Good tid handle command) = if_known s (word_said command) (plan_command s handle command)
