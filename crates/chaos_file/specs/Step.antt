-- One command of the FILE language: the files, the session and the reply after it.
use Rattle.std.specs.Prelude.{ℕ, if◌then◌else◌, List, length, Result, Ok, Err}
use Rattle.std.specs.FinMap as map
use Rattle.chaos_file.specs.declared.limits.TheConstants.{MAX_FILE}
use Rattle.chaos_file.specs.declared.error.FileError.{FileError}
use Rattle.chaos_file.specs.declared.error.FileError.TheVariants as e
use Rattle.chaos_file.specs.Command.{ParsedView}
use Rattle.chaos_file.specs.Grammar.{parse_of}
use Rattle.chaos_file.specs.Answer.{Answer, Opened, Closed, Renamed, Deleted, reply_to}
use Rattle.chaos_file.specs.Session.{SessionView, reader, with_new_handle}
use Rattle.chaos_file.specs.Store.{Files, Look, Missing, Over, Found, look_for, is_there, with_moved}
use Rattle.chaos_file.specs.Plan.{Request, GetFile, PutFile, RenameFile, RemoveFile, Plan, Refuse, Tell, Grow, Ask, plan_of}

-- what is left by a command that isn't refused
pub record Left : Type 0 where
  pub files : Files
  pub session : SessionView
  pub answer : Answer

-- OPEN READ, by what the look for the file found
abbrev pub outcome_of_look : Files → SessionView → List ℕ → List ℕ → Look → Result Left FileError
outcome_of_look m s name path Missing = Err e.NoSuchFile
outcome_of_look m s name path Over = Err e.FileTooBig
outcome_of_look m s name path (Found bytes) =
    Ok (record { files = m; session = with_new_handle s (reader name path bytes); answer = Opened (length bytes) })

-- what the store decides
abbrev pub outcome_of_request : Files → SessionView → Request → Result Left FileError
outcome_of_request m s (GetFile name path) = outcome_of_look m s name path (look_for m path MAX_FILE)
outcome_of_request m s (PutFile path bytes t) =
    Ok (record { files = map.insert m path bytes; session = t; answer = Closed (length bytes) })
outcome_of_request m s (RenameFile old new) =
    if is_there m old then
    (if is_there m new then Err e.FileExists
    else Ok (record { files = with_moved m old new; session = s; answer = Renamed }))
    else Err e.NoSuchFile
outcome_of_request m s (RemoveFile path) =
    if is_there m path then Ok (record { files = map.remove m path; session = s; answer = Deleted })
    else Err e.NoSuchFile

abbrev pub outcome_of : Files → SessionView → Plan → Result Left FileError
outcome_of m s (Refuse error) = Err error
outcome_of m s (Tell t answer) = Ok (record { files = m; session = t; answer = answer })
outcome_of m s (Grow t answer) = Ok (record { files = m; session = t; answer = answer })
outcome_of m s (Ask request) = outcome_of_request m s request

-- the files, the session and the reply after a command
pub record Stepped : Type 0 where
  pub files : Files
  pub session : SessionView
  pub reply : List ℕ

-- a command that is refused changes nothing
abbrev pub step_of : Files → SessionView → ParsedView → Result Left FileError → Stepped
step_of m s p (Ok l) = record { files = l.files; session = l.session; reply = reply_to p (Ok l.answer) }
step_of m s p (Err error) = record { files = m; session = s; reply = reply_to p (Err error) }

-- one command over these files, in this session
abbrev pub file_step : Files → SessionView → List ℕ → Stepped
file_step m s command = step_of m s (parse_of command) (outcome_of m s (plan_of s (parse_of command)))
