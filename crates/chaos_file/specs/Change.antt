-- What a command changed, or why it was refused.
use Rattle.std.specs.Prelude.{◌≡◌, ℕ, List, length, Option, Some, None, IfSome, Result, Ok, Err}
use Rattle.arrayvec.specs.ArrayVec.{ArrayVec}
use Rattle.chaos_file.specs.declared.error.FileError.{FileError}
use Rattle.chaos_file.specs.declared.store.Placed.{Placed}
use Rattle.chaos_file.specs.declared.store.Placed.TheVariants as placed
use Rattle.chaos_file.specs.declared.change.Attempt.{Attempt}
use Rattle.chaos_file.specs.declared.change.Attempt.TheVariants as attempt
use Rattle.chaos_file.specs.declared.change.Change.{Change}
use Rattle.chaos_file.specs.declared.change.Change.TheVariants as change
use Rattle.chaos_file.specs.Command.{CommandView, Login, OpenRead, OpenWrite, Read, Write, Close, Rename, Delete, ParsedView, Good}
use Rattle.chaos_file.specs.Grammar.{parse_of}
use Rattle.chaos_file.specs.Answer.{Answer, reply_to}
use Rattle.chaos_file.specs.Session.{HandleView, SessionView, handle_named, reader, with_new_handle}
use Rattle.chaos_file.specs.Store.{StoreChange, placed_in}
use Rattle.chaos_file.specs.Outcome.{Done}
use Rattle.chaos_file.specs.Plan.{GetFile, PutFile, RenameFile, RemoveFile, Plan, Ask, plan_of}

-- a path in an array of its own
abbrev pub path_in : List ℕ → ArrayVec ℕ
path_in path = record { items = path }

-- ---- what is asked of a file

abbrev pub reading : List ℕ → Attempt
reading path = attempt.Read (path_in path)

abbrev pub writing : List ℕ → Attempt
writing path = attempt.Write (path_in path)

-- of the file of a handle, where the handle is open
abbrev pub attempt_by : (List ℕ → Attempt) → Option (ℕ × HandleView) → Attempt
attempt_by kind None = attempt.Nothing
attempt_by kind (Some found) = kind found.1.path

abbrev pub attempt_in : SessionView → List ℕ → CommandView → Attempt
attempt_in s handle (Login name) = attempt.Nothing
attempt_in s handle (OpenRead path) = reading path
attempt_in s handle (OpenWrite path) = writing path
attempt_in s handle Read = attempt_by reading (handle_named handle s.handles)
attempt_in s handle (Write bytes) = attempt_by writing (handle_named handle s.handles)
attempt_in s handle Close = attempt_by writing (handle_named handle s.handles)
attempt_in s handle (Rename old new) = attempt.Rename (path_in old) (path_in new)
attempt_in s handle (Delete path) = attempt.Delete (path_in path)

abbrev pub attempt_of : SessionView → ParsedView → Attempt
attempt_of s (Good tid handle command) = attempt_in s handle command
attempt_of s _ = attempt.Nothing

-- ---- what is changed

-- a file of so many bytes was put at a path
abbrev pub put_at : List ℕ → ℕ → Placed → Change
put_at path count placed.New = change.Written (path_in path) count
put_at path count placed.Replaced = change.Replaced (path_in path) count

-- What a plan that was carried out changed; `s` and `t` are the session before and after it. A file that was read is
-- what its new handle holds. An honest store says of each put whether a file was replaced. No other plan changes anything.
abbrev pub Makes : StoreChange → Plan → SessionView → SessionView → Option Change → Type 0
Makes store (Ask (GetFile name path)) s t made = (bytes : List ℕ) × (t ≡ with_new_handle s (reader name path bytes))
    × (made ≡ Some (change.Read (path_in path) (length bytes)))
Makes store (Ask (PutFile path bytes u)) s t made = (put : Placed) × IfSome store.before (λ m. put ≡ placed_in m path)
    × (made ≡ Some (put_at path (length bytes) put))
Makes store (Ask (RenameFile old new)) s t made = made ≡ Some (change.Renamed (path_in old) (path_in new))
Makes store (Ask (RemoveFile path)) s t made = made ≡ Some (change.Deleted (path_in path))
Makes store plan s t made = made ≡ None

-- by how the command was answered: a refused command changed nothing, and is reported with what it asked for
abbrev pub MakesBy : Result Answer FileError → StoreChange → SessionView → SessionView → ParsedView → Option Change
    → Type 0
MakesBy (Ok answer) store s t p made = Makes store (plan_of s p) s t made
MakesBy (Err error) store s t p made = made ≡ Some (change.Refused (attempt_of s p) error)

-- A command that took the session from `s` to `t` and has this reply changed this.
abbrev pub IsChange : StoreChange → SessionView → SessionView → List ℕ → List ℕ → Option Change → Type 0
IsChange store s t command reply made = (outcome : Result Answer FileError)
    × (reply ≡ reply_to (parse_of command) outcome) × MakesBy outcome store s t (parse_of command) made

-- ---- the parts of the work

-- a part that was carried out changed this
abbrev pub Reports : StoreChange → Plan → SessionView → SessionView → Option Change → Done → Type 0
Reports store plan s t made (Ok u) = Makes store plan s t made
Reports store plan s t made (Err error) = Unit {0}

-- what is reported of a command whose part ended so, and made this change where it was carried out
abbrev pub reported : SessionView → ParsedView → Option Change → Done → Option Change
reported s p made (Ok u) = made
reported s p made (Err error) = Some (change.Refused (attempt_of s p) error)
