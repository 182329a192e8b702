-- A list of commands, one after the other.
use Rattle.std.specs.Prelude.{◌≡◌, ℕ, List, [], ◌∷◌, Some}
use Rattle.chaos_file.specs.Session.{SessionView, new_session}
use Rattle.chaos_file.specs.Store.{Files, Found, look_for, StoreChange, change}
use Rattle.chaos_file.specs.Step.{file_step}

-- the files after a list of commands
abbrev pub files_after : Files → SessionView → List (List ℕ) → Files
files_after m s [] = m
files_after m s (c ∷ commands) = files_after (file_step m s c).files (file_step m s c).session commands

-- the session after a list of commands
abbrev pub session_after : Files → SessionView → List (List ℕ) → SessionView
session_after m s [] = s
session_after m s (c ∷ commands) = session_after (file_step m s c).files (file_step m s c).session commands

-- the replies to a list of commands in a session, one for each
abbrev pub replies_from : Files → SessionView → List (List ℕ) → List (List ℕ)
replies_from m s [] = []
replies_from m s (c ∷ commands) =
    (file_step m s c).reply ∷ replies_from (file_step m s c).files (file_step m s c).session commands

-- the replies to a list of commands from a new session on
abbrev pub replies_of : Files → List (List ℕ) → List (List ℕ)
replies_of m commands = replies_from m new_session commands

-- how a `MemStore` changed, from these files to those
abbrev pub memory_change : Files → Files → StoreChange
memory_change old new =
    change (λ m. Some m) (λ m path limit bytes. look_for m path limit ≡ Found bytes) (λ m. 0) old new
