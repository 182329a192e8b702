-- What a line asks of a server's files, and what it means that the server did it.
use Rattle.std.specs.Prelude.{◌≡◌, ℕ, List, [], ◌∷◌}
use Rattle.std.specs.Borrow.{Bor}
use Rattle.file_copy.specs.Operation.{Operation}
use Rattle.file_copy.specs.Talk.{History}
use Rattle.file_names.specs.declared.put_file.PutFile.{PutFile}
use Rattle.file_transfer.specs.Sessions.{DoesAll, ForEach, IsDelete, IsGet, IsPut, rename_of}

-- What a line asks of a server's files.
pub data Job : Type 0 where
  Gets : (paths : List (Bor (List ℕ))) → Job
  Puts : (files : List PutFile) → Job
  Deletes : (paths : List (Bor (List ℕ))) → Job
  Renames : (old new : List ℕ) → Job

-- These operations are the job: for each file one operation, in the order of the line.
abbrev pub IsJob : Job → List Operation → Type 0
IsJob (Gets paths) operations = ForEach IsGet paths operations
IsJob (Puts files) operations = ForEach IsPut files operations
IsJob (Deletes paths) operations = ForEach IsDelete paths operations
IsJob (Renames old new) operations = operations ≡ rename_of old new ∷ []

-- The user did the whole job in one session, from the first state on, and did nothing else. For each operation exactly its commands
-- were sent, and exactly the replies that report success were received.
abbrev pub JobDone : {T : Type 0} → (T → History T) → (T → T → Type 0) → List ℕ → Job → T → T → Type 0
JobDone talked connects user job start now =
    (operations : List Operation) × IsJob job operations × DoesAll talked connects user start operations now
