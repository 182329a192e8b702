-- What a user has a FILE server do with its files: the commands of each operation, and the replies that report success.
use Rattle.std.specs.Prelude.{◌≡◌, ◌+◌, ℕ, true, List, [], ◌∷◌, ◌++◌, length, ⊤}
use Rattle.std.specs.Fmt.{decimal}
use Rattle.chaos_file.specs.declared.limits.TheConstants.{MAX_TID}
use Rattle.chaos_file.specs.Names.{is_name, is_path}
use Rattle.file_copy.specs.Copy.{Tids, CanCopy, chunk_count, put_commands, put_replies, get_commands, get_replies}
use Rattle.file_copy.specs.Ends.{delete_command, delete_reply, rename_command, rename_reply}

-- A file is put or got whole, by commands with these transaction ids and this handle. A file is deleted or renamed by one command
-- with this transaction id.
pub data Operation : Type 0 where
  Put : (tid : Tids) → (handle path bytes : List ℕ) → Operation
  Get : (tid : Tids) → (handle path bytes : List ℕ) → Operation
  Delete : (tid : ℕ) → (path : List ℕ) → Operation
  Rename : (tid : ℕ) → (old new : List ℕ) → Operation

abbrev pub commands_of : Operation → List (List ℕ)
commands_of (Put tid handle path bytes) = put_commands tid handle path bytes
commands_of (Get tid handle path bytes) = get_commands tid handle path (length bytes)
commands_of (Delete tid path) = delete_command tid path ∷ []
commands_of (Rename tid old new) = rename_command tid old new ∷ []

-- the replies that report success
abbrev pub replies_of : Operation → List (List ℕ)
replies_of (Put tid handle path bytes) = put_replies tid handle bytes
replies_of (Get tid handle path bytes) = get_replies tid handle bytes
replies_of (Delete tid path) = delete_reply tid ∷ []
replies_of (Rename tid old new) = rename_reply tid ∷ []

-- Transaction ids, handle and paths are legal, and the file isn't too big.
abbrev pub CanDo : Operation → Type 0
CanDo (Put tid handle path bytes) = CanCopy tid (2 + chunk_count (length bytes)) handle path bytes
CanDo (Get tid handle path bytes) = CanCopy tid (3 + chunk_count (length bytes)) handle path bytes
CanDo (Delete tid path) = (is_name 1 MAX_TID (decimal tid) ≡ true) × (is_path path ≡ true)
CanDo (Rename tid old new) = (is_name 1 MAX_TID (decimal tid) ≡ true) × (is_path old ≡ true) × (is_path new ≡ true)

-- ---- operations, one after another

abbrev pub all_commands : List Operation → List (List ℕ)
all_commands [] = []
all_commands (operation ∷ operations) = commands_of operation ++ all_commands operations

abbrev pub all_replies : List Operation → List (List ℕ)
all_replies [] = []
all_replies (operation ∷ operations) = replies_of operation ++ all_replies operations

abbrev pub CanDoAll : List Operation → Type 0
CanDoAll [] = ⊤
CanDoAll (operation ∷ operations) = CanDo operation × CanDoAll operations
