-- How each command is spelled, part after part.
use Rattle.std.specs.Prelude.{ℕ, Bool, not, ◌&&◌, nat_le, List, ◌∷◌, ◌++◌, length, codes}
use Rattle.chaos_file.specs.declared.limits.TheConstants.{NL, MAX_TID, MAX_HANDLE, MAX_NAME, MAX_CHUNK}
use Rattle.chaos_file.specs.Names.{is_name, is_path}
use Rattle.chaos_file.specs.Command.{CommandView, Login, OpenRead, OpenWrite, Read, Write, Close, Rename, Delete}
use Rattle.chaos_file.specs.Grammar.{is_nil, space}

-- a word, and what stands behind it
abbrev pub spelling_of_command : CommandView → List ℕ
spelling_of_command (Login name) = codes "LOGIN" ++ space ∷ name
spelling_of_command (OpenRead path) = codes "OPEN" ++ space ∷ (codes "READ" ++ NL ∷ path)
spelling_of_command (OpenWrite path) = codes "OPEN" ++ space ∷ (codes "WRITE" ++ NL ∷ path)
spelling_of_command Read = codes "READ"
spelling_of_command (Write bytes) = codes "WRITE" ++ NL ∷ bytes
spelling_of_command Close = codes "CLOSE"
spelling_of_command (Rename old new) = codes "RENAME" ++ NL ∷ (old ++ NL ∷ new)
spelling_of_command (Delete path) = codes "DELETE" ++ NL ∷ path

-- tid SP handle SP word rest
abbrev pub spelling_of : List ℕ → List ℕ → CommandView → List ℕ
spelling_of tid handle command = tid ++ space ∷ (handle ++ space ∷ spelling_of_command command)

-- the parts of a command are legal; `bare`: its handle is empty
abbrev pub is_legal : Bool → CommandView → Bool
is_legal bare (Login name) = bare && is_name 1 MAX_NAME name
is_legal bare (OpenRead path) = not bare && is_path path
is_legal bare (OpenWrite path) = not bare && is_path path
is_legal bare Read = not bare
is_legal bare (Write bytes) = not bare && nat_le (length bytes) MAX_CHUNK
is_legal bare Close = not bare
is_legal bare (Rename old new) = bare && (is_path old && is_path new)
is_legal bare (Delete path) = bare && is_path path

-- the names and the parts of a command are legal
abbrev pub is_good : List ℕ → List ℕ → CommandView → Bool
is_good tid handle command = is_name 1 MAX_TID tid && (is_name 0 MAX_HANDLE handle && is_legal (is_nil handle) command)
