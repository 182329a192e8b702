-- Under which name a copy of a file goes.
use Rattle.std.specs.Prelude.{ℕ, ◌==◌, ◌-◌, ◌&&◌, ◌||◌, ◌∷◌, [], Bool, false, List, length, drop, Option, Some, None, if◌then◌else◌, codes}
use Rattle.std.specs.Str.{bytes_eq}
use Rattle.file_names.specs.declared.destination.Destination.{Destination}
use Rattle.file_names.specs.declared.destination.Destination.TheVariants.{SameName, File, Folder}

-- these bytes are a slash (47) and the path
abbrev pub is_behind_slash : List ℕ → List ℕ → Bool
is_behind_slash [] path = false
is_behind_slash (b ∷ last) path = b == 47 && bytes_eq last path

-- a local file's name is the path, or ends with a slash and the path
abbrev pub is_own : List ℕ → List ℕ → Bool
is_own local path = bytes_eq local path || is_behind_slash (drop (length local - length path - 1) local) path

-- the name of a local file in place of the path's, if the name isn't that of standard output
abbrev pub new_local : Destination → List ℕ → Option (List ℕ)
new_local SameName path = None
new_local (Folder folder) path = None
new_local (File name) path = if bytes_eq name.now (codes "-") || is_own name.now path then None else Some name.now

-- the path of a local file in place of the name's last part, if the file has a path
abbrev pub new_path : List ℕ → Option (List ℕ) → Option (List ℕ)
new_path local None = None
new_path local (Some path) = if is_own local path then None else Some path
