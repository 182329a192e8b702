-- Which local file a path goes to.
use Rattle.std.specs.Prelude.{◌==◌, ◌-◌, ◌++◌, ℕ, Bool, false, List, length, slice_get, Option, None, Some, if◌then◌else◌}
use Rattle.std.specs.Borrow.{Bor}
use Rattle.file_names.specs.declared.destination.Destination.{Destination}
use Rattle.file_names.specs.declared.destination.Destination.TheVariants.{SameName, File, Folder}

-- the path's own name, the name that was given, or the path behind the folder's
abbrev pub local_of : Destination → List ℕ → List ℕ
local_of SameName path = path
local_of (File name) path = name.now
local_of (Folder folder) path = folder.now ++ path

-- a slash (47)
abbrev pub is_slash : Option ℕ → Bool
is_slash None = false
is_slash (Some b) = b == 47

-- a name that ends with a slash is a folder's
abbrev pub is_folder : List ℕ → Bool
is_folder text = is_slash (slice_get text (length text - 1))

-- what the user says: nothing, a folder or a file
abbrev pub destination_of : Option (Bor (List ℕ)) → Destination
destination_of None = SameName
destination_of (Some name) = if is_folder name.now then Folder name else File name
