-- The files of a line, of which some are the server's and some are local.
use Rattle.std.specs.Prelude.{◌==◌, ◌&&◌, ◌||◌, ◌++◌, ◌∷◌, ℕ, Bool, true, false, not, List, [], Option, None, Some, if◌then◌else◌, codes, length, map, option_map, unwrap_or}
use Rattle.std.specs.List.{find, list_all, list_any}
use Rattle.std.specs.Str.{bytes_eq}
use Rattle.clap.specs.Words.{Text}
use Rattle.chaos_file.specs.Names.{is_path, is_path_byte}
use Rattle.file_names.specs.Destination.{is_folder}
use Rattle.file_names.specs.declared.put_file.PutFile.{PutFile}

-- what stands behind the last slash (47)
abbrev pub last_from : Text → Text → Text
last_from name [] = name
last_from name (b ∷ bytes) = last_from (if b == 47 then [] else name ++ b ∷ []) bytes

abbrev pub last_of : Text → Text
last_of text = last_from [] text

-- a byte that no path has becomes an underscore (95), and so does a dot (46) that would stand in front
abbrev pub path_byte : ℕ → ℕ
path_byte b = if is_path_byte b then b else 95

abbrev pub first_byte : ℕ → ℕ
first_byte b = if b == 46 then 95 else path_byte b

abbrev pub renamed : Text → Text
renamed [] = []
renamed (b ∷ bytes) = first_byte b ∷ map path_byte bytes

abbrev pub name_for : Bool → Text → Text
name_for is_renaming name = if is_renaming then renamed name else name

-- a name is a path's, and is not `-`, which is standard input
abbrev pub taken_as : Text → Text → Option Text
taken_as name path = if is_path path && not (bytes_eq name (codes "-")) then Some path else None

-- the path that a local file goes under: its last name, or what that is renamed to, where FILE takes it
abbrev pub path_for : Bool → Text → Option Text
path_for is_renaming text = taken_as (last_of text) (name_for is_renaming (last_of text))

-- there are two paths, and they are one
abbrev pub is_same_path : Option Text → Option Text → Bool
is_same_path (Some p) (Some q) = bytes_eq p q
is_same_path _ _ = false

-- nothing is the same as a later one
abbrev pub are_apart : {A : Type 0} → (A → A → Bool) → List A → Bool
are_apart same [] = true
are_apart same (t ∷ texts) = not (list_any (λ u. same u t) texts) && are_apart same texts

abbrev pub has_same_name : Text → Text → Bool
has_same_name u t = bytes_eq (last_of u) (last_of t)

abbrev pub goes_same : Bool → Text → Text → Bool
goes_same is_renaming u t = is_same_path (path_for is_renaming u) (path_for is_renaming t)

-- no two have one last name
abbrev pub are_distinct : List Text → Bool
are_distinct texts = are_apart has_same_name texts

abbrev pub are_paths : List Text → Bool
are_paths texts = list_all is_path texts && are_distinct texts

-- the first text whose last name a later one has
abbrev pub first_repeated : List Text → Text
first_repeated [] = []
first_repeated (t ∷ texts) = if list_any (λ u. has_same_name u t) texts then t else first_repeated texts

-- the word that is reported where words are no paths, each once: the first that is no path, else the first that stands there
-- again
abbrev pub bad_path : List Text → Text
bad_path texts = unwrap_or (find (λ t. not (is_path t)) texts) (first_repeated texts)

-- local files: none is standard input, and no two go under one path
abbrev pub is_file : Text → Bool
is_file text = not (bytes_eq text (codes "-"))

abbrev pub are_locals : Bool → List Text → Bool
are_locals is_renaming texts = list_all is_file texts && are_apart (goes_same is_renaming) texts

-- a local file's name is for one file alone, and a folder's for any number
abbrev pub fits_output : Option Text → List Text → Bool
fits_output None texts = true
fits_output (Some name) texts = is_folder name || length texts == 1

-- local files may be put: they go under paths of their own, or one of them under the path that is given
abbrev pub are_named : Bool → Option Text → List Text → Bool
are_named is_renaming None texts = are_locals is_renaming texts
are_named is_renaming (Some path) texts = is_path path && length texts == 1

-- a local file, and the path that it is put under, if there is one
abbrev pub file_view : PutFile → Text × Option Text
file_view file = (file.local.now, option_map (λ p. p.items) file.path)

abbrev pub has_same_path : Text × Option Text → Text × Option Text → Bool
has_same_path f g = is_same_path f.1 g.1

-- local files, each with the path that it goes under
abbrev pub own_files : Bool → List Text → List (Text × Option Text)
own_files is_renaming texts = map (λ t. (t, path_for is_renaming t)) texts

-- the same, or each with the path that is given
abbrev pub files_under : Bool → Option Text → List Text → List (Text × Option Text)
files_under is_renaming None texts = own_files is_renaming texts
files_under is_renaming (Some path) texts = map (λ t. (t, path_for false path)) texts

-- the files of `put`, where they may be put
abbrev pub put_files : Bool → Option Text → List Text → Option (List (Text × Option Text))
put_files is_renaming path texts = if are_named is_renaming path texts then Some (files_under is_renaming path texts) else None
