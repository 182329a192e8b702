-- Files as a list of entries.
use Rattle.std.specs.Prelude.{ℕ, Bool, not, List, [], filter, slice_index_or, slice_set}
use Rattle.std.specs.Str.{bytes_eq}
use Rattle.std.specs.FinMap as map
use Rattle.chaos_file.specs.Store.{Files}

-- a path and the bytes of its file
abbrev pub Entry : Type 0
Entry = List ℕ × List ℕ

abbrev pub is_at : List ℕ → Entry → Bool
is_at path e = bytes_eq path e.0

-- the files of the entries: the first entry of a path counts
unfoldable pub files_of : List Entry → Files
files_of entries = map.from_entries entries

-- the entries of all other paths
abbrev pub others : List ℕ → List Entry → List Entry
others path entries = filter (λ e. not (is_at path e)) entries

abbrev pub entry_at : List Entry → ℕ → Entry
entry_at entries place = slice_index_or entries place ([], [])

-- the entries with the one at a place at another path
abbrev pub with_path : List Entry → ℕ → List ℕ → List Entry
with_path entries place path = slice_set entries place (path, (entry_at entries place).1)
