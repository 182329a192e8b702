-- A session and its file handles.
use Rattle.std.specs.Prelude.{ℕ, ◌+◌, Bool, true, false, List, [], ◌∷◌, ◌++◌, length, take, drop, remove, slice_index_or, slice_set, Option, Some, None, position}
use Rattle.std.specs.Str.{bytes_eq}
use Rattle.chaos_file.specs.declared.limits.TheConstants.{MAX_CHUNK}

-- a file handle: its name, its file's path, whether it writes, its bytes, and the place read to
pub record HandleView : Type 0 where
  pub name : List ℕ
  pub path : List ℕ
  pub writes : Bool
  pub bytes : List ℕ
  pub position : ℕ

-- the user's name, where one was given, and the handles in the order of their opening
pub record SessionView : Type 0 where
  pub name : Option (List ℕ)
  pub handles : List HandleView

abbrev pub new_session : SessionView
new_session = record { name = None; handles = [] }

-- ---- one handle

-- a handle that reads holds the file's bytes as they are at its opening
abbrev pub reader : List ℕ → List ℕ → List ℕ → HandleView
reader name path bytes = record { name = name; path = path; writes = false; bytes = bytes; position = 0 }

-- a handle that writes holds no bytes yet
abbrev pub writer : List ℕ → List ℕ → HandleView
writer name path = record { name = name; path = path; writes = true; bytes = []; position = 0 }

-- the bytes that the next READ gives
abbrev pub next_bytes : HandleView → List ℕ
next_bytes h = take MAX_CHUNK (drop h.position h.bytes)

-- moved past those bytes
abbrev pub after_read : HandleView → HandleView
after_read h = record h { position = h.position + length (next_bytes h) }

-- with bytes added
abbrev pub with_bytes : HandleView → List ℕ → HandleView
with_bytes h bytes = record h { bytes = h.bytes ++ bytes }

-- ---- the handles of a session

abbrev pub is_named : List ℕ → HandleView → Bool
is_named name h = bytes_eq name h.name

-- what stands at a place where no handle is
abbrev pub blank_handle : HandleView
blank_handle = record { name = []; path = []; writes = false; bytes = []; position = 0 }

abbrev pub handle_at : List HandleView → ℕ → HandleView
handle_at handles place = slice_index_or handles place blank_handle

abbrev pub handle_with_place : List HandleView → Option ℕ → Option (ℕ × HandleView)
handle_with_place handles None = None
handle_with_place handles (Some place) = Some (place, handle_at handles place)

-- the handle of this name, with its place
abbrev pub handle_named : List ℕ → List HandleView → Option (ℕ × HandleView)
handle_named name handles = handle_with_place handles (position (is_named name) handles)

-- ---- a session changed

abbrev pub with_name : SessionView → List ℕ → SessionView
with_name s name = record s { name = Some name }

abbrev pub with_handle : SessionView → ℕ → HandleView → SessionView
with_handle s place h = record s { handles = slice_set s.handles place h }

abbrev pub without_handle : SessionView → ℕ → SessionView
without_handle s place = record s { handles = remove s.handles place }

abbrev pub with_new_handle : SessionView → HandleView → SessionView
with_new_handle s h = record s { handles = s.handles ++ h ∷ [] }
