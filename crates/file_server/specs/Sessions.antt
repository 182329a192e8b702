-- The sessions of a host's slots.
use Rattle.std.specs.Prelude.{◌≡◌, ℕ, ◌==◌, Bool, true, false, if◌then◌else◌, List, [], Option, Some, None, slice_index_or}
use Rattle.chaos_file.specs.Session.{SessionView, new_session}
use Rattle.chaos_file.specs.declared.served.Served.{Served}
use Rattle.chaos_file.specs.declared.served.Served.TheVariants as told

-- a slot's session: the connection that it serves, whether that one's EOF was served, and the moment at which it was
-- served first
pub record Serving : Type 0 where
  pub id : Option ℕ
  pub session : SessionView
  pub eof : Bool
  pub since : ℕ

abbrev pub new_serving : Serving
new_serving = record { id = None; session = new_session; eof = false; since = 0 }

-- a new session for a connection, from a moment on
abbrev pub first_serving : ℕ → ℕ → Serving
first_serving id now = record new_serving { id = Some id; since = now }

-- the session for a connection: the one kept for it, else a new one
abbrev pub serving_by : ℕ → ℕ → Serving → Option ℕ → Serving
serving_by id now serving None = first_serving id now
serving_by id now serving (Some kept) = if kept == id then serving else first_serving id now

abbrev pub serving_of : ℕ → ℕ → Serving → Serving
serving_of id now serving = serving_by id now serving serving.id

-- an EOF was served, now or before
abbrev pub eof_after : Bool → Served → Bool
eof_after eof told.Eof = true
eof_after eof _ = eof

-- its open files are given back, and the user's name stays
abbrev pub without_files : Serving → Serving
without_files serving = record serving { session = record serving.session { handles = [] } }

-- No files are open.
abbrev pub HasNoFiles : Serving → Type 0
HasNoFiles serving = without_files serving ≡ serving

-- the session of a slot
abbrev pub serving_at : List Serving → ℕ → Serving
serving_at sessions place = slice_index_or sessions place new_serving
