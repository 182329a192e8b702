-- What contracts see of a laboratory whose B serves FILE.
use Rattle.std.specs.Prelude.{ℕ, Bool, List}
use Rattle.std.specs.List.{list_any}
use Rattle.chaos_file.specs.Session.{SessionView}
use Rattle.chaos_file.specs.Store.{Files}
use Rattle.chaos_file.specs.Want.{is_want}
use Rattle.chaos_lab.specs.Laboratory.{LabView}
use Rattle.file_lab.specs.Bodies.{data_bodies}

-- the laboratory, and B's session and files
pub record FileLabView : Type 0 where
  pub lab : LabView
  pub session : SessionView
  pub files : Files

-- the commands: the bodies of the data items that A wrote
abbrev pub commands_of : FileLabView → List (List ℕ)
commands_of l = data_bodies l.lab.a.written

-- the replies that A's user has read
abbrev pub replies_to_a : FileLabView → List (List ℕ)
replies_to_a l = data_bodies l.lab.a.read

-- the commands that B's server has read, and the replies that it wrote
abbrev pub commands_at_b : FileLabView → List (List ℕ)
commands_at_b l = data_bodies l.lab.b.read

abbrev pub replies_of_b : FileLabView → List (List ℕ)
replies_of_b l = data_bodies l.lab.b.written

-- B wrote an out-of-memory reply
abbrev pub wrote_mem : FileLabView → Bool
wrote_mem l = list_any is_want (replies_of_b l)
