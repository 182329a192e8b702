-- What holds of every laboratory whose B serves FILE.
use Rattle.std.specs.Prelude.{◌≡◌, false}
use Rattle.std.specs.FinMap as map
use Rattle.std.specs.Coded.{Coded, coded_list, coded_ℕ}
use Rattle.chaos_file.specs.Store.{Files}
use Rattle.chaos_file.specs.Session.{new_session}
use Rattle.chaos_file.specs.Replies.{replies_of, files_after, session_after}
use Rattle.file_lab.specs.declared.file_lab.FileLab.TheInside.{Inside}
use Rattle.file_lab.specs.View.{FileLabView, commands_at_b, replies_of_b, wrote_mem}

abbrev pub file_view : Inside → FileLabView
file_view s = record { lab = s.lab; session = s.server.session; files = s.server.store }

-- how files are told apart
abbrev pub files_code : Coded Files
files_code = map.code (coded_list coded_ℕ) (coded_list coded_ℕ)

-- the commands that B read were answered by the definition of the language, over no files at first
pub record AreAnswered (l : FileLabView) : Type 0 where
  pub replies : replies_of_b l ≡ replies_of map.empty (commands_at_b l)
  pub session : l.session ≡ session_after map.empty new_session (commands_at_b l)
  pub files : l.files ≡ files_after map.empty new_session (commands_at_b l)

abbrev pub IsServed : FileLabView → Type 0
IsServed l = wrote_mem l ≡ false → AreAnswered l

-- and B's out-of-memory replies are known
pub record IsSound (s : Inside) : Type 0 where
  pub served : IsServed (file_view s)
  pub flag : s.wanted ≡ wrote_mem (file_view s)
