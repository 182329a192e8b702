-- Transactions: commands and their replies, of many connections, one after another over the same files.
--
--    history               c2: LOGIN     c1: OPEN     c2: OPEN     c1: READ     c3: DELETE
--    files            m0             m0           m0           m0           m0            m1
--    session of c1    new           new          s1           s1           s2            s2
--    session of c2    new           t1           t1           t2           t2            t2
use Rattle.std.specs.Prelude.{◌≡◌, ℕ, if◌then◌else◌, List, [], ◌∷◌, Err, ⊤}
use Rattle.chaos_file.specs.declared.error.FileError.TheVariants as e
use Rattle.chaos_file.specs.Grammar.{parse_of}
use Rattle.chaos_file.specs.Answer.{reply_to}
use Rattle.chaos_file.specs.Session.{SessionView, new_session}
use Rattle.chaos_file.specs.Store.{Files}
use Rattle.chaos_file.specs.Plan.{plan_of}
use Rattle.chaos_file.specs.Step.{file_step}
use Rattle.chaos_file.specs.Apply.{AsksStore, MayGrow}
use Rattle.chaos_net.specs.Net.{Name, is_name}

-- ---- one command

-- How a command went: as FILE's definition says; or there was no memory for the command; or the store failed.
pub data Way : Type 0 where
  AsDefined NoMemory StoreFault : Way

-- Only some commands need memory, and only some commands ask the store.
abbrev pub MayGo : SessionView → List ℕ → Way → Type 0
MayGo s command AsDefined = ⊤
MayGo s command NoMemory = MayGrow (plan_of s (parse_of command))
MayGo s command StoreFault = AsksStore (plan_of s (parse_of command))

abbrev pub reply_by : Files → SessionView → List ℕ → Way → List ℕ
reply_by m s command AsDefined = (file_step m s command).reply
reply_by m s command NoMemory = reply_to (parse_of command) (Err e.NoMemory)
reply_by m s command StoreFault = reply_to (parse_of command) (Err e.StoreFault)

-- if a command fails in this way, then nothing changes
abbrev pub files_by : Files → SessionView → List ℕ → Way → Files
files_by m s command AsDefined = (file_step m s command).files
files_by m s command _ = m

abbrev pub session_by : Files → SessionView → List ℕ → Way → SessionView
session_by m s command AsDefined = (file_step m s command).session
session_by m s command _ = s

-- ---- a history

-- a command, the connection that sent it, how the command went, and the reply
pub record Transaction : Type 0 where
  pub by : Name
  pub command : List ℕ
  pub way : Way
  pub reply : List ℕ

-- the files, and the session of each connection
pub record Service : Type 0 where
  pub files : Files
  pub session : Name → SessionView

-- the server has served nothing, and each connection's session is new
abbrev pub new_service : Files → Service
new_service m = record { files = m; session = λ _. new_session }

abbrev pub with_session : (Name → SessionView) → Name → SessionView → Name → SessionView
with_session sessions name session one = if is_name one name then session else sessions one

-- the files after a transaction, and the sessions: only the session of the transaction's own connection changes
abbrev pub after_one : Service → Transaction → Service
after_one v t = record {
  files = files_by v.files (v.session t.by) t.command t.way;
  session = with_session v.session t.by (session_by v.files (v.session t.by) t.command t.way);
}

abbrev pub after_all : Service → List Transaction → Service
after_all v [] = v
after_all v (t ∷ history) = after_all (after_one v t) history

-- the reply is the right reply
pub record IsRight (v : Service) (t : Transaction) : Type 0 where
  pub may : MayGo (v.session t.by) t.command t.way
  pub reply : t.reply ≡ reply_by v.files (v.session t.by) t.command t.way

-- each reply is the right reply at that point of the history
abbrev pub AreRight : Service → List Transaction → Type 0
AreRight v [] = ⊤
AreRight v (t ∷ history) = IsRight v t × AreRight (after_one v t) history

-- ---- one connection's part of the history

abbrev pub commands_by : Name → List Transaction → List (List ℕ)
commands_by c [] = []
commands_by c (t ∷ history) = if is_name t.by c then t.command ∷ commands_by c history else commands_by c history

abbrev pub replies_to : Name → List Transaction → List (List ℕ)
replies_to c [] = []
replies_to c (t ∷ history) = if is_name t.by c then t.reply ∷ replies_to c history else replies_to c history
