-- What `Session::apply` promises of a whole command and its one reply. `s` and `t` are the session before and after it.
use Rattle.std.specs.Prelude.{◌≡◌, ◌⊎◌, ℕ, List, length, Some, IfSome, Ok, Err}
use Rattle.chaos_file.specs.declared.error.FileError.{FileError}
use Rattle.chaos_file.specs.declared.error.FileError.TheVariants as e
use Rattle.chaos_file.specs.Command.{ParsedView}
use Rattle.chaos_file.specs.Grammar.{parse_of}
use Rattle.chaos_file.specs.Answer.{Opened, Closed, Renamed, Deleted, reply_to}
use Rattle.chaos_file.specs.Session.{SessionView, reader, with_new_handle}
use Rattle.chaos_file.specs.Store.{Files, StoreChange}
use Rattle.chaos_file.specs.Plan.{Request, GetFile, PutFile, RenameFile, RemoveFile, Plan, Refuse, Tell, Grow, Ask, plan_of}
use Rattle.chaos_file.specs.Step.{Stepped, file_step}
use Rattle.chaos_file.specs.Outcome.{MayFail}

-- ---- over an honest store that keeps the files `m`

-- the reply, the session and the files are those of the step
abbrev pub IsStep : StoreChange → Stepped → List ℕ → SessionView → Type 0
IsStep store step reply t = (reply ≡ step.reply) × (t ≡ step.session) × (store.after ≡ Some step.files)

-- the plan asks the store
abbrev pub AsksStore : Plan → Type 0
AsksStore (Ask request) = Unit {0}
AsksStore _ = ⊥

-- the plan may take memory
abbrev pub MayGrow : Plan → Type 0
MayGrow (Grow u answer) = Unit {0}
MayGrow (Ask request) = Unit {0}
MayGrow _ = ⊥

-- neither the session nor the files changed
abbrev pub IsKept : StoreChange → Files → SessionView → SessionView → Type 0
IsKept store m s t = (t ≡ s) × (store.after ≡ Some m)

-- a store fault: the store's count of failures rose, and nothing changed
abbrev pub IsFault : StoreChange → Files → SessionView → SessionView → ParsedView → List ℕ → Type 0
IsFault store m s t p reply =
    store.rose × AsksStore (plan_of s p) × (reply ≡ reply_to p (Err e.StoreFault)) × IsKept store m s t

-- out of memory, at a command that may take some, and nothing changed
abbrev pub IsWant : StoreChange → Files → SessionView → SessionView → ParsedView → List ℕ → Type 0
IsWant store m s t p reply = MayGrow (plan_of s p) × (reply ≡ reply_to p (Err e.NoMemory)) × IsKept store m s t

-- the step of the definition, or a store fault, or out of memory
abbrev pub Applies : StoreChange → Files → SessionView → SessionView → List ℕ → List ℕ → Type 0
Applies store m s t command reply =
    IsStep store (file_step m s command) reply t
    ⊎ (IsFault store m s t (parse_of command) reply ⊎ IsWant store m s t (parse_of command) reply)

-- ---- over any store

-- the reply and the session where the store has done as asked: a handle that reads holds bytes such as its `get` may
-- give
abbrev pub IsServed : StoreChange → Request → ParsedView → List ℕ → SessionView → SessionView → Type 0
IsServed store (GetFile name path) p reply s t =
    (bytes : List ℕ) × store.may_give path bytes × (reply ≡ reply_to p (Ok (Opened (length bytes))))
    × (t ≡ with_new_handle s (reader name path bytes))
IsServed store (PutFile path bytes u) p reply s t = (reply ≡ reply_to p (Ok (Closed (length bytes)))) × (t ≡ u)
IsServed store (RenameFile old new) p reply s t = (reply ≡ reply_to p (Ok Renamed)) × (t ≡ s)
IsServed store (RemoveFile path) p reply s t = (reply ≡ reply_to p (Ok Deleted)) × (t ≡ s)

-- the reply and the session where the store has not
abbrev pub IsFailed : StoreChange → Request → ParsedView → List ℕ → SessionView → SessionView → Type 0
IsFailed store request p reply s t =
    (error : FileError) × MayFail store request error × (reply ≡ reply_to p (Err error)) × (t ≡ s)

-- a command that doesn't ask the store leaves it as it was; memory is wanted by WRITE alone
abbrev pub Answers : StoreChange → Plan → ParsedView → List ℕ → SessionView → SessionView → Type 0
Answers store (Refuse error) p reply s t = (reply ≡ reply_to p (Err error)) × (t ≡ s) × store.same
Answers store (Tell u answer) p reply s t = (reply ≡ reply_to p (Ok answer)) × (t ≡ u) × store.same
Answers store (Grow u answer) p reply s t =
    (((reply ≡ reply_to p (Ok answer)) × (t ≡ u)) ⊎ ((reply ≡ reply_to p (Err e.NoMemory)) × (t ≡ s))) × store.same
Answers store (Ask request) p reply s t = IsServed store request p reply s t ⊎ IsFailed store request p reply s t

-- ---- the whole promise: a command is applied, in the session `s` and then `t`, and has this reply

pub record IsApplied (store : StoreChange) (s t : SessionView) (command reply : List ℕ) : Type 0 where
  -- over an honest store: the definition's step, or a store fault, or out of memory
  pub honest : IfSome store.before (λ m. Applies store m s t command reply)
  -- over any store: by the session, the command and the store's answer
  pub any : Answers store (plan_of s (parse_of command)) (parse_of command) reply s t
  -- after an ERROR reply the session is as it was
  pub kept : (error : FileError) → reply ≡ reply_to (parse_of command) (Err error) → t ≡ s
  -- and so are the files
  pub kept_files : IfSome store.before
      (λ m. (error : FileError) → reply ≡ reply_to (parse_of command) (Err error) → store.after ≡ Some m)
