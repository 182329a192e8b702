-- What the parts of a command's work promise.
use Rattle.std.specs.Prelude.{◌≡◌, ℕ, List, ◌++◌, length, Some, IfSome, Result, Ok, Err, ⊤}
use Rattle.chaos_file.specs.declared.error.FileError.{FileError}
use Rattle.chaos_file.specs.declared.error.FileError.TheVariants as e
use Rattle.chaos_file.specs.Error.{error_text}
use Rattle.chaos_file.specs.Answer.{Answer, Opened, Closed, Renamed, Deleted, answer_text}
use Rattle.chaos_file.specs.Session.{SessionView, reader, with_new_handle}
use Rattle.chaos_file.specs.Store.{Files, StoreChange}
use Rattle.chaos_file.specs.Plan.{Request, GetFile, PutFile, RenameFile, RemoveFile, Plan, Refuse, Tell, Grow, Ask}
use Rattle.chaos_file.specs.Step.{Left, outcome_of_request}

abbrev pub Done : Type 0
Done = Result ⊤ FileError

-- a part of a command's work: whether it was refused, and the reply's bytes and the session before it and afterwards
pub record Work : Type 0 where
  pub done : Done
  pub front : List ℕ
  pub reply : List ℕ
  pub old : SessionView
  pub new : SessionView

-- answered: the reply goes on with the answer's text
abbrev pub Tells : Answer → Done → Work → Type 0
Tells answer (Ok u) work = work.reply ≡ work.front ++ answer_text answer
Tells answer (Err error) work = ⊥

-- refused: the reply doesn't go on
abbrev pub Refuses : FileError → Work → Type 0
Refuses error work = (work.done ≡ Err error) × (work.reply ≡ work.front)

-- the reply at its end: an error's text stands behind what the reply had
abbrev pub whole_reply : Done → List ℕ → List ℕ
whole_reply (Ok u) after = after
whole_reply (Err error) after = after ++ error_text error

-- answered, or unchanged when out of memory
abbrev pub Grows : SessionView → Answer → Done → Work → Type 0
Grows u answer (Ok v) work = (work.reply ≡ work.front ++ answer_text answer) × (work.new ≡ u)
Grows u answer (Err error) work = (error ≡ e.NoMemory) × (work.reply ≡ work.front) × (work.new ≡ work.old)

-- a plan that needs no store is carried out
abbrev pub Settles : Plan → Work → Type 0
Settles (Refuse error) work = Refuses error work × (work.new ≡ work.old)
Settles (Tell u answer) work = Tells answer work.done work × (work.new ≡ u)
Settles (Grow u answer) work = Grows u answer work.done work
Settles (Ask request) work = ⊥

-- ---- over any store

-- the errors that a store's call may lead to: a store fault only where the count rose
abbrev pub MayFail : StoreChange → Request → FileError → Type 0
MayFail store request e.StoreFault = store.rose
MayFail store request e.NoMemory = Unit {0}
MayFail store (GetFile name path) e.NoSuchFile = Unit {0}
MayFail store (GetFile name path) e.FileTooBig = Unit {0}
MayFail store (RenameFile old new) e.NoSuchFile = Unit {0}
MayFail store (RenameFile old new) e.FileExists = Unit {0}
MayFail store (RemoveFile path) e.NoSuchFile = Unit {0}
MayFail store request error = ⊥

-- the store has done as asked: a handle that reads holds bytes such as its `get` may give
abbrev pub Serves : StoreChange → Request → Work → Type 0
Serves store (GetFile name path) work =
    (bytes : List ℕ) × store.may_give path bytes × (work.reply ≡ work.front ++ answer_text (Opened (length bytes)))
    × (work.new ≡ with_new_handle work.old (reader name path bytes))
Serves store (PutFile path bytes u) work =
    (work.reply ≡ work.front ++ answer_text (Closed (length bytes))) × (work.new ≡ u)
Serves store (RenameFile old new) work = (work.reply ≡ work.front ++ answer_text Renamed) × (work.new ≡ work.old)
Serves store (RemoveFile path) work = (work.reply ≡ work.front ++ answer_text Deleted) × (work.new ≡ work.old)

-- the store was asked
abbrev pub Asks : StoreChange → Request → Done → Work → Type 0
Asks store request (Ok u) work = Serves store request work
Asks store request (Err error) work = MayFail store request error × (work.reply ≡ work.front) × (work.new ≡ work.old)

-- a plan is carried out over any store
abbrev pub Follows : StoreChange → Plan → Work → Type 0
Follows store (Refuse error) work = Settles (Refuse error) work × store.same
Follows store (Tell u answer) work = Settles (Tell u answer) work × store.same
Follows store (Grow u answer) work = Settles (Grow u answer) work × store.same
Follows store (Ask request) work = Asks store request work.done work

-- ---- over an honest store that keeps the files `m`

-- nothing changed
abbrev pub Stays : StoreChange → Files → Work → Type 0
Stays store m work = (work.reply ≡ work.front) × (work.new ≡ work.old) × (store.after ≡ Some m)

-- as the definition says
abbrev pub Ends : StoreChange → Files → Result Left FileError → Work → Type 0
Ends store m (Ok l) work = Tells l.answer work.done work × (work.new ≡ l.session) × (store.after ≡ Some l.files)
Ends store m (Err error) work = Refuses error work × (work.new ≡ work.old) × (store.after ≡ Some m)

-- a store fault and out of memory are the store's own; every other error is the definition's
abbrev pub Fails : StoreChange → Files → Result Left FileError → FileError → Work → Type 0
Fails store m outcome e.StoreFault work = store.rose × Stays store m work
Fails store m outcome e.NoMemory work = Stays store m work
Fails store m outcome error work = Ends store m outcome work

abbrev pub Meets : StoreChange → Files → Result Left FileError → Done → Work → Type 0
Meets store m outcome (Ok u) work = Ends store m outcome work
Meets store m outcome (Err error) work = Fails store m outcome error work

-- a plan is carried out over an honest store
abbrev pub Does : StoreChange → Files → Plan → Work → Type 0
Does store m (Refuse error) work = Settles (Refuse error) work × (store.after ≡ Some m)
Does store m (Tell u answer) work = Settles (Tell u answer) work × (store.after ≡ Some m)
Does store m (Grow u answer) work = Settles (Grow u answer) work × (store.after ≡ Some m)
Does store m (Ask request) work = Meets store m (outcome_of_request m work.old request) work.done work

-- a plan is carried out, over an honest store and over any other
pub record IsDone (store : StoreChange) (plan : Plan) (work : Work) : Type 0 where
  pub honest : IfSome store.before (λ m. Does store m plan work)
  pub any : Follows store plan work
