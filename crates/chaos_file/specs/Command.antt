-- Commands as plain values: names, paths and bytes are lists.
use Rattle.std.specs.Prelude.{ℕ, List, []}
use Rattle.chaos_file.specs.declared.command.Word.{Word}
use Rattle.chaos_file.specs.declared.command.Word.TheVariants as w

-- a command of the right form, without its tid and handle
pub data CommandView : Type 0 where
  Login : (name : List ℕ) → CommandView
  OpenRead : (path : List ℕ) → CommandView
  OpenWrite : (path : List ℕ) → CommandView
  Read : CommandView
  Write : (bytes : List ℕ) → CommandView
  Close : CommandView
  Rename : (old new : List ℕ) → CommandView
  Delete : (path : List ℕ) → CommandView

-- what stands behind a command's word
pub data FormView : Type 0 where
  Malformed : FormView
  IllegalPath : FormView
  Formed : (command : CommandView) → FormView

-- what a command's bytes say
pub data ParsedView : Type 0 where
  BadHead : ParsedView
  NoWord : (tid handle : List ℕ) → ParsedView
  Unknown : (tid handle : List ℕ) → ParsedView
  BadForm : (tid handle : List ℕ) (word : Word) → ParsedView
  BadPath : (tid handle : List ℕ) (word : Word) → ParsedView
  Good : (tid handle : List ℕ) (command : CommandView) → ParsedView

-- the word of a command
abbrev pub word_said : CommandView → Word
word_said (Login name) = w.Login
word_said (OpenRead path) = w.Open
word_said (OpenWrite path) = w.Open
word_said Read = w.Read
word_said (Write bytes) = w.Write
word_said Close = w.Close
word_said (Rename old new) = w.Rename
word_said (Delete path) = w.Delete

-- the tid to be given back: none where it can't be read
abbrev pub tid_of : ParsedView → List ℕ
tid_of BadHead = []
tid_of (NoWord tid handle) = tid
tid_of (Unknown tid handle) = tid
tid_of (BadForm tid handle word) = tid
tid_of (BadPath tid handle word) = tid
tid_of (Good tid handle command) = tid

-- the handle to be given back: none where it can't be read
abbrev pub handle_of : ParsedView → List ℕ
handle_of BadHead = []
handle_of (NoWord tid handle) = handle
handle_of (Unknown tid handle) = handle
handle_of (BadForm tid handle word) = handle
handle_of (BadPath tid handle word) = handle
handle_of (Good tid handle command) = handle
