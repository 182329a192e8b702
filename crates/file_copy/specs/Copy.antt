-- Whole files over FILE: the commands that put and get one, and the replies of a server that does as it is told.
use Rattle.std.specs.Prelude.{◌≡◌, ◌<◌, ◌≤◌, true, ℕ, zero, suc, ◌+◌, ◌-◌, ◌*◌, ◌/◌, List, [], ◌∷◌, ◌++◌, length, take, drop, min, Some}
use Rattle.chaos_file.specs.declared.limits.TheConstants.{MAX_CHUNK, MAX_TID, MAX_HANDLE, MAX_FILE}
use Rattle.chaos_file.specs.Names.{is_name, is_path}
use Rattle.chaos_file.specs.Command.{OpenRead, OpenWrite, Read, Write, Close}
use Rattle.chaos_file.specs.Spelling.{spelling_of}
use Rattle.chaos_file.specs.Answer.{Answer, Opened, Wrote, Closed, answer_text, read_answer, reply_front}
use Rattle.chaos_file.specs.Session.{SessionView}
use Rattle.chaos_file.specs.Store.{Files}
use Rattle.chaos_file.specs.Replies.{files_after, session_after, replies_from}

-- f 0, f 1, .., f (n - 1)
abbrev pub upto : {A : Type 0} → (ℕ → A) → ℕ → List A
upto f zero = []
upto f (suc n) = upto f n ++ f n ∷ []

-- ---- a file in pieces

-- the bytes of one WRITE or READ: so many of the file, from a multiple of their number on
abbrev pub chunk : List ℕ → ℕ → List ℕ
chunk bytes i = take MAX_CHUNK (drop (MAX_CHUNK * i) bytes)

-- how many pieces a file of so many bytes has
abbrev pub chunk_count : ℕ → ℕ
chunk_count n = (n + (MAX_CHUNK - 1)) / MAX_CHUNK

-- ---- commands and replies, by the name of each and that of the handle

abbrev pub reply_of : List ℕ → List ℕ → Answer → List ℕ
reply_of tid handle answer = reply_front tid handle ++ answer_text answer

-- a session of a user who has logged in, and has no file open
abbrev pub logged_in : List ℕ → SessionView
logged_in name = record { name = Some name; handles = [] }

-- the names of commands: the i-th has the i-th
abbrev pub Tids : Type 0
Tids = ℕ → List ℕ

-- the first so many of them are legal
abbrev pub AreNamed : Tids → ℕ → Type 0
AreNamed tid n = (i : ℕ) → i < n → is_name 1 MAX_TID (tid i) ≡ true

-- OPEN WRITE, the file in WRITEs of 448 bytes, CLOSE
abbrev pub put_commands : Tids → List ℕ → List ℕ → List ℕ → List (List ℕ)
put_commands tid handle path bytes =
    spelling_of (tid 0) handle (OpenWrite path)
    ∷ (upto (λ i. spelling_of (tid (1 + i)) handle (Write (chunk bytes i))) (chunk_count (length bytes))
    ++ spelling_of (tid (1 + chunk_count (length bytes))) handle Close ∷ [])

-- OPEN WRITE and so many of the WRITEs: a put that isn't closed
abbrev pub put_front : Tids → List ℕ → List ℕ → List ℕ → ℕ → List (List ℕ)
put_front tid handle path bytes k =
    spelling_of (tid 0) handle (OpenWrite path) ∷ upto (λ i. spelling_of (tid (1 + i)) handle (Write (chunk bytes i))) k

-- the reply to a WRITE: the bytes written so far
abbrev pub put_reply : Tids → List ℕ → List ℕ → ℕ → List ℕ
put_reply tid handle bytes i = reply_of (tid (1 + i)) handle (Wrote (min (MAX_CHUNK * (1 + i)) (length bytes)))

-- the replies to OPEN and to so many of the WRITEs
abbrev pub put_front_replies : Tids → List ℕ → List ℕ → ℕ → List (List ℕ)
put_front_replies tid handle bytes k = reply_of (tid 0) handle (Opened 0) ∷ upto (put_reply tid handle bytes) k

-- each WRITE is answered by the bytes written so far, and CLOSE by all
abbrev pub put_replies : Tids → List ℕ → List ℕ → List (List ℕ)
put_replies tid handle bytes =
    reply_of (tid 0) handle (Opened 0)
    ∷ (upto (λ i. reply_of (tid (1 + i)) handle (Wrote (min (MAX_CHUNK * (1 + i)) (length bytes))))
    (chunk_count (length bytes))
    ++ reply_of (tid (1 + chunk_count (length bytes))) handle (Closed (length bytes)) ∷ [])

-- OPEN READ, a READ for each piece of a file of so many bytes and one more, CLOSE
abbrev pub get_commands : Tids → List ℕ → List ℕ → ℕ → List (List ℕ)
get_commands tid handle path n =
    spelling_of (tid 0) handle (OpenRead path)
    ∷ (upto (λ i. spelling_of (tid (1 + i)) handle Read) (1 + chunk_count n)
    ++ spelling_of (tid (2 + chunk_count n)) handle Close ∷ [])

-- OPEN READ and so many READs
abbrev pub get_front : Tids → List ℕ → List ℕ → ℕ → List (List ℕ)
get_front tid handle path k =
    spelling_of (tid 0) handle (OpenRead path) ∷ upto (λ i. spelling_of (tid (1 + i)) handle Read) k

-- the replies to OPEN, which told this length, and to so many of the READs, which gave these bytes
abbrev pub get_front_replies : Tids → List ℕ → ℕ → List ℕ → ℕ → List (List ℕ)
get_front_replies tid handle len bytes k =
    reply_of (tid 0) handle (Opened len) ∷ upto (λ i. reply_of (tid (1 + i)) handle (read_answer (chunk bytes i))) k

-- OPEN is answered by the file's length, each READ by a piece but the last, which finds nothing and is answered EOF
abbrev pub get_replies : Tids → List ℕ → List ℕ → List (List ℕ)
get_replies tid handle bytes =
    reply_of (tid 0) handle (Opened (length bytes))
    ∷ (upto (λ i. reply_of (tid (1 + i)) handle (read_answer (chunk bytes i))) (1 + chunk_count (length bytes))
    ++ reply_of (tid (2 + chunk_count (length bytes))) handle (Closed (length bytes)) ∷ [])

-- ---- what commands do

-- The commands, one after another over these files and from this session on, leave those and have these replies.
pub record Does (m : Files) (s : SessionView) (commands : List (List ℕ)) (n : Files) (t : SessionView)
    (replies : List (List ℕ)) : Type 0 where
  pub files : files_after m s commands ≡ n
  pub session : session_after m s commands ≡ t
  pub replies_are : replies_from m s commands ≡ replies

-- Legal names for so many commands and for the handle, a legal path, and a file that isn't too big.
pub record CanCopy (tid : Tids) (count : ℕ) (handle path bytes : List ℕ) : Type 0 where
  pub names : AreNamed tid count
  pub handle_named : is_name 1 MAX_HANDLE handle ≡ true
  pub path_legal : is_path path ≡ true
  pub fits : length bytes ≤ MAX_FILE
