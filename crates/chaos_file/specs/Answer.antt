-- Answers, and the replies that spell them.
use Rattle.std.specs.Prelude.{ℕ, List, [], ◌∷◌, ◌++◌, Result, Ok, Err, if◌then◌else◌, codes}
use Rattle.std.specs.Fmt.{decimal}
use Rattle.chaos_file.specs.declared.limits.TheConstants.{NL}
use Rattle.chaos_file.specs.declared.error.FileError.{FileError}
use Rattle.chaos_file.specs.Error.{error_text}
use Rattle.chaos_file.specs.Command.{ParsedView, tid_of, handle_of}
use Rattle.chaos_file.specs.Grammar.{is_nil, space}

-- what a command is answered where it isn't refused
pub data Answer : Type 0 where
  LoggedIn : (name : List ℕ) → Answer
  Opened : (count : ℕ) → Answer
  Given : (bytes : List ℕ) → Answer
  AtEnd : Answer
  Wrote : (count : ℕ) → Answer
  Closed : (count : ℕ) → Answer
  Renamed : Answer
  Deleted : Answer

-- the answer to a READ that found these bytes
abbrev pub read_answer : List ℕ → Answer
read_answer bytes = if is_nil bytes then AtEnd else Given bytes

-- how an answer is spelled; numbers are decimal, without leading zeros
abbrev pub answer_text : Answer → List ℕ
answer_text (LoggedIn name) = codes "LOGIN " ++ name
answer_text (Opened count) = codes "OPEN " ++ decimal count
answer_text (Given bytes) = codes "READ" ++ NL ∷ bytes
answer_text AtEnd = codes "EOF"
answer_text (Wrote count) = codes "WRITE " ++ decimal count
answer_text (Closed count) = codes "CLOSE " ++ decimal count
answer_text Renamed = codes "RENAME"
answer_text Deleted = codes "DELETE"

abbrev pub outcome_text : Result Answer FileError → List ℕ
outcome_text (Ok answer) = answer_text answer
outcome_text (Err error) = error_text error

-- tid SP handle SP
abbrev pub reply_front : List ℕ → List ℕ → List ℕ
reply_front tid handle = tid ++ (space ∷ []) ++ handle ++ (space ∷ [])

-- the reply to a command: its two names, and the answer or the error
abbrev pub reply_to : ParsedView → Result Answer FileError → List ℕ
reply_to p outcome = reply_front (tid_of p) (handle_of p) ++ outcome_text outcome
