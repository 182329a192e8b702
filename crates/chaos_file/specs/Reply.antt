-- Replies, read: what stands behind the two names of a reply.
use Rattle.std.specs.Prelude.{ℕ, Bool, true, ◌&&◌, nat_le, if◌then◌else◌, List, [], ◌∷◌, ◌++◌, ◌≤◌, length, take, drop, Option, Some, None, option_map, Result, Ok, Err, codes}
use Rattle.std.specs.Fmt.{decimal}
use Rattle.std.specs.Str.{bytes_eq}
use Rattle.std.specs.Str.Parse.{digits_value}
use Rattle.chaos_file.specs.declared.limits.TheConstants.{NL, MAX_TID, MAX_HANDLE, MAX_NAME, MAX_CHUNK, MAX_FILE}
use Rattle.chaos_file.specs.declared.command.Word.{Word}
use Rattle.chaos_file.specs.declared.command.Word.TheVariants as w
use Rattle.chaos_file.specs.declared.error.FileError.{FileError}
use Rattle.chaos_file.specs.declared.reply.Said.{Said}
use Rattle.chaos_file.specs.declared.reply.Said.TheVariants as s
use Rattle.chaos_file.specs.declared.reply.ReplyParts.{ReplyParts}
use Rattle.chaos_file.specs.Names.{is_name}
use Rattle.chaos_file.specs.Error.{error_text}
use Rattle.chaos_file.specs.Command.{ParsedView, tid_of, handle_of}
use Rattle.chaos_file.specs.Answer.{Answer, LoggedIn, Opened, Given, AtEnd, Wrote, Closed, Renamed, Deleted, answer_text, reply_front}
use Rattle.chaos_file.specs.Grammar.{space, is_nil, cut, after_front, word_of, word_end, parse_of}
use Rattle.chaos_file.specs.Session.{SessionView}
use Rattle.chaos_file.specs.Store.{Files}
use Rattle.chaos_file.specs.Plan.{plan_of}
use Rattle.chaos_file.specs.Step.{Left, outcome_of}

-- an answer, or an error by its code and text
pub data SaidView : Type 0 where
  Answered : (answer : Answer) → SaidView
  Refused : (text : List ℕ) → SaidView

-- the names of the command that is answered, and what the reply says behind them
pub record ReplyView : Type 0 where
  pub tid : List ℕ
  pub handle : List ℕ
  pub said : SaidView

abbrev pub said_view : Said → SaidView
said_view (s.LoggedIn name) = Answered (LoggedIn name.now)
said_view (s.Opened count) = Answered (Opened count)
said_view (s.Given bytes) = Answered (Given bytes.now)
said_view s.AtEnd = Answered AtEnd
said_view (s.Wrote count) = Answered (Wrote count)
said_view (s.Closed count) = Answered (Closed count)
said_view s.Renamed = Answered Renamed
said_view s.Deleted = Answered Deleted
said_view (s.Refused text) = Refused text.now

abbrev pub reply_view : ReplyParts → ReplyView
reply_view r = record { tid = r.tid.now; handle = r.handle.now; said = said_view r.said }

-- ---- the parts of what a reply says

-- the length that OPEN is answered by
abbrev pub opened_in : SaidView → Option ℕ
opened_in (Answered (Opened count)) = Some count
opened_in _ = None

-- the bytes that READ is answered by
abbrev pub given_in : SaidView → Option (List ℕ)
given_in (Answered (Given bytes)) = Some bytes
given_in _ = None

-- the code and the text of an error
abbrev pub refused_in : SaidView → Option (List ℕ)
refused_in (Refused text) = Some text
refused_in _ = None

-- ---- how a reply is spelled

abbrev pub said_text : SaidView → List ℕ
said_text (Answered answer) = answer_text answer
said_text (Refused text) = codes "ERROR " ++ text

abbrev pub reply_text : ReplyView → List ℕ
reply_text r = reply_front r.tid r.handle ++ said_text r.said

-- what the outcome of a command is told as: the code and the text of an error stand behind ERROR and a space
abbrev pub outcome_said : Result Answer FileError → SaidView
outcome_said (Ok answer) = Answered answer
outcome_said (Err error) = Refused (drop 6 (error_text error))

-- what the reply to a command says, by its outcome
abbrev pub outcome_reply : ParsedView → Result Left FileError → ReplyView
outcome_reply p (Ok left) = record { tid = tid_of p; handle = handle_of p; said = outcome_said (Ok left.answer) }
outcome_reply p (Err error) = record { tid = tid_of p; handle = handle_of p; said = outcome_said (Err error) }

-- what the definition's reply to a command says, over these files and in this session
abbrev pub step_reply : Files → SessionView → List ℕ → ReplyView
step_reply m s command = outcome_reply (parse_of command) (outcome_of m s (plan_of s (parse_of command)))

-- ---- lengths

-- what a reply says is no longer than it may be
abbrev pub SaidFits : SaidView → Type 0
SaidFits (Answered (LoggedIn name)) = length name ≤ MAX_NAME
SaidFits (Answered (Given bytes)) = length bytes ≤ MAX_CHUNK
SaidFits (Refused text) = length text ≤ MAX_CHUNK
SaidFits _ = Unit {0}

abbrev pub ReplyFits : ReplyView → Type 0
ReplyFits r = (length r.tid ≤ MAX_TID) × (length r.handle ≤ MAX_HANDLE) × SaidFits r.said

-- ---- which replies FILE has

-- names, chunks and counts are such as FILE has
abbrev pub is_answer : Answer → Bool
is_answer (LoggedIn name) = is_name 1 MAX_NAME name
is_answer (Opened count) = nat_le count MAX_FILE
is_answer (Given bytes) = nat_le (length bytes) MAX_CHUNK
is_answer AtEnd = true
is_answer (Wrote count) = nat_le count MAX_FILE
is_answer (Closed count) = nat_le count MAX_FILE
is_answer Renamed = true
is_answer Deleted = true

abbrev pub is_sayable : SaidView → Bool
is_sayable (Answered answer) = is_answer answer
is_sayable (Refused text) = true

-- a reply to a command whose names can't be read has empty ones
abbrev pub is_reply : ReplyView → Bool
is_reply r = is_name 0 MAX_TID r.tid && (is_name 0 MAX_HANDLE r.handle && is_sayable r.said)

-- ---- how a reply is read

abbrev pub count_if : ℕ → List ℕ → Option ℕ
count_if n digits = if nat_le n MAX_FILE && bytes_eq (decimal n) digits then Some n else None

-- the number of at most the greatest file's bytes that these digits write, without leading zeros
abbrev pub count_of : List ℕ → Option ℕ
count_of digits = count_if (digits_value 10 digits) digits

abbrev pub count_behind : Option (List ℕ) → Option ℕ
count_behind None = None
count_behind (Some digits) = count_of digits

-- the answer, where it is of the form that its word asks for
abbrev pub answered_if : Bool → Answer → Option SaidView
answered_if holds answer = if holds then Some (Answered answer) else None

-- LOGIN SP name
abbrev pub login_said : Option (List ℕ) → Option SaidView
login_said None = None
login_said (Some name) = answered_if (is_name 1 MAX_NAME name) (LoggedIn name)

-- READ NL bytes
abbrev pub given_said : Option (List ℕ) → Option SaidView
given_said None = None
given_said (Some bytes) = answered_if (nat_le (length bytes) MAX_CHUNK) (Given bytes)

-- what stands behind each word; OPEN, WRITE and CLOSE are followed by SP and a number
abbrev pub said_behind : Word → List ℕ → Option SaidView
said_behind w.Login rest = login_said (after_front (space ∷ []) rest)
said_behind w.Open rest = option_map (λ n. Answered (Opened n)) (count_behind (after_front (space ∷ []) rest))
said_behind w.Read rest = given_said (after_front (NL ∷ []) rest)
said_behind w.Write rest = option_map (λ n. Answered (Wrote n)) (count_behind (after_front (space ∷ []) rest))
said_behind w.Close rest = option_map (λ n. Answered (Closed n)) (count_behind (after_front (space ∷ []) rest))
said_behind w.Rename rest = answered_if (is_nil rest) Renamed
said_behind w.Delete rest = answered_if (is_nil rest) Deleted

abbrev pub said_of_word : Option Word → List ℕ → Option SaidView
said_of_word None rest = None
said_of_word (Some word) rest = said_behind word rest

-- the words EOF and ERROR, which no command has, and those of the commands; a word ends at `end`
abbrev pub said_of_text : List ℕ → ℕ → Option SaidView
said_of_text text end =
    if bytes_eq (take end text) (codes "ERROR") then option_map (λ t. Refused t) (after_front (space ∷ []) (drop end text))
    else (if bytes_eq (take end text) (codes "EOF") then answered_if (is_nil (drop end text)) AtEnd
    else said_of_word (word_of (take end text)) (drop end text))

abbrev pub said_of : List ℕ → Option SaidView
said_of text = said_of_text text (word_end text)

abbrev pub reply_said : List ℕ → List ℕ → Option SaidView → Option ReplyView
reply_said tid handle None = None
reply_said tid handle (Some said) = Some (record { tid = tid; handle = handle; said = said })

abbrev pub reply_named : List ℕ → Option (List ℕ × List ℕ) → Option ReplyView
reply_named tid None = None
reply_named tid (Some p) =
    if is_name 0 MAX_TID tid && is_name 0 MAX_HANDLE p.0 then reply_said tid p.0 (said_of p.1) else None

abbrev pub reply_after : Option (List ℕ × List ℕ) → Option ReplyView
reply_after None = None
reply_after (Some p) = reply_named p.0 (cut space p.1)

-- what a reply's bytes say: a space ends each of the two names
abbrev pub reading_of : List ℕ → Option ReplyView
reading_of bytes = reply_after (cut space bytes)
