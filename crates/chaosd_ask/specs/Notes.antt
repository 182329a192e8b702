-- What is noted of a script's replies.
use Rattle.std.specs.Prelude.{◌≡◌, ℕ, ◌-◌, Bool, true, false, not, nat_lt, if◌then◌else◌, List, [], ◌∷◌, ◌++◌, filter, length, codes, Option, Some, None, IfSome, Result, Ok, Err}
use Rattle.std.specs.List.{list_any}
use Rattle.std.specs.Str.{bytes_eq}
use Rattle.std.specs.Io.KnownBytes.{Appends}
use Rattle.chaos_file.specs.declared.limits.TheConstants.{MAX_HANDLES}
use Rattle.chaos_file.specs.Answer.{Wrote, Closed}
use Rattle.chaos_file.specs.Reply.{SaidView, Answered, Refused, ReplyView, reading_of}
use Rattle.chaosd_io.specs.declared.bad_text.BadText.{BadText}
use Rattle.chaosd_io.specs.declared.fault.RunFault.{RunFault}
use Rattle.chaosd_io.specs.declared.fault.RunFault.TheVariants.{ReadFault, WriteFault, InputTooLong, NoMemory, BadScript, LinkFault, ClockFault}
use Rattle.chaosd_ask.specs.declared.end.ScriptEnd.{ScriptEnd}
use Rattle.chaosd_ask.specs.Command.{wrong_command}
use Rattle.chaosd_ask.specs.Script.{IsFirstBad, lines_within}
use Rattle.chaosd_ask.specs.Printed.{ending_of, replies_text, reply_line}

-- `has_error`: a reply was an error. `is_login`: the last one was, for a handle LOGIN. `written`: the handles that were
-- written and not closed, in the order of their first WRITE.
pub record NotesView : Type 0 where
  pub has_error : Bool
  pub is_login : Bool
  pub written : List (List ℕ)

abbrev pub no_notes : NotesView
no_notes = record { has_error = false; is_login = false; written = [] }

abbrev pub has_name : List ℕ → List (List ℕ) → Bool
has_name handle names = list_any (λ name. bytes_eq name handle) names

-- the handle behind the others, where it isn't there and there is room
abbrev pub with_name : List ℕ → List (List ℕ) → List (List ℕ)
with_name handle names =
    if has_name handle names then names
    else (if nat_lt (length names) MAX_HANDLES then names ++ handle ∷ [] else names)

abbrev pub without_name : List ℕ → List (List ℕ) → List (List ℕ)
without_name handle names = filter (λ name. not (bytes_eq name handle)) names

-- the notes after a reply that says this of a handle
abbrev pub noted : NotesView → List ℕ → SaidView → NotesView
noted v handle (Refused text) =
    record { has_error = true; is_login = bytes_eq handle (codes "LOGIN"); written = v.written }
noted v handle (Answered (Wrote count)) =
    record { has_error = v.has_error; is_login = false; written = with_name handle v.written }
noted v handle (Answered (Closed count)) =
    record { has_error = v.has_error; is_login = false; written = without_name handle v.written }
noted v handle (Answered _) = record { has_error = v.has_error; is_login = false; written = v.written }

-- what can't be read as a reply is no error, and writes and closes nothing
abbrev pub notes_by : NotesView → Option ReplyView → NotesView
notes_by v None = record { has_error = v.has_error; is_login = false; written = v.written }
notes_by v (Some r) = noted v r.handle r.said

-- the notes after a reply
abbrev pub notes_after : NotesView → List ℕ → NotesView
notes_after v reply = notes_by v (reading_of reply)

-- the notes after replies, one after another
abbrev pub notes_over : NotesView → List (List ℕ) → NotesView
notes_over v [] = v
notes_over v (reply ∷ replies) = notes_over (notes_after v reply) replies

-- So many replies were printed, each on its line, and nothing else; and these replies were noted.
pub record NotesReplies (count : ℕ) (before after : Option (List ℕ)) (notes : NotesView) : Type 0 where
  pub replies : List (List ℕ)
  pub number : length replies ≡ count
  pub text : Appends before after (replies_text replies)
  pub noted : notes ≡ notes_over no_notes replies

-- As many replies were printed as are told, each on its line, and then that a command got none, where one did; and these
-- replies were noted.
pub record NotesScript (end : ScriptEnd) (before after : Option (List ℕ)) (notes : NotesView) : Type 0 where
  pub replies : List (List ℕ)
  pub number : length replies ≡ end.replied
  pub text : Appends before after (replies_text replies ++ ending_of end)
  pub noted : notes ≡ notes_over no_notes replies

-- The notes of a run are those of the replies that it printed. Where a line that stands for no command ended it, it was
-- noted what is wrong with that line. Where a fault of the writer, of a link or of the clock ended it, nobody knows what was
-- printed.
abbrev pub NotesRun : Option (List ℕ) → Option (List ℕ) → Option (List ℕ) → Option BadText → NotesView
    → Result ScriptEnd RunFault → Type 0
NotesRun input before after wrong notes (Ok end) = NotesScript end before after notes
NotesRun input before after wrong notes (Err (BadScript number)) =
    NotesReplies (number - 1) before after notes
    × IfSome input (λ all. (first : IsFirstBad number (lines_within all)) × (wrong ≡ Some (wrong_command first.bad)))
NotesRun input before after wrong notes (Err ReadFault) = (count : ℕ) × NotesReplies count before after notes
NotesRun input before after wrong notes (Err InputTooLong) = (count : ℕ) × NotesReplies count before after notes
NotesRun input before after wrong notes (Err WriteFault) = Unit {0}
NotesRun input before after wrong notes (Err NoMemory) = Unit {0}
NotesRun input before after wrong notes (Err LinkFault) = Unit {0}
NotesRun input before after wrong notes (Err ClockFault) = Unit {0}

-- The reply that was printed for a line was noted. Where none was printed the notes stayed as they were.
abbrev pub NotesLine : Option (List ℕ) → Option (List ℕ) → NotesView → NotesView → Result Bool RunFault → Type 0
NotesLine before after old new (Ok true) =
    (reply : List ℕ) × Appends before after (reply_line reply) × (new ≡ notes_after old reply)
NotesLine before after old new (Ok false) = new ≡ old
NotesLine before after old new (Err fault) = new ≡ old
