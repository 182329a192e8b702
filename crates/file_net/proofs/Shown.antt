-- A reply shows that its command was carried out.
use Rattle.std.proofs.Common.{◌≡◌, ℕ, ◌<◌, List, ◌++◌, Ok, Err, refl, sym, ap, ◌∙◌, arith}
use Rattle.std.specs.Prelude.{slice_index, true}
use Rattle.std.proofs.lemmas.List.{append_cancel_left}
use Rattle.chaos_file.specs.declared.error.FileError.{FileError}
use Rattle.chaos_file.specs.declared.error.FileError.TheVariants as e
use Rattle.chaos_file.specs.Error.{error_text}
use Rattle.chaos_file.specs.Command.{CommandView, Good, tid_of, handle_of}
use Rattle.chaos_file.specs.Grammar.{parse_of}
use Rattle.chaos_file.specs.Spelling.{spelling_of, is_good}
use Rattle.chaos_file.specs.Answer.{Answer, LoggedIn, Opened, Given, AtEnd, Wrote, Closed, Renamed, Deleted, answer_text, reply_front, reply_to}
use Rattle.chaos_file.specs.Session.{SessionView}
use Rattle.chaos_file.specs.Store.{Files}
use Rattle.chaos_file.specs.Plan.{plan_of}
use Rattle.chaos_file.specs.Step.{file_step, step_of, outcome_of}
use Rattle.chaos_file.proofs.Spelling.{parsed_spelled}
use Rattle.file_copy.specs.Copy.{reply_of}
use Rattle.file_net.specs.History.{Way, AsDefined, NoMemory, StoreFault, reply_by}

-- the reply is the answer to a command that was carried out
abbrev pub IsAnswer : List ℕ → List ℕ → Type 0
IsAnswer command reply = (answer : Answer) × (reply ≡ reply_to (parse_of command) (Ok answer))

differ : (a b : ℕ) → a < b → a ≡ b → ⊥
differ a b l e = omega arith

-- each error begins with ER
error_begins : (error : FileError) → (slice_index (error_text error) 0 ≡ 69) × (slice_index (error_text error) 1 ≡ 82)
error_begins e.Syntax = (refl, refl)
error_begins e.UnknownCommand = (refl, refl)
error_begins e.NotLoggedIn = (refl, refl)
error_begins e.IllegalPath = (refl, refl)
error_begins e.HandleInUse = (refl, refl)
error_begins e.NoSuchHandle = (refl, refl)
error_begins e.WrongKind = (refl, refl)
error_begins e.TooManyHandles = (refl, refl)
error_begins e.FileTooBig = (refl, refl)
error_begins e.NoSuchFile = (refl, refl)
error_begins e.FileExists = (refl, refl)
error_begins e.StoreFault = (refl, refl)
error_begins e.NoMemory = (refl, refl)

-- no answer does
begins_apart : (answer : Answer) (text : List ℕ) → slice_index text 0 ≡ 69 → slice_index text 1 ≡ 82
    → text ≡ answer_text answer → ⊥
begins_apart (LoggedIn name) text a b h = differ 69 76 (omega arith) (sym a ∙ ap (λ t. slice_index t 0) h)
begins_apart (Opened count) text a b h = differ 69 79 (omega arith) (sym a ∙ ap (λ t. slice_index t 0) h)
begins_apart (Given bytes) text a b h = differ 69 82 (omega arith) (sym a ∙ ap (λ t. slice_index t 0) h)
begins_apart AtEnd text a b h = differ 79 82 (omega arith) (sym (ap (λ t. slice_index t 1) h) ∙ b)
begins_apart (Wrote count) text a b h = differ 69 87 (omega arith) (sym a ∙ ap (λ t. slice_index t 0) h)
begins_apart (Closed count) text a b h = differ 67 69 (omega arith) (sym (ap (λ t. slice_index t 0) h) ∙ a)
begins_apart Renamed text a b h = differ 69 82 (omega arith) (sym a ∙ ap (λ t. slice_index t 0) h)
begins_apart Deleted text a b h = differ 68 69 (omega arith) (sym (ap (λ t. slice_index t 0) h) ∙ a)

-- so no error is spelled as an answer to the same command
no_error : (tid handle : List ℕ) (error : FileError) (answer : Answer)
    → reply_front tid handle ++ error_text error ≡ reply_of tid handle answer → ⊥
no_error tid handle error answer h =
    let begins = error_begins error in
    begins_apart answer (error_text error) begins.0 begins.1
    (append_cancel_left (reply_front tid handle) (error_text error) (answer_text answer) h)

pub as_defined : (m : Files) (s : SessionView) (command : List ℕ) (way : Way)
    → IsAnswer command (reply_by m s command way) → way ≡ AsDefined
as_defined m s command AsDefined h = refl
as_defined m s command NoMemory h =
    absurd (no_error (tid_of (parse_of command)) (handle_of (parse_of command)) e.NoMemory h.0 h.1)
as_defined m s command StoreFault h =
    absurd (no_error (tid_of (parse_of command)) (handle_of (parse_of command)) e.StoreFault h.0 h.1)

-- a command that is refused has no such reply
pub not_refused : (m : Files) (s : SessionView) (tid handle : List ℕ) (command : CommandView) (error : FileError)
    (answer : Answer) → is_good tid handle command ≡ true
    → outcome_of m s (plan_of s (Good tid handle command)) ≡ Err error
    → (file_step m s (spelling_of tid handle command)).reply ≡ reply_of tid handle answer → ⊥
not_refused m s tid handle command error answer good refused told =
    no_error tid handle error answer
    (sym (ap (λ p. (step_of m s p (outcome_of m s (plan_of s p))).reply) (parsed_spelled tid handle command good)
    ∙ ap (λ o. (step_of m s (Good tid handle command) o).reply) refused) ∙ told)

-- the replies that a client waits for are answers
pub is_answer : (tid handle : List ℕ) (command : CommandView) (answer : Answer) → is_good tid handle command ≡ true
    → IsAnswer (spelling_of tid handle command) (reply_of tid handle answer)
is_answer tid handle command answer good =
    (answer, sym (ap (λ p. reply_to p (Ok answer)) (parsed_spelled tid handle command good)))
