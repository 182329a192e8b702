-- What an event of a laboratory whose B serves FILE does and prints.
use Rattle.std.specs.Prelude.{◌≡◌, ◌⊎◌, ℕ, Bool, true, List, [], ◌++◌, length, drop, is_err}
use Rattle.chaos_lab.specs.declared.fault.LabFault.TheVariants.{NoMemory}
use Rattle.chaos_file.specs.declared.served.Served.{Served}
use Rattle.file_lab.specs.View.{FileLabView, wrote_mem}
use Rattle.file_lab.specs.Events.{FileHappening, Serve, Serving}
use Rattle.file_lab.specs.Exact.{file_happen}
use Rattle.chaosd_lab.specs.Answers.{refusal_text, copies_text}
use Rattle.chaosd_lab.specs.Script.{Done}
use Rattle.chaosd_lab.specs.FileAnswers.{file_answer_text}

-- what an event prints: what came of it, and a line for each packet that it sent, which are the copies that joined
unfoldable pub event_text : FileLabView → FileHappening → List ℕ
event_text l event =
    file_answer_text (file_happen l event).answer
    ++ copies_text (length l.lab.copies) (drop (length l.lab.copies) (file_happen l event).view.lab.copies)

-- what an event does
abbrev pub event_done : FileHappening → FileLabView → Done FileLabView
event_done event l =
    record { lab = (file_happen l event).view; text = event_text l event; is_refused = is_err (file_happen l event).answer }

-- An event did what it does, and what it prints was written.
pub record PlaysFileEvent (event : FileHappening) (before after : FileLabView) (old new : List ℕ)
    (refused : Bool) : Type 0 where
  pub lab : after ≡ (file_happen before event).view
  pub text : new ≡ old ++ event_text before event
  pub count : refused ≡ is_err (file_happen before event).answer

-- B's server served, and wrote an out-of-memory reply.
abbrev pub ServesForWant : (before after : FileLabView) → Type 0
ServesForWant before after = (served : Served) × Serving before after served × (wrote_mem after ≡ true)

-- What is printed of an event that runs out of memory: where the histories did, and nothing happened, the refusal;
-- where a serve wrote an out-of-memory reply, nothing. It is never both, where B has written no such reply before.
abbrev pub WantsEvent : (before : FileLabView) → FileHappening → (after : FileLabView) → List ℕ → Type 0
WantsEvent before event after text =
    ((after ≡ before) × (text ≡ refusal_text NoMemory)) ⊎ ((event ≡ Serve) × ServesForWant before after × (text ≡ []))
