-- What an event of a laboratory does and prints.
use Rattle.std.specs.Prelude.{◌≡◌, ℕ, Bool, List, ◌++◌, length, drop, is_err}
use Rattle.chaos_lab.specs.Laboratory.{LabView, Happening, happen}
use Rattle.chaosd_lab.specs.Answers.{answer_text, copies_text}
use Rattle.chaosd_lab.specs.Script.{Done}

-- what an event prints: what came of it, and a line for each packet that it sent, which are the copies that joined
unfoldable pub event_text : LabView → Happening → List ℕ
event_text l event =
    answer_text (happen l event).answer
    ++ copies_text (length l.copies) (drop (length l.copies) (happen l event).lab.copies)

-- what an event does
abbrev pub event_done : Happening → LabView → Done LabView
event_done event l =
    record { lab = (happen l event).lab; text = event_text l event; is_refused = is_err (happen l event).answer }

-- An event did what it does, and what it prints was written.
pub record PlaysEvent (event : Happening) (before after : LabView) (old new : List ℕ) (refused : Bool) : Type 0 where
  pub lab : after ≡ (happen before event).lab
  pub text : new ≡ old ++ event_text before event
  pub count : refused ≡ is_err (happen before event).answer
