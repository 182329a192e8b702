-- The line `settle`.
use Rattle.std.specs.Prelude.{◌≡◌, ℕ, Bool, true, false, ◌&&◌, not, IsTrue, List, [], ◌∷◌, ◌++◌, Some, codes, take, slice_get}
use Rattle.file_lab.specs.View.{FileLabView, wrote_mem}
use Rattle.file_lab.specs.Events.{FileHappening, At, Serve}
use Rattle.file_lab.specs.Exact.{file_happen}
use Rattle.file_lab.specs.Settling.{after_events, file_settling}
use Rattle.chaosd_io.specs.Texts.{line}
use Rattle.chaosd_lab.specs.Script.{Done}
use Rattle.chaosd_lab.specs.Typed.{event_line}
use Rattle.chaosd_lab.specs.Settle as lab
use Rattle.chaosd_lab.specs.FileHappen.{event_text, WantsEvent}

-- the line of a script that asks for an event
abbrev pub file_line : FileHappening → List ℕ
file_line (At event) = event_line event
file_line Serve = line (codes "serve")

-- both ends can settle, and B wrote no out-of-memory reply
abbrev pub can_serve : FileLabView → Bool
can_serve l = lab.can_settle l.lab && not (wrote_mem l)

-- what is printed of events as if they were typed, one after the other: the line of each, and what it prints
unfoldable pub typed_text : FileLabView → List FileHappening → List ℕ
typed_text l [] = []
typed_text l (event ∷ events) = file_line event ++ event_text l event ++ typed_text (file_happen l event).view events

-- what the line does, as the laboratory can settle or not: the events of settling happen, or it is refused
abbrev pub settle_by : Bool → FileLabView → Done FileLabView
settle_by true l =
    record { lab = after_events l (file_settling l); text = typed_text l (file_settling l); is_refused = false }
settle_by false l = record { lab = l; text = lab.unsettled_text; is_refused = true }

abbrev pub settle_done : FileLabView → Done FileLabView
settle_done l = settle_by (can_serve l) l

-- When memory runs out, in the midst of settling the events before the one that met it happened, and they are printed, that
-- one's line, and what is printed of that one.
abbrev pub WantsEvents : (before after : FileLabView) → List ℕ → Type 0
WantsEvents l after text =
    (n : ℕ) × (event : FileHappening) × (slice_get (file_settling l) n ≡ Some event)
    × (told : List ℕ) × WantsEvent (after_events l (take n (file_settling l))) event after told
    × (text ≡ typed_text l (take n (file_settling l)) ++ file_line event ++ told)

-- what the line leaves then, and what is printed of it
abbrev pub WantsSettling : (before after : FileLabView) → List ℕ → Type 0
WantsSettling l after text = IsTrue (can_serve l) × WantsEvents l after text
