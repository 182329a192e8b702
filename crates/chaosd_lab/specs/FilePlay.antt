-- The script of a laboratory whose B serves FILE.
use Rattle.std.specs.Prelude.{◌≡◌, ℕ, Bool, true, false, List, Option, Some, option_map, if◌then◌else◌}
use Rattle.std.specs.Str.{bytes_eq}
use Rattle.file_lab.specs.View.{FileLabView, wrote_mem}
use Rattle.file_lab.specs.Events.{FileHappening}
use Rattle.chaosd_lab.specs.Play as lab
use Rattle.chaosd_lab.specs.Script.{Done, Script}
use Rattle.chaosd_lab.specs.FileEvent.{file_line_of}
use Rattle.chaosd_lab.specs.FileHappen.{event_done, WantsEvent}
use Rattle.chaosd_lab.specs.FileSettle.{settle_done, WantsSettling}
use Rattle.chaosd_lab.specs.FileStart.{first_of}
use Rattle.chaosd_lab.specs.FileWrong.{file_wrong_of}
use Rattle.chaosd_lab.specs.Wrong.{wrong_first}
use Rattle.chaosd_lab.specs.Settle.{settle_word}

-- what is printed of the laboratory's first copy, and at the end
abbrev pub begun_text : FileLabView → List ℕ
begun_text l = lab.begun_text l.lab

abbrev pub file_end_text : FileLabView → List ℕ
file_end_text l = lab.end_text l.lab

-- what a line does: `settle`, or an event
abbrev pub line_done : List ℕ → Option (FileLabView → Done FileLabView)
line_done line = if bytes_eq line settle_word then Some settle_done else option_map event_done (file_line_of line)

-- what a line that asks for an event leaves when memory runs out, and what is printed of it
abbrev pub WantsLine : List ℕ → (before after : FileLabView) → List ℕ → Type 0
WantsLine line l after text = (event : FileHappening) × (file_line_of line ≡ Some event) × WantsEvent l event after text

abbrev pub WantsBy : (is_settle : Bool) → List ℕ → (before after : FileLabView) → List ℕ → Type 0
WantsBy true line l after text = WantsSettling l after text
WantsBy false line l after text = WantsLine line l after text

-- A laboratory is ready where B wrote no out-of-memory reply.
abbrev pub filelab_script : Script FileLabView
filelab_script = record {
  first = first_of;
  begun = begun_text;
  event = line_done;
  first_wrong = wrong_first;
  wrong = file_wrong_of;
  ended = file_end_text;
  ready = λ l. wrote_mem l ≡ false;
  wants = λ l line after text. WantsBy (bytes_eq line settle_word) line l after text;
}
