-- The script of a laboratory.
use Rattle.std.specs.Prelude.{◌≡◌, Bool, true, false, List, if◌then◌else◌, Option, Some, option_map, Result, Ok, Err, ⊤, ℕ}
use Rattle.std.specs.Str.{bytes_eq}
use Rattle.chaos_lab.specs.declared.fault.LabFault.{LabFault}
use Rattle.chaos_lab.specs.declared.fault.LabFault.TheVariants.{NoMemory}
use Rattle.chaosd_io.specs.declared.fault.RunFault.{RunFault}
use Rattle.chaosd_io.specs.declared.fault.RunFault.TheVariants as run
use Rattle.chaos_lab.specs.Laboratory.{LabView}
use Rattle.chaosd_lab.specs.Answers.{refusal_text, copies_text, stored_line}
use Rattle.chaosd_lab.specs.Event.{event_of}
use Rattle.chaosd_lab.specs.Happen.{event_done}
use Rattle.chaosd_lab.specs.Settle.{settle_word, settle_done, WantsSettling}
use Rattle.chaosd_lab.specs.Start.{first_of}
use Rattle.chaosd_lab.specs.Wrong.{wrong_first, wrong_of}
use Rattle.chaosd_lab.specs.Script.{Done, Script}
use Rattle.chaos_conn.specs.Stored.{stored_packets}

-- what is printed of the laboratory's first copy
abbrev pub begun_text : LabView → List ℕ
begun_text l = copies_text 0 l.copies

-- what is printed at the end
abbrev pub end_text : LabView → List ℕ
end_text l = stored_line (stored_packets l.a.conn) (stored_packets l.b.conn)

-- what a line does: `settle`, or an event
abbrev pub line_done : List ℕ → Option (LabView → Done LabView)
line_done line = if bytes_eq line settle_word then Some settle_done else option_map event_done (event_of line)

-- what a line leaves at which memory runs out, and what is printed of it: an event changes nothing
abbrev pub WantsBy : (is_settle : Bool) → (before after : LabView) → List ℕ → Type 0
WantsBy true l after text = WantsSettling l after text
WantsBy false l after text = (after ≡ l) × (text ≡ refusal_text NoMemory)

-- every laboratory is ready, and where memory runs out that is told
abbrev pub lab_script : Script LabView
lab_script = record {
  first = first_of;
  begun = begun_text;
  event = line_done;
  first_wrong = wrong_first;
  wrong = wrong_of;
  ended = end_text;
  ready = λ l. ⊤;
  wants = λ l line after text. WantsBy (bytes_eq line settle_word) l after text;
}

-- whether an answer refuses; that there was no memory ends the run
abbrev pub refused_or_ended : {X : Type 0} → Result X LabFault → Result Bool RunFault
refused_or_ended (Ok stepped) = Ok false
refused_or_ended (Err NoMemory) = Err run.NoMemory
refused_or_ended (Err why) = Ok true
