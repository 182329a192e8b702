-- What a line does: `settle`, or an event.
use Rattle.std.proofs.Common.{◌≡◌, ◌≢◌, Bool, true, false, cond, List, ℕ, ◌++◌, refl, ap, subst, ◌∙◌, sym}
use Rattle.std.specs.Prelude.{Option, None, Some, option_map}
use Rattle.std.specs.Str.{bytes_eq}
use Rattle.std.specs.Io.KnownBytes.{Appends, Keeps}
use Rattle.chaos_lab.specs.declared.fault.LabFault.TheVariants.{NoMemory}
use Rattle.chaos_lab.specs.Laboratory.{LabView, Happening}
use Rattle.chaosd_io.specs.Buffer.{written_of}
use Rattle.chaosd_lab.specs.Script.{PlaysLine}
use Rattle.chaosd_lab.proofs.Plays.{waits_more}
use Rattle.chaosd_lab.specs.Answers.{refusal_text}
use Rattle.chaosd_lab.specs.Event.{event_of}
use Rattle.chaosd_lab.specs.Happen.{event_done, PlaysEvent}
use Rattle.chaosd_lab.specs.Settle.{settle_word, settle_done, WantsSettling}
use Rattle.chaosd_lab.specs.Play.{line_done, lab_script, WantsBy}

pub keeps_same : (held : Option (List ℕ)) (old new : List ℕ) → new ≡ old
    → Keeps (written_of held old) (written_of held new)
keeps_same None old new e = tt
keeps_same (Some x) old new e = ap (λ l. x ++ l) e

-- the line `settle` was played
pub settle_plays : (line : List ℕ) (before after : LabView) (old new : Option (List ℕ)) (refused : Bool)
    → bytes_eq line settle_word ≡ true
    → (after ≡ (settle_done before).lab) × (refused ≡ (settle_done before).is_refused)
    × Appends old new (settle_done before).text
    → PlaysLine lab_script line before after old new refused
settle_plays line before after old new refused is (lab, count, text) = record {
  does = settle_done;
  said = ap (λ b. cond b (Some settle_done) (option_map event_done (event_of line))) is;
  lab = lab;
  text = text;
  count = count;
}

-- memory ran out at it
pub settle_wants : (line : List ℕ) (l after : LabView) (text : List ℕ) → bytes_eq line settle_word ≡ true
    → WantsSettling l after text → (line_done line ≢ None) × lab_script.wants l line after text
settle_wants line l after text is wants = (
  λ none. some_done (sym (ap (λ b. cond b (Some settle_done) (option_map event_done (event_of line))) is) ∙ none),
  subst (λ b. WantsBy b l after text) (sym is) wants,
)
  where
    some_done : Some settle_done ≡ None → ⊥
    some_done h = cc

-- another line was played
pub event_line_plays : (line : List ℕ) (before after : LabView) (held : Option (List ℕ)) (old new : List ℕ)
    (refused : Bool)
    → bytes_eq line settle_word ≡ false
    → (event : Happening) × (event_of line ≡ Some event) × PlaysEvent event before after old new refused
    → PlaysLine lab_script line before after (written_of held old) (written_of held new) refused
event_line_plays line before after held old new refused is (event, said, plays) = record {
  does = event_done event;
  said =
      ap (λ b. cond b (Some settle_done) (option_map event_done (event_of line))) is ∙ ap (option_map event_done) said;
  lab = plays.lab;
  text = waits_more held old new _ plays.text;
  count = plays.count;
}

no_event : (said : Option Happening) → option_map event_done said ≡ None → said ≡ None
no_event None h = refl
no_event (Some event) h = absurd (cc)

-- it asks for no event
pub bad_line : (line : List ℕ) → bytes_eq line settle_word ≡ false → event_of line ≡ None → line_done line ≡ None
bad_line line is none =
    ap (λ b. cond b (Some settle_done) (option_map event_done (event_of line))) is ∙ ap (option_map event_done) none

-- memory ran out at it
pub event_line_wants : (line : List ℕ) (l after : LabView) (held : Option (List ℕ)) (old new : List ℕ)
    → bytes_eq line settle_word ≡ false → event_of line ≢ None → after ≡ l → new ≡ old ++ refusal_text NoMemory
    → (line_done line ≢ None)
    × ((text : List ℕ) × lab_script.wants l line after text
    × Appends (written_of held old) (written_of held new) text)
event_line_wants line l after held old new is said same text = (
  λ none. said
      (no_event (event_of line)
      (sym (ap (λ b. cond b (Some settle_done) (option_map event_done (event_of line))) is) ∙ none)),
  (refusal_text NoMemory, subst (λ b. WantsBy b l after (refusal_text NoMemory)) (sym is) (same, refl), waits_more held old new (refusal_text NoMemory) text),
)
