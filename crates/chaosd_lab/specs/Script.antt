-- Scripts: what their lines say, and their text as a fold over the lines.
use Rattle.std.specs.Prelude.{◌≡◌, ◌≢◌, ℕ, ◌+◌, ◌-◌, ◌<◌, Bool, List, [], ◌∷◌, ◌++◌, length, take, Option, Some, None, option_map, slice_get, nat_lt, if◌then◌else◌}
use Rattle.std.specs.Io.BufRead.{strip_last}
use Rattle.std.specs.Io.KnownBytes.{Appends}
use Rattle.chaosd_io.specs.declared.limits.TheConstants.{LINE_LIMIT}
use Rattle.chaosd_lab.specs.declared.bad_line.BadLine.{BadLine}
use Rattle.chaosd_lab.specs.declared.bad_line.BadLine.TheVariants.{NoEnds, TooLong}

-- what a line did in a laboratory: the laboratory after it, what is printed of it, and whether its event was refused
pub record Done (X : Type 0) : Type 0 where
  pub lab : X
  pub text : List ℕ
  pub is_refused : Bool

-- The language of a script whose laboratories look so.
pub record Script (X : Type 0) : Type 1 where
  -- the laboratory of a first line, where it is of that form, and what is printed of it
  pub first : List ℕ → Option X
  pub begun : X → List ℕ
  -- what a later line does, where it is of the form of one
  pub event : List ℕ → Option (X → Done X)
  -- what is wrong with a first line of no form, and with a later one
  pub first_wrong : List ℕ → BadLine
  pub wrong : List ℕ → BadLine
  -- what is printed at the end
  pub ended : X → List ℕ
  -- the laboratories in which lines do what `event` says
  pub ready : X → Type 0
  -- what a line that runs out of memory in a laboratory leaves of it, and what is printed
  pub wants : (before : X) → List ℕ → (after : X) → List ℕ → Type 0

-- what was played: the laboratory, what was printed, and how many events were refused
pub record Played (X : Type 0) : Type 0 where
  pub lab : X
  pub text : List ℕ
  pub refused : ℕ

-- a laboratory that was just made
abbrev pub start_play : {X : Type 0} → Script X → X → Played X
start_play script l = record { lab = l; text = script.begun l; refused = 0 }

-- one event more
abbrev pub with_done : {X : Type 0} → Played X → Done X → Played X
with_done p d = record {
  lab = d.lab;
  text = p.text ++ d.text;
  refused = p.refused + (if d.is_refused then 1 else 0);
}

-- what a line says by this reading, where it isn't too long. A byte 13 at its end is ignored
abbrev pub says_by : {X : Type 0} → (List ℕ → Option X) → List ℕ → Option X
says_by reading raw = if nat_lt LINE_LIMIT (length (strip_last 13 raw)) then None else reading (strip_last 13 raw)

abbrev pub with_reading : {X : Type 0} → Played X → Option (X → Done X) → Option (Played X)
with_reading p None = None
with_reading p (Some does) = Some (with_done p (does p.lab))

-- one line more: None where it is of no form
abbrev pub with_line : {X : Type 0} → Script X → Option (Played X) → List ℕ → Option (Played X)
with_line script None raw = None
with_line script (Some p) raw = with_reading p (says_by script.event raw)

-- the lines behind the first
abbrev pub play_on : {X : Type 0} → Script X → Option (Played X) → List (List ℕ) → Option (Played X)
play_on script p [] = p
play_on script p (raw ∷ lines) = play_on script (with_line script p raw) lines

-- what lines play: None where there is none, or where one is of no form
abbrev pub play_of : {X : Type 0} → Script X → List (List ℕ) → Option (Played X)
play_of script [] = None
play_of script (first ∷ lines) = play_on script (option_map (start_play script) (says_by script.first first)) lines

-- what is printed of these lines
abbrev pub text_of : {X : Type 0} → Option (Played X) → List ℕ
text_of None = []
text_of (Some p) = p.text

-- the number of the first line that is missing or of no form, counted from 1
pub record IsFirstBad {X : Type 0} (script : Script X) (number : ℕ) (lines : List (List ℕ)) : Type 0 where
  pub counts : 0 < number
  pub bad : play_of script (take number lines) ≡ None
  pub good : (n : ℕ) → 0 < n → n < number → play_of script (take n lines) ≢ None

-- what is wrong with a line by this reading, where it says nothing: it may be too long
abbrev pub wrong_by : (List ℕ → BadLine) → List ℕ → BadLine
wrong_by reading raw = if nat_lt LINE_LIMIT (length (strip_last 13 raw)) then TooLong else reading (strip_last 13 raw)

-- what is wrong with the line behind these: a first line, or a later one
abbrev pub wrong_behind : {X : Type 0} → Script X → List (List ℕ) → List ℕ → BadLine
wrong_behind script [] raw = wrong_by script.first_wrong raw
wrong_behind script (first ∷ lines) raw = wrong_by script.wrong raw

abbrev pub wrong_at : {X : Type 0} → Script X → List (List ℕ) → Option (List ℕ) → BadLine
wrong_at script ended None = NoEnds
wrong_at script ended (Some raw) = wrong_behind script ended raw

-- what is wrong with the bad line of this number, counted from 1: a line that is missing is the first
abbrev pub wrong_line : {X : Type 0} → Script X → ℕ → List (List ℕ) → BadLine
wrong_line script number lines = wrong_at script (take (number - 1) lines) (slice_get lines (number - 1))

-- No line of these is of no form.
abbrev pub NoneBad : {X : Type 0} → Script X → List (List ℕ) → Type 0
NoneBad script lines = lines ≢ [] → play_of script lines ≢ None

-- A line did what the language says, and what came of it was written.
pub record PlaysLine {X : Type 0} (script : Script X) (line : List ℕ) (before after : X) (old new : Option (List ℕ))
    (refused : Bool) : Type 0 where
  pub does : X → Done X
  pub said : script.event line ≡ Some does
  pub lab : after ≡ (does before).lab
  pub text : Appends old new (does before).text
  pub count : refused ≡ (does before).is_refused
