-- What a run over a script has done with an input.
use Rattle.std.specs.Prelude.{◌≡◌, ◌≢◌, ℕ, ◌+◌, ◌-◌, ◌<◌, ◌≤◌, List, [], ◌∷◌, ◌++◌, Option, Some, None, IfSome, Result, Err, length, take, slice_get, ⊤}
use Rattle.std.specs.Io.BufRead.{strip_last}
use Rattle.std.specs.Io.KnownBytes.{Appends, Consumes}
use Rattle.chaosd_io.specs.declared.fault.RunFault.{RunFault}
use Rattle.chaosd_io.specs.declared.fault.RunFault.TheVariants as run
use Rattle.chaosd_io.specs.declared.limits.TheConstants.{INPUT_LIMIT, KEPT_LEN}
use Rattle.chaosd_io.specs.Lines.{lines_of, ended_lines, IsMet}
use Rattle.chaosd_io.specs.Reader.{LinesView, Gives, Done}
use Rattle.chaosd_lab.specs.declared.bad_line.BadLine.{BadLine}
use Rattle.chaosd_lab.specs.declared.standing.Standing.{Standing}
use Rattle.chaosd_lab.specs.Script.{Script, Played, play_of, text_of, IsFirstBad, NoneBad, wrong_behind, wrong_line}

-- ---- Lines

-- the laboratory and the count are those of the lines that were played: none before the first
abbrev pub IsAt : {X : Type 0} → Script X → Option X → ℕ → List (List ℕ) → Type 0
IsAt script None refused ended = (ended ≡ []) × (refused ≡ 0)
IsAt {X = X} script (Some lab) refused
    ended = (p : Played X) × (play_of script ended ≡ Some p) × (p.lab ≡ lab) × (p.refused ≡ refused) × script.ready lab

-- These lines were played and counted, and their text was written behind what stood there before.
pub record PlaysLines {X : Type 0} (script : Script X) (before written : Option (List ℕ)) (at : Standing X)
    (ended : List (List ℕ)) : Type 0 where
  pub state : IsAt script at.lab at.refused ended
  pub text : Appends before written (text_of (play_of script ended))
  pub count : at.lines ≡ length ended

-- what is printed when memory runs out of a line behind what was played: nothing where the laboratory couldn't be made
abbrev pub IsWantText : {X : Type 0} → Script X → Option (Played X) → List ℕ → List ℕ → Type 0
IsWantText script None line text = text ≡ []
IsWantText {X = X} script (Some p) line text = (after : X) × script.wants p.lab (strip_last 13 line) after text

-- the faults of a line
abbrev pub IsLineFault : RunFault → Type 0
IsLineFault (run.BadScript number) = ⊤
IsLineFault run.NoMemory = ⊤
IsLineFault run.WriteFault = ⊤
IsLineFault _ = ⊥

-- Why the line behind those that were played wasn't: it is of no form, or it ran out of memory; or the writer failed,
-- of which nothing is said.
abbrev pub StopsLine : {X : Type 0} → Script X → Option (List ℕ) → Option (List ℕ) → List (List ℕ) → List ℕ
    → Option BadLine → RunFault → Type 0
StopsLine script before written ended line wrong (run.BadScript number) =
    (number ≡ length ended + 1) × (play_of script (ended ++ line ∷ []) ≡ None)
    × Appends before written (text_of (play_of script ended)) × (wrong ≡ Some (wrong_behind script ended line))
StopsLine script before written ended line wrong run.NoMemory =
    (play_of script (ended ++ line ∷ []) ≢ None) × (text : List ℕ) × IsWantText script (play_of script ended) line text
    × Appends before written (text_of (play_of script ended) ++ text)
StopsLine script before written ended line wrong run.WriteFault = ⊤
StopsLine script before written ended line wrong _ = ⊥

-- a line more was played: more was written, and the standing is that behind it
abbrev pub PlaysOn : {X : Type 0} → Script X → (old_written : Option (List ℕ)) → (old : Standing X) → (line : List ℕ)
    → (new_written : Option (List ℕ)) → (new : Standing X) → Type 0
PlaysOn script old_written old line new_written new =
    (before : Option (List ℕ)) → (ended : List (List ℕ)) → PlaysLines script before old_written old ended
    → PlaysLines script before new_written new (ended ++ line ∷ [])

-- why it wasn't
abbrev pub StopsOn : {X : Type 0} → Script X → (old_written : Option (List ℕ)) → (old : Standing X) → (line : List ℕ)
    → (new_written : Option (List ℕ)) → Option BadLine → RunFault → Type 0
StopsOn script old_written old line new_written wrong fault =
    (before : Option (List ℕ)) → (ended : List (List ℕ)) → PlaysLines script before old_written old ended
    → StopsLine script before new_written ended line wrong fault

-- ---- Inputs

-- The lines that were given of an input were played.
pub record PlaysGiven {X : Type 0} (script : Script X) (input rest before written : Option (List ℕ)) (at : Standing X)
    (lines : LinesView) : Type 0 where
  pub given : List (List ℕ)
  pub gives : Gives KEPT_LEN INPUT_LIMIT input rest given lines
  pub plays : PlaysLines script before written at given

-- All lines of an input were played.
pub record PlaysDone {X : Type 0} (script : Script X) (input rest before written : Option (List ℕ))
    (at : Standing X) : Type 0 where
  pub given : List (List ℕ)
  pub done : Done INPUT_LIMIT input rest given
  pub plays : PlaysLines script before written at given

-- All lines of the input were played, and the text of all was written.
abbrev pub PlaysAll : {X : Type 0} → Script X → Option (List ℕ) → Option (List ℕ) → ℕ → List ℕ → Type 0
PlaysAll {X = X} script before written refused
    input = (p : Played X) × (play_of script (lines_of input) ≡ Some p) × (refused ≡ p.refused)
    × Appends before written (p.text ++ script.ended p.lab)

-- The input has no more bytes than it may have, and all its lines were played.
abbrev pub PlaysWithin : {X : Type 0} → Script X → Option (List ℕ) → Option (List ℕ) → ℕ → List ℕ → Type 0
PlaysWithin script before written refused input =
    (length input ≤ INPUT_LIMIT) × PlaysAll script before written refused input

-- This line of the input is the first that is missing or of no form, it ends within the limit or the input does, and
-- the text of the lines before it was written.
abbrev pub StopsAt : {X : Type 0} → Script X → Option (List ℕ) → Option (List ℕ) → ℕ → List ℕ → Type 0
StopsAt script before written number input =
    IsFirstBad script number (lines_of input) × IsMet INPUT_LIMIT number input
    × Appends before written (text_of (play_of script (take (number - 1) (lines_of input))))

-- A line of the input ran out of memory that is of the form of its place, it ends within the limit or the input does,
-- and the text of the lines before it was written, and what is printed of such a line.
abbrev pub Wants : {X : Type 0} → Script X → Option (List ℕ) → Option (List ℕ) → List ℕ → Type 0
Wants script before written input =
    (n : ℕ) × (line : List ℕ) × (slice_get (lines_of input) n ≡ Some line)
    × (play_of script (take (n + 1) (lines_of input)) ≢ None)
    × IsMet INPUT_LIMIT (n + 1) input
    × (text : List ℕ) × IsWantText script (play_of script (take n (lines_of input))) line text
    × Appends before written (text_of (play_of script (take n (lines_of input))) ++ text)

-- What was written to a writer is the text of the lines that ended in what was read of an input, of which none is of no
-- form.
abbrev pub PlaysRead : {X : Type 0} → Script X → Option (List ℕ) → Option (List ℕ) → Option (List ℕ) → Option (List ℕ)
    → Type 0
PlaysRead script input rest old new =
    (read : List ℕ) × Consumes input rest read × NoneBad script (ended_lines read)
    × Appends old new (text_of (play_of script (ended_lines read)))

-- The input has more bytes than it may have, no line that ended within the limit is of no form, and the text of those
-- was written.
abbrev pub PlaysFront : {X : Type 0} → Script X → Option (List ℕ) → Option (List ℕ) → List ℕ → Type 0
PlaysFront script before written input =
    (INPUT_LIMIT < length input) × NoneBad script (ended_lines (take INPUT_LIMIT input))
    × Appends before written (text_of (play_of script (ended_lines (take INPUT_LIMIT input))))

-- A bad line stopped the run, and this is wrong with it.
abbrev pub StopsBad : {X : Type 0} → Script X → Option (List ℕ) → Option (List ℕ) → Option BadLine → ℕ → List ℕ → Type 0
StopsBad script before written wrong number input =
    StopsAt script before written number input × (wrong ≡ Some (wrong_line script number (lines_of input)))

-- Why a run over a reader's input ended early, and what was written.
abbrev pub StopsRun : {X : Type 0} → Script X → Option (List ℕ) → Option (List ℕ) → Option (List ℕ) → Option (List ℕ)
    → Option BadLine → RunFault → Type 0
StopsRun script input rest before written wrong (run.BadScript number) =
    IfSome input (StopsBad script before written wrong number)
StopsRun script input rest before written wrong run.NoMemory = IfSome input (Wants script before written)
StopsRun script input rest before written wrong run.InputTooLong = IfSome input (PlaysFront script before written)
StopsRun script input rest before written wrong run.ReadFault = PlaysRead script input rest before written
StopsRun script input rest before written wrong run.WriteFault = ⊤
StopsRun script input rest before written wrong _ = ⊥

-- ---- What is reported as wrong

-- what is wrong with a line, where the fault is that of a bad line
abbrev pub wrong_if_bad : RunFault → Option BadLine → Option BadLine
wrong_if_bad (run.BadScript number) wrong = wrong
wrong_if_bad _ wrong = None

-- No bad line ended the run, and nothing is reported as wrong; or a bad line did, of which nothing is said here.
abbrev pub HasNoneWrong : Result ℕ RunFault → Option BadLine → Type 0
HasNoneWrong (Err (run.BadScript number)) wrong = ⊤
HasNoneWrong _ wrong = wrong ≡ None
