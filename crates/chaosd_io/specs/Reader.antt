-- A reader of lines, and what it has given of an input.
use Rattle.std.specs.Prelude.{◌≡◌, ℕ, ◌+◌, ◌<◌, ◌≤◌, Bool, true, false, List, [], ◌∷◌, ◌++◌, All, length, take, Option, Some, None, IfSome, Result, Ok, Err}
use Rattle.std.specs.Io.KnownBytes.{Consumes, Keeps, IsAtEnd}
use Rattle.chaosd_io.specs.declared.fault.RunFault.{RunFault}
use Rattle.chaosd_io.specs.declared.fault.RunFault.TheVariants.{ReadFault, WriteFault, InputTooLong, NoMemory, BadScript, LinkFault, ClockFault}
use Rattle.chaosd_io.specs.Lines.{is_newline, pieces_of, lines_of, ended_lines}

-- What a reader of lines shows: the present line, what is kept of the line whose end hasn't come, what came behind that
-- and isn't cut yet, how many more bytes may come, and how often its reads were interrupted.
pub record LinesView : Type 0 where
  pub line : List ℕ
  pub begun : List ℕ
  pub waiting : List ℕ
  pub room : ℕ
  pub interruptions : ℕ

-- what is left of an input at most
abbrev pub left_of : LinesView → ℕ
left_of v = v.room + length v.waiting

-- ---- one call

-- A line's end was cut off from what waits, or all that waits was looked at, in which there is none.
abbrev pub Cuts : LinesView → LinesView → Bool → Type 0
Cuts old new true =
    (piece : List ℕ) × All (λ b. is_newline b ≡ false) piece × (old.waiting ≡ piece ++ 10 ∷ new.waiting)
    × (new.line ≡ old.begun ++ piece) × (new.begun ≡ []) × (new.room ≡ old.room)
Cuts old new false =
    All (λ b. is_newline b ≡ false) old.waiting × (new.waiting ≡ []) × (new.begun ≡ old.begun ++ old.waiting)
    × (new.room ≡ old.room)

-- A chunk came, of which nothing is cut yet; or the reader failed, or gave more than may come.
abbrev pub Refills : ℕ → Option (List ℕ) → Option (List ℕ) → LinesView → LinesView → Result Bool RunFault → Type 0
Refills kept input rest old new (Ok true) =
    Consumes input rest new.waiting × (0 < length new.waiting) × (new.begun ≡ take kept old.begun)
    × (new.room + length new.waiting ≡ old.room)
Refills kept input rest old new (Ok false) =
    Consumes input rest [] × IsAtEnd rest × (new.begun ≡ take kept old.begun) × (new.waiting ≡ [])
    × (new.room ≡ old.room)
Refills kept input rest old new (Err ReadFault) = Keeps input rest
Refills kept input rest old new (Err InputTooLong) =
    (old.room ≡ 0) × (over : List ℕ) × (0 < length over) × Consumes input rest over
Refills kept input rest old new (Err WriteFault) = ⊥
Refills kept input rest old new (Err NoMemory) = ⊥
Refills kept input rest old new (Err (BadScript number)) = ⊥
Refills kept input rest old new (Err LinkFault) = ⊥
Refills kept input rest old new (Err ClockFault) = ⊥

-- ---- what was given

-- These lines were given of an input of at most `limit` bytes. `read` is what came of it, and `begun` the line whose
-- end hasn't come; whatever comes after goes on with what waits.
pub record Gives (kept limit : ℕ) (input rest : Option (List ℕ)) (given : List (List ℕ)) (v : LinesView) : Type 0 where
  pub read : List ℕ
  pub begun : List ℕ
  pub came : Consumes input rest read
  pub room : v.room + length read ≡ limit
  pub front : take kept v.begun ≡ take kept begun
  pub unended : All (λ b. is_newline b ≡ false) begun
  pub goes_on : (more : List ℕ) → pieces_of (read ++ more) ≡ given ++ pieces_of (begun ++ (v.waiting ++ more))

-- All lines were given, and the input has ended within the limit.
pub record Done (limit : ℕ) (input rest : Option (List ℕ)) (given : List (List ℕ)) : Type 0 where
  pub lines : IfSome input (λ all. (length all ≤ limit) × (lines_of all ≡ given))
  pub ended : IsAtEnd rest

-- The next line was given, and the present line begins as it does, as far as a line is kept; or all lines that ended in
-- what came were given.
abbrev pub GivesNext : ℕ → ℕ → Option (List ℕ) → Option (List ℕ) → List (List ℕ) → LinesView → Bool → Type 0
GivesNext kept limit input rest given v true =
    (raw : List ℕ) × (take kept v.line ≡ take kept raw) × Gives kept limit input rest (given ++ raw ∷ []) v
GivesNext kept limit input rest given v false = Gives kept limit input rest given v × (v.waiting ≡ [])

-- More came; or the input has ended; or the reader failed, and the lines that ended in what came were given; or the
-- lines that ended within the limit were given, and the input goes past it.
abbrev pub GivesMore : ℕ → ℕ → Option (List ℕ) → Option (List ℕ) → List (List ℕ) → LinesView → Result Bool RunFault
    → Type 0
GivesMore kept limit input rest given v (Ok true) = Gives kept limit input rest given v
GivesMore kept limit input rest given v (Ok false) =
    Gives kept limit input rest given v × (v.waiting ≡ []) × IsAtEnd rest
GivesMore kept limit input rest given v (Err ReadFault) =
    (read : List ℕ) × Consumes input rest read × (given ≡ ended_lines read)
GivesMore kept limit input rest given v (Err InputTooLong) =
    IfSome input (λ all. (limit < length all) × (given ≡ ended_lines (take limit all)))
GivesMore kept limit input rest given v (Err WriteFault) = ⊥
GivesMore kept limit input rest given v (Err NoMemory) = ⊥
GivesMore kept limit input rest given v (Err (BadScript number)) = ⊥
GivesMore kept limit input rest given v (Err LinkFault) = ⊥
GivesMore kept limit input rest given v (Err ClockFault) = ⊥

-- At the end of an input the last line, which has no end, was given; or there is none, and all lines were given.
abbrev pub GivesLast : ℕ → ℕ → Option (List ℕ) → Option (List ℕ) → List (List ℕ) → Option (List ℕ) → Type 0
GivesLast kept limit input rest given (Some line) =
    (raw : List ℕ) × (take kept line ≡ take kept raw) × Done limit input rest (given ++ raw ∷ [])
GivesLast kept limit input rest given None = Done limit input rest given
