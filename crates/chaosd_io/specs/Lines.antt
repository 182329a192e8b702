-- The lines of an input.
use Rattle.std.specs.Prelude.{◌≡◌, ◌≤◌, ◌⊎◌, ℕ, Bool, false, List, [], ◌∷◌, ◌++◌, All, length, take, ◌==◌, if◌then◌else◌}
use Rattle.std.specs.List.{slice_split}

-- a byte 10 ends a line
abbrev pub is_newline : ℕ → Bool
is_newline b = b == 10

-- what stands between the bytes 10: one piece more than there are of them
abbrev pub pieces_of : List ℕ → List (List ℕ)
pieces_of input = slice_split is_newline input

abbrev pub all_but_last : List (List ℕ) → List (List ℕ)
all_but_last [] = []
all_but_last (piece ∷ []) = []
all_but_last (piece ∷ next ∷ others) = piece ∷ all_but_last (next ∷ others)

-- the lines that a byte 10 ended: all pieces but the last
abbrev pub ended_lines : List ℕ → List (List ℕ)
ended_lines input = all_but_last (pieces_of input)

abbrev pub without_empty_last : List (List ℕ) → List (List ℕ)
without_empty_last [] = []
without_empty_last (piece ∷ []) = if length piece == 0 then [] else piece ∷ []
without_empty_last (piece ∷ next ∷ others) = piece ∷ without_empty_last (next ∷ others)

-- all lines: the last piece is one too, where it isn't empty
abbrev pub lines_of : List ℕ → List (List ℕ)
lines_of input = without_empty_last (pieces_of input)

-- A reader of at most `limit` bytes meets the line with this number: it ends within the limit, or the input does.
abbrev pub IsMet : ℕ → ℕ → List ℕ → Type 0
IsMet limit number input = (number ≤ length (ended_lines (take limit input))) ⊎ (length input ≤ limit)

-- The bytes are a line without its end, the byte 10, and what comes after it.
pub record IsCut (bytes line after : List ℕ) : Type 0 where
  pub whole : bytes ≡ line ++ 10 ∷ after
  pub unended : All (λ b. is_newline b ≡ false) line
