-- The fields of a line, which single spaces divide.
use Rattle.std.specs.Prelude.{ℕ, ◌+◌, ◌==◌, List, [], take, drop, Option, Some, None, option_map, position}

-- the bytes before the first space, and those after it
abbrev pub cut : List ℕ → Option (List ℕ × List ℕ)
cut bytes = option_map (λ i. (take i bytes, drop (i + 1) bytes)) (position (λ b. b == 32) bytes)

abbrev pub field_or_all : List ℕ → Option (List ℕ × List ℕ) → List ℕ × List ℕ
field_or_all bytes None = (bytes, [])
field_or_all bytes (Some parts) = parts

-- a field, and the text behind it: none where it is left out
abbrev pub field_and_text : List ℕ → List ℕ × List ℕ
field_and_text bytes = field_or_all bytes (cut bytes)
