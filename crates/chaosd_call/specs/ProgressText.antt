-- A name that is shortened.
use Rattle.std.specs.Prelude.{ℕ, ◌-◌, List, drop, length}

-- so many bytes at the end of a text
abbrev pub end_of : List ℕ → ℕ → List ℕ
end_of text count = drop (length text - count) text
