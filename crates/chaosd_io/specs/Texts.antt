-- Lines and numbers as text.
use Rattle.std.specs.Prelude.{ℕ, ◌+◌, ◌/◌, ◌%◌, List, [], ◌∷◌, ◌++◌}

-- a text, and the byte 10 that ends its line
abbrev pub line : List ℕ → List ℕ
line text = text ++ 10 ∷ []

-- three octal digits
abbrev pub octal_three : ℕ → List ℕ
octal_three n = (48 + n / 64) ∷ (48 + n / 8 % 8) ∷ (48 + n % 8) ∷ []
