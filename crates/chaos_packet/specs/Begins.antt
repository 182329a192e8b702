-- Beginnings of lists.
use Rattle.std.specs.Prelude.{◌≡◌, List, length, take}

-- xs is the first members of ys
abbrev pub Begins : {X : Type 0} → List X → List X → Type 0
Begins xs ys = take (length xs) ys ≡ xs
