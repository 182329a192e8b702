-- What the data of a request say: a contact name, and where a space (byte 32) follows it, arguments after that.
use Rattle.std.specs.List.{before_first, after_first}
use Rattle.std.specs.Prelude.{ℕ, ◌==◌, List}

-- the bytes before the first space
abbrev pub contact_in : List ℕ → List ℕ
contact_in bytes = before_first (λ b. b == 32) bytes

-- the bytes after the first space, and none where there is no space
abbrev pub arguments_in : List ℕ → List ℕ
arguments_in bytes = after_first (λ b. b == 32) bytes
