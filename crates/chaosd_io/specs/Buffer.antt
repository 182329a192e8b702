-- What a writer and a buffer before it hold.
use Rattle.std.specs.Prelude.{ℕ, List, Option}
use Rattle.std.specs.Io.KnownBytes.{append_known}

-- all that was written: what a writer holds, and then the bytes that wait
abbrev pub written_of : Option (List ℕ) → List ℕ → Option (List ℕ)
written_of held waiting = append_known held waiting
