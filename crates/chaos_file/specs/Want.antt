-- Out-of-memory replies.
use Rattle.std.specs.Prelude.{ℕ, Bool, true, false, List, Option, Some, None, Result, Err}
use Rattle.std.specs.Str.{bytes_eq}
use Rattle.chaos_file.specs.declared.error.FileError.{FileError}
use Rattle.chaos_file.specs.declared.error.FileError.TheVariants as e
use Rattle.chaos_file.specs.Answer.{Answer}
use Rattle.chaos_file.specs.Error.{error_text}
use Rattle.chaos_file.specs.Grammar.{cut, space}

abbrev pub want_text : Option (List ℕ × List ℕ) → Bool
want_text None = false
want_text (Some p) = bytes_eq p.1 (error_text e.NoMemory)

abbrev pub want_after : Option (List ℕ × List ℕ) → Bool
want_after None = false
want_after (Some p) = want_text (cut space p.1)

-- the bytes are tid SP handle SP and the error MEM
abbrev pub is_want : List ℕ → Bool
is_want reply = want_after (cut space reply)

-- the outcome of a command is out of memory
abbrev pub is_no_memory : Result Answer FileError → Bool
is_no_memory (Err e.NoMemory) = true
is_no_memory _ = false
