-- What writing an output in pieces does.
use Rattle.std.specs.Prelude.{◌≡◌, ⊤, ℕ, zero, suc, ◌-◌, ◌^◌, ◌≤◌, ◌<◌, List, length, Option, Some, None, Result, Ok, Err, IsOk}
use Rattle.std.specs.IoError.{error_kind}
use Rattle.std.specs.declared.io.Error.{Error}
use Rattle.std.specs.declared.io.ErrorKind.TheVariants.{Interrupted}

-- Where it is known how often writes will be interrupted, an interruption is one of these, and every other write takes at
-- least one byte of those that it is given.
abbrev pub Takes : List ℕ → Option ℕ → Option ℕ → Result ℕ Error → Type 0
Takes bytes None new result = ⊤
Takes bytes (Some n) new (Ok count) = (0 < length bytes → 0 < count) × (new ≡ Some n)
Takes bytes (Some zero) new (Err error) = ⊥
Takes bytes (Some (suc n)) new (Err error) = (error_kind error ≡ Interrupted) × (new ≡ Some n)

-- Interruptions that are known are made up for: at most so many are left, and no write fails where they are fewer than a
-- writer may have in a row.
abbrev pub GoesOn : {A : Type 0} → Option ℕ → Option ℕ → Result A Error → Type 0
GoesOn None new result = ⊤
GoesOn (Some n) new result = (m : ℕ) × (new ≡ Some m) × (m ≤ n) × (n < 2 ^ 64 - 1 → IsOk result)
