-- What reading an input in chunks does.
use Rattle.std.specs.Prelude.{◌≡◌, ◌≢◌, ⊤, ℕ, zero, suc, ◌+◌, ◌≤◌, ◌<◌, List, length, take, Option, Some, None, Result, Ok, Err, IsOk, IsErrAnd}
use Rattle.std.specs.Io.KnownBytes.{Consumes, Keeps, IsAtEnd}
use Rattle.std.specs.IoError.{error_kind}
use Rattle.std.specs.declared.io.Error.{Error}
use Rattle.std.specs.declared.io.ErrorKind.TheVariants.{Interrupted}
use Rattle.chaosd_io.specs.declared.fault.RunFault.{RunFault}
use Rattle.chaosd_io.specs.declared.fault.RunFault.TheVariants.{ReadFault}
use Rattle.chaosd_io.specs.declared.limits.TheConstants.{INTERRUPTIONS}

-- The first count bytes of the chunk came, none only at the end; or the reader failed, and nothing came.
abbrev pub ReadsOn : Option (List ℕ) → Option (List ℕ) → List ℕ → Result ℕ RunFault → Type 0
ReadsOn old new chunk (Ok count) =
    (count ≤ length chunk) × Consumes old new (take count chunk) × (count ≡ 0 → IsAtEnd new)
ReadsOn old new chunk (Err fault) = Keeps old new × (fault ≡ ReadFault)

-- ---- interruptions

-- Where it is known how often a reader is interrupted before it answers, a read is interrupted so often, and then
-- answers.
abbrev pub Tells : Option ℕ → Option ℕ → Result ℕ Error → Type 0
Tells None new result = ⊤
Tells (Some zero) new result = IsOk result
Tells (Some (suc n)) new result = IsErrAnd result (λ e. error_kind e ≡ Interrupted) × (new ≡ Some n)

-- Interruptions that are known are all counted, and are no fault so long as those of the run are fewer than it may
-- have; else they are a ReadFault.
abbrev pub Counts : {A : Type 0} → Option ℕ → ℕ → ℕ → Result A RunFault → Type 0
Counts None old new result = ⊤
Counts (Some n) old new result =
    (old + n < INTERRUPTIONS → (result ≢ Err ReadFault) × (new ≡ old + n))
    × (INTERRUPTIONS ≤ old + n → result ≡ Err ReadFault)
