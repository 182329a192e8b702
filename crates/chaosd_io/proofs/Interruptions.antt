-- Interruptions, counted.
use Rattle.std.proofs.Common.{◌≡◌, false, true, ℕ, zero, suc, ◌+◌, ◌<◌, ◌≤◌, refl, subst, arith}
use Rattle.std.specs.Prelude.{⊤, Option, None, Some, Result, Ok, Err}
use Rattle.std.specs.IoError.{error_kind}
use Rattle.std.specs.declared.io.Error.{Error}
use Rattle.std.specs.declared.io.ErrorKind.TheVariants.{Interrupted}
use Rattle.chaosd_io.specs.declared.fault.RunFault.{RunFault}
use Rattle.chaosd_io.specs.declared.fault.RunFault.TheVariants.{ReadFault}
use Rattle.chaosd_io.specs.declared.limits.TheConstants.{INTERRUPTIONS}
use Rattle.chaosd_io.specs.Input.{Tells, Counts}

-- Where it was known how often a reader is interrupted, it is known how often it still is: as often as wasn't counted.
abbrev pub Left : Option ℕ → Option ℕ → ℕ → ℕ → Type 0
Left None now old count = ⊤
Left (Some n) now old count = (m : ℕ) × (now ≡ Some m) × (count + m ≡ old + n)

pub all_left : (known : Option ℕ) (old : ℕ) → Left known known old old
all_left None old = tt
all_left (Some n) old = (n, refl, refl)

-- what a read told, where it is known how often the reader is interrupted
told_of : (now new : Option ℕ) (m : ℕ) (read read' : Result ℕ Error) → now ≡ Some m → read ≡ read' → Tells now new read
    → Tells (Some m) new read'
told_of now new m read read' at is told =
    subst (λ r. Tells (Some m) new r) is (subst (λ known. Tells known new read) at told)

no_answer : false ≡ true → ⊥
no_answer h = cc

-- one more came
pub one_counted : (known now new : Option ℕ) (old count : ℕ) (read : Result ℕ Error) (error : Error) → read ≡ Err error → Tells now new read → Left known now old count → Left known new old (count + 1)
one_counted None now new old count read error is told left = tt
one_counted (Some n) now new old count read error is told (m, at, sum) = by m sum (told_of now new m read (Err error) at is told)
  where
    by : (m : ℕ) → count + m ≡ old + n → Tells (Some m) new (Err error) → Left (Some n) new old (count + 1)
    by zero sum told = absurd (no_answer told)
    by (suc m) sum told = (m, told.1, omega (arith, sum))

no_fault : (x : ℕ) → ◌≡◌ {A = Result ℕ RunFault} (Ok x) (Err ReadFault) → ⊥
no_fault x h = cc

-- an answer came
pub answered : (known now new : Option ℕ) (old count : ℕ) (read : Result ℕ Error) (x : ℕ) → read ≡ Ok x
    → Tells now new read → Left known now old count → count < INTERRUPTIONS → Counts {A = ℕ} known old count (Ok x)
answered None now new old count read x is told left few = tt
answered (Some n) now new old count read x is told (m, at, sum)
    few = by m sum (told_of now new m read (Ok x) at is told)
  where
    by : (m : ℕ) → count + m ≡ old + n → Tells (Some m) new (Ok x) → Counts {A = ℕ} (Some n) old count (Ok x)
    by zero sum told = (λ less. (no_fault x, omega (arith, sum)), λ more. absurd (omega (arith, sum, few, more)))
    by (suc m) sum told = absurd told.0

-- as many came as may
pub too_many : (known now : Option ℕ) (old count : ℕ) → Left known now old count → INTERRUPTIONS ≤ count
    → Counts {A = ℕ} known old count (Err ReadFault)
too_many None now old count left many = tt
too_many (Some n) now old count (m, at, sum) many = (λ less. absurd (omega (arith, sum, many, less)), λ more. refl)

-- another error came, of which a reader with known interruptions has none
pub failed : (known now new : Option ℕ) (old count : ℕ) (read : Result ℕ Error) (error : Error) → read ≡ Err error → (error_kind error ≡ Interrupted → ⊥) → Tells now new read → Left known now old count
    → Counts {A = ℕ} known old count (Err ReadFault)
failed None now new old count read error is other told left = tt
failed (Some n) now new old count read error is other told (m, at, sum) = by m (told_of now new m read (Err error) at is told)
  where
    by : (m : ℕ) → Tells (Some m) new (Err error) → Counts {A = ℕ} (Some n) old count (Err ReadFault)
    by zero told = absurd (no_answer told)
    by (suc m) told = absurd (other told.0)
