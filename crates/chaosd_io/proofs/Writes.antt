-- Interrupted writes, made again.
use Rattle.std.proofs.Common.{◌≡◌, false, true, ℕ, ◌+◌, refl, subst, arith}
use Rattle.std.specs.Prelude.{⊤, Option, None, Some, Result, Ok, Err, IsOk}
use Rattle.std.specs.declared.io.Error.{Error}
use Rattle.chaosd_io.specs.Output.{GoesOn}

-- Each try so far was an interruption, where it is known how many there will be.
abbrev pub LeftAfter : Option ℕ → Option ℕ → ℕ → Type 0
LeftAfter None now tries = ⊤
LeftAfter (Some n) now tries = (m : ℕ) × (now ≡ Some m) × (m + tries ≡ n)

no_answer : false ≡ true → ⊥
no_answer h = cc

-- one write more, and what its result makes of the whole
pub further : {A B : Type 0} (known now new : Option ℕ) (more : Result A Error) (all : Result B Error)
    → ((e : Error) → all ≡ Err e → more ≡ Err e)
    → GoesOn {A = Unit {0}} known now (Ok tt) → GoesOn {A = A} now new more → GoesOn {A = B} known new all
further {A = A} {B = B} None now new more all fails so_far one = tt
further {A = A} {B = B} (Some n) now new more all fails (m, at, less, _) one =
    by (subst (λ known. GoesOn {A = A} known new more) at one) all fails
  where
    by : GoesOn {A = A} (Some m) new more → (all : Result B Error) → ((e : Error) → all ≡ Err e → more ≡ Err e)
        → GoesOn {A = B} (Some n) new all
    by (k, is, fewer, goes) (Ok x) fails = (k, is, omega (arith, fewer, less), λ _. refl)
    by (k, is, fewer, goes) (Err e) fails =
        (k, is, omega (arith, fewer, less), λ few. absurd (no_fault more e (fails e refl) (goes (omega (arith, less, few)))))
      where
        no_fault : (r : Result A Error) (e : Error) → r ≡ Err e → IsOk r → ⊥
        no_fault (Ok x) e is ok = cc
        no_fault (Err x) e is ok = no_answer ok
