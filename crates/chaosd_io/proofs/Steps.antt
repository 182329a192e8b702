-- Lines and pieces, what waits, and calls that may fail.
use Rattle.std.proofs.Common.{◌≡◌, ℕ, zero, suc, ◌+◌, ◌≤◌, true, false, eqb, List, [], ◌∷◌, ◌++◌, length, take, refl, ap, arith}
use Rattle.std.specs.Prelude.{Option, None, Some, Result, Ok, Err, OnOk}
use Rattle.std.specs.Io.BufRead.{strip_last}
use Rattle.std.specs.Io.KnownBytes.{Appends}
use Rattle.std.proofs.lemmas.Grind.{common_steps}
use Rattle.chaosd_io.specs.Buffer.{written_of}
use Rattle.chaosd_io.specs.Lines.{all_but_last, without_empty_last}

pub take_front : (n : ℕ) (xs ys : List ℕ) → take n (take n xs ++ ys) ≡ take n (xs ++ ys)
take_front zero xs ys = refl
take_front (suc n) [] ys = refl
take_front (suc n) (x ∷ xs) ys = ap (λ l. x ∷ l) (take_front n xs ys)

pub length-strip_last : (b : ℕ) (xs : List ℕ) → length xs ≤ length (strip_last b xs) + 1
length-strip_last b xs = grind (arith, common_steps)

-- ---- one line more

pub all_but_last-push : (lines : List (List ℕ)) (piece : List ℕ) → all_but_last (lines ++ piece ∷ []) ≡ lines
all_but_last-push [] piece = refl
all_but_last-push (first ∷ []) piece = refl
all_but_last-push (first ∷ next ∷ others) piece = ap (λ l. first ∷ l) (all_but_last-push (next ∷ others) piece)

pub drops_empty_last : (lines : List (List ℕ)) (piece : List ℕ) → eqb (length piece) 0 ≡ true
    → without_empty_last (lines ++ piece ∷ []) ≡ lines
drops_empty_last [] piece h = rw h refl
drops_empty_last (first ∷ []) piece h = rw h refl
drops_empty_last (first ∷ next ∷ others) piece h = ap (λ l. first ∷ l) (drops_empty_last (next ∷ others) piece h)

pub keeps_last : (lines : List (List ℕ)) (piece : List ℕ) → eqb (length piece) 0 ≡ false
    → without_empty_last (lines ++ piece ∷ []) ≡ lines ++ piece ∷ []
keeps_last [] piece h = rw h refl
keeps_last (first ∷ []) piece h = rw h refl
keeps_last (first ∷ next ∷ others) piece h = ap (λ l. first ∷ l) (keeps_last (next ∷ others) piece h)

-- ---- what was written

pub nothing_waits : (before : Option (List ℕ)) (waiting : List ℕ) → waiting ≡ []
    → Appends before (written_of before waiting) []
nothing_waits None waiting none = tt
nothing_waits (Some x) waiting none = ap (λ l. x ++ l) none

-- ---- calls that may fail

pub on_ok : {X E P Q S : Type 0} (r : Result X E) → (P → Q → S) → OnOk r P → OnOk r Q → OnOk r S
on_ok (Ok x) f p q = f p q
on_ok (Err e) f p q = tt
