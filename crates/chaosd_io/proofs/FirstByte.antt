-- The first newline, as a search for a byte tells it.
use Rattle.std.proofs.Common.{◌≡◌, ℕ, suc, ◌+◌, ◌<◌, Bool, true, false, List, ◌∷◌, ◌++◌, All, length, take, drop, refl, sym, ◌∙◌, ap, arith, add-one, length-take}
use Rattle.std.proofs.Math.ListN.{get_or}
use Rattle.std.proofs.Math.Seq.{split_at}
use Rattle.std.proofs.lemmas.List.{get_or-take}
use Rattle.std.proofs.lemmas.List.Elements.{All-from_get_or}
use Rattle.std.proofs.lemmas.Bool.Decides.{nat_tests}
use Rattle.memchr.specs.Find.{Nowhere, Passes, is_byte}
use Rattle.chaosd_io.specs.Lines.{is_newline, IsCut}

is_false : (b : Bool) → (b ≡ true → ⊥) → b ≡ false
is_false true h = absurd (h refl)
is_false false h = refl

-- where it is nowhere, no byte is one
pub none_ends : (xs : List ℕ) → Nowhere (Passes (is_byte 10) xs) 0 (length xs) → All (λ b. is_newline b ≡ false) xs
none_ends xs h =
    All-from_get_or (λ b. is_newline b ≡ false) xs 0
    (λ i low. is_false (is_newline (get_or xs i 0)) (h i (omega arith) low))

fails : (xs : List ℕ) (at i : ℕ) → i < at → Nowhere (Passes (is_byte 10) xs) 0 at
    → is_newline (get_or (take at xs) i 0) ≡ false
fails xs at i low before =
    ap is_newline (get_or-take at xs i 0 low) ∙ is_false (is_newline (get_or xs i 0)) (before i (omega arith) low)

-- where the first one is, a line is cut off
pub first_cuts : (xs : List ℕ) (at : ℕ) → at < length xs → Nowhere (Passes (is_byte 10) xs) 0 at
    → Passes (is_byte 10) xs at → IsCut xs (take at xs) (drop (at + 1) xs)
first_cuts xs at low before here =
    let byte : get_or xs at 0 ≡ 10 = grind (arith, nat_tests, here) in
    let split : xs ≡ take at xs ++ get_or xs at 0 ∷ drop (suc at) xs = split_at xs at 0 low in
    record {
      whole =
          split ∙ ap (λ b. take at xs ++ b ∷ drop (suc at) xs) byte
          ∙ ap (λ k. take at xs ++ 10 ∷ drop k xs) (sym (add-one at));
      unended =
          All-from_get_or (λ b. is_newline b ≡ false) (take at xs) 0
          (λ i inside. fails xs at i (omega (arith, inside, length-take at xs)) before);
    }
