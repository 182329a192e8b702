-- The tables of hexadecimal digits are held against their definitions at each place, by computing.
use Rattle.std.proofs.Common.{◌≡◌, ◌≢◌, ℕ, zero, suc, ◌<◌, Bool, true, false, ◌&&◌, nat_eq, get_or, refl, arith, inl, inr, Option, None, Some}
use Rattle.std.specs.Prelude.{unwrap_or}
use Rattle.std.proofs.lemmas.Bool.{cases_eq}
use Rattle.std.proofs.lemmas.Bool.Decides.{nat_tests}
use Rattle.chaosd_show.specs.declared.hex.TheConstants.{VALUES, NO_DIGIT}
use Rattle.chaosd_show.specs.declared.report.TheConstants.{DIGITS}
use Rattle.chaosd_show.specs.Report.{hex_digit}
use Rattle.chaosd_show.specs.Hex.{is_blank, hex_value}

pub digit_within : (b d : ℕ) → hex_value b ≡ Some d → d < 16
digit_within b d h = grind (arith, nat_tests)

pub digit_is_no_blank : (b d : ℕ) → hex_value b ≡ Some d → is_blank b ≡ false
digit_is_no_blank b d h = grind (arith, nat_tests)

-- the table agrees with the definition below n
agrees_below : (ℕ → ℕ) → (ℕ → ℕ) → ℕ → Bool
agrees_below f g zero = true
agrees_below f g (suc n) = nat_eq (f n) (g n) && agrees_below f g n

both_of : (x rest : Bool) → (x && rest) ≡ true → (x ≡ true) × (rest ≡ true)
both_of true rest h = (refl, h)
both_of false rest h = absurd (cc)

agrees_at : (f g : ℕ → ℕ) (n : ℕ) → agrees_below f g n ≡ true → (b : ℕ) → b < n → f b ≡ g b
unfolding agrees_below
agrees_at f g zero h b lt = absurd (omega arith)
agrees_at f g (suc n) h b lt =
    let both = both_of (nat_eq (f n) (g n)) (agrees_below f g n) h in
    let here : f n ≡ g n = grind (arith, nat_tests, both.0) in
    elim (cases_eq b n) [ inl same ↦ rw same here | inr other ↦ agrees_at f g n both.1 b (omega arith) ]

table_at : (b : ℕ) → b < 256 → get_or VALUES b 0 ≡ unwrap_or (hex_value b) NO_DIGIT
unfolding agrees_below
table_at b lt = agrees_at (λ k. get_or VALUES k 0) (λ k. unwrap_or (hex_value k) NO_DIGIT) 256 refl b lt

-- the digit in the table of digits
pub digit_at : (d : ℕ) → d < 16 → get_or DIGITS d 0 ≡ hex_digit d
unfolding agrees_below
digit_at d lt = agrees_at (λ k. get_or DIGITS k 0) hex_digit 16 refl d lt

none_of : (digit : Option ℕ) (v : ℕ) → ((d : ℕ) → digit ≡ Some d → d < 16) → v ≡ unwrap_or digit NO_DIGIT → v ≡ NO_DIGIT
    → None ≡ digit
none_of None v small is none = refl
none_of (Some d) v small is none = absurd (omega (arith, small d refl))

some_of : (digit : Option ℕ) (v : ℕ) → v ≡ unwrap_or digit NO_DIGIT → v ≢ NO_DIGIT → Some v ≡ digit
some_of None v is other = absurd (other is)
some_of (Some d) v is other = cc

-- a byte for which the table has no digit is none
pub no_digit : (b : ℕ) → b < 256 → get_or VALUES b 0 ≡ NO_DIGIT → None ≡ hex_value b
no_digit b lt none = none_of (hex_value b) _ (digit_within b) (table_at b lt) none

-- the digit in the table
pub table_digit : (b : ℕ) → b < 256 → get_or VALUES b 0 ≢ NO_DIGIT → Some (get_or VALUES b 0) ≡ hex_value b
table_digit b lt some = some_of (hex_value b) _ (table_at b lt) some
