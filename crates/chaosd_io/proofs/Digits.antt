-- How many digits a number has in decimal.
use Rattle.std.proofs.Common.{◌≡◌, ℕ, ◌+◌, ◌/◌, ◌<◌, ◌≤◌, ◌^◌, ◌∙◌, ap, sym, arith, length}
use Rattle.std.specs.Fmt.{decimal}
use Rattle.std.proofs.lemmas.Fmt.{decimal_digit, decimal_step}
use Rattle.std.proofs.lemmas.List.{length_push}

pub one_digit : (n : ℕ) → n < 10 → 1 ≡ length (decimal n)
one_digit n h = sym (ap length (decimal_digit n h))

-- the last digit stands behind those of a tenth
pub one_more : (n : ℕ) → 10 ≤ n → n < 2 ^ 64 → length (decimal n) ≡ length (decimal (n / 10)) + 1
one_more n h small = ap length (decimal_step n h small) ∙ length_push (decimal (n / 10)) _

pub two_digits : (n : ℕ) → 10 ≤ n → n < 100 → 2 ≡ length (decimal n)
two_digits n h less =
    omega (arith, one_more n h (omega arith), one_digit (n / 10) (omega arith))

pub three_digits : (n : ℕ) → 100 ≤ n → n < 1000 → 3 ≡ length (decimal n)
three_digits n h less =
    omega (arith, one_more n (omega arith) (omega arith), two_digits (n / 10) (omega arith) (omega arith))

pub four_digits : (n : ℕ) → 1000 ≤ n → n < 10000 → 4 ≡ length (decimal n)
four_digits n h less =
    omega (arith, one_more n (omega arith) (omega arith), three_digits (n / 10) (omega arith) (omega arith))

-- the last four digits stand behind those of a ten-thousandth
pub four_more : (n : ℕ) → 10000 ≤ n → n < 2 ^ 64 → length (decimal n) ≡ length (decimal (n / 10000)) + 4
four_more n h small =
    let a = one_more n (omega arith) small in
    let b = one_more (n / 10) (omega arith) (omega arith) in
    let c = one_more (n / 10 / 10) (omega arith) (omega arith) in
    let d = one_more (n / 10 / 10 / 10) (omega arith) (omega arith) in
    let e : n / 10 / 10 / 10 / 10 ≡ n / 10000 = omega arith in
    let f = ap (λ x. length (decimal x)) e in
    omega (arith, a, b, c, d, f)
