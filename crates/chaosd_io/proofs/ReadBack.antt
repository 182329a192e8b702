-- What is printed of bytes stands for them again.
use Rattle.std.proofs.Common.{◌≡◌, ℕ, ◌/◌, ◌%◌, ◌<◌, Bool, true, false, cond, eqb, List, [], ◌∷◌, ◌++◌, All, refl, ap, ◌∙◌, arith}
use Rattle.std.specs.Prelude.{Some}
use Rattle.std.specs.List.{flat_map}
use Rattle.std.proofs.lemmas.Bool.Decides.{nat_tests}
use Rattle.std.proofs.lemmas.List.Elements.{All-head, All-tail}
use Rattle.chaosd_io.specs.Escapes.{plain_byte, low_hex, joined, escaped_byte, with_byte, bytes_of, low_hex_digit, is_escaped, shown_byte}

pub plain_first : (a : ℕ) (rest : List ℕ) → eqb a 92 ≡ false
    → bytes_of (a ∷ rest) ≡ with_byte (plain_byte a) (bytes_of rest)
unfolding bytes_of
plain_first a [] h = refl
plain_first a (b ∷ []) h = refl
plain_first a (b ∷ c ∷ others) h =
    ap
    (λ t. cond t (with_byte (escaped_byte b c) (bytes_of others))
    (with_byte (plain_byte a) (bytes_of (b ∷ c ∷ others))))
    h

escaped_first : (high low : ℕ) (rest : List ℕ)
    → bytes_of (92 ∷ high ∷ low ∷ rest) ≡ with_byte (escaped_byte high low) (bytes_of rest)
unfolding bytes_of
escaped_first high low rest = refl

digit_back : (d : ℕ) → d < 16 → low_hex (low_hex_digit d) ≡ Some d
digit_back d lt = grind (arith, nat_tests)

byte_back : (b : ℕ) → b < 256 → escaped_byte (low_hex_digit (b / 16)) (low_hex_digit (b % 16)) ≡ Some b
byte_back b lt =
    let high : low_hex (low_hex_digit (b / 16)) ≡ Some (b / 16) = digit_back (b / 16) (omega arith) in
    let low : low_hex (low_hex_digit (b % 16)) ≡ Some (b % 16) = digit_back (b % 16) (omega arith) in
    ap (λ h. joined h (low_hex (low_hex_digit (b % 16)))) high ∙ ap (joined (Some (b / 16))) low ∙ ap Some (omega arith)

pub plain_back : (b : ℕ) → is_escaped b ≡ false → plain_byte b ≡ Some b
plain_back b h = grind (arith, nat_tests, h)

pub not_escape : (b : ℕ) → is_escaped b ≡ false → eqb b 92 ≡ false
not_escape b h = grind (arith, nat_tests, h)

return_back : (b : ℕ) → eqb b 141 ≡ true → Some 141 ≡ Some b
return_back b h = ap Some (grind (arith, nat_tests, h))

shown_by : (is_return is_other : Bool) (b : ℕ) (rest : List ℕ) → eqb b 141 ≡ is_return → is_escaped b ≡ is_other
    → b < 256
    → bytes_of
    (cond is_return (94 ∷ [])
    (cond is_other (92 ∷ low_hex_digit (b / 16) ∷ low_hex_digit (b % 16) ∷ []) (b ∷ []))
    ++ rest)
    ≡ with_byte (Some b) (bytes_of rest)
shown_by true is_other b rest is other lt =
    plain_first 94 rest refl ∙ ap (λ first. with_byte first (bytes_of rest)) (return_back b is)
shown_by false true b rest is other lt =
    escaped_first (low_hex_digit (b / 16)) (low_hex_digit (b % 16)) rest
    ∙ ap (λ first. with_byte first (bytes_of rest)) (byte_back b lt)
shown_by false false b rest is other lt =
    plain_first b rest (not_escape b other) ∙ ap (λ first. with_byte first (bytes_of rest)) (plain_back b other)

shown_back : (b : ℕ) (rest : List ℕ) → b < 256 → bytes_of (shown_byte b ++ rest) ≡ with_byte (Some b) (bytes_of rest)
shown_back b rest lt = shown_by (eqb b 141) (is_escaped b) b rest refl refl lt

pub read_back : (bytes : List ℕ) → All (λ b. b < 256) bytes → bytes_of (flat_map shown_byte bytes) ≡ Some bytes
unfolding bytes_of
read_back [] within = refl
read_back (b ∷ bytes) within =
    shown_back b (flat_map shown_byte bytes) (All-head (λ x. x < 256) b bytes within)
    ∙ ap (with_byte (Some b)) (read_back bytes (All-tail (λ x. x < 256) b bytes within))
