-- The Internet checksum (RFC 1071).
use Rattle.std.specs.Prelude.{◌≡◌, ℕ, ◌+◌, ◌-◌, ◌/◌, ◌%◌, ◌<◌, List, [], ◌∷◌, ◌++◌, All, ◌⊎◌}

-- One's complement addition of two 16-bit words: what is carried out of the top is added at the bottom.
abbrev pub added : ℕ → ℕ → ℕ
added a b = (a + b) % 65536 + (a + b) / 65536

-- the one's complement sum of words
abbrev pub ones_sum : List ℕ → ℕ
ones_sum [] = 0
ones_sum (w ∷ ws) = added w (ones_sum ws)

-- its complement: each of the 16 bits turned
abbrev pub checksum : List ℕ → ℕ
checksum ws = 65535 - ones_sum ws

-- Words that differ in one place have different checksums, but where the word is 0000 in one and FFFF in the other.
abbrev pub SeesOneWord : Type 0
SeesOneWord = (front rest : List ℕ) (v w : ℕ) → All (λ x. x < 65536) (front ++ v ∷ rest) → All (λ x. x < 65536) (front ++ w ∷ rest)
    → checksum (front ++ v ∷ rest) ≡ checksum (front ++ w ∷ rest)
    → (v ≡ w) ⊎ (((v ≡ 0) × (w ≡ 65535)) ⊎ ((v ≡ 65535) × (w ≡ 0)))
