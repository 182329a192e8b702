-- Bytes with bits turned.
use Rattle.std.proofs.Common.{◌≡◌, ◌↔◌, ℕ, ◌+◌, ◌<◌, List, [], ◌∷◌, ◌++◌, length, get_or, take, map, replicate, bit_or, bit_xor, refl, arith, ap, ap₂, ◌∙◌, sym}
use Rattle.std.proofs.lemmas.List.{take_more, take-take, get_or-take, map-append}
use Rattle.std.proofs.lemmas.Nat.{le_or_l, le_or_r, and_le_l, and_le_r}
use Rattle.std.specs.Int.Bits.{xor_add_and, xor_zero_r, xor_self}
use Rattle.chaos_seal.specs.Hmac.{padded}

no_difference : (a b : ℕ) → bit_xor a b ≡ 0 → a ≡ b
no_difference a b none = omega (arith, xor_add_and a b, and_le_l a b, and_le_r a b)

difference : (d a b : ℕ) → d ≡ 0 → a ≡ b → bit_or d (bit_xor a b) ≡ 0
difference d a b none e = rw (none, e, xor_self b) refl

-- one byte more
pub same_so_far : (xs ys : List ℕ) (i d : ℕ) → i < length xs → i < length ys → ((d ≡ 0) ↔ (take i xs ≡ take i ys))
    → (bit_or d (bit_xor (get_or xs i 0) (get_or ys i 0)) ≡ 0) ↔ (take (i + 1) xs ≡ take (i + 1) ys)
same_so_far xs ys i d inside inside_too so_far =
    let a = get_or xs i 0 in
    let b = get_or ys i 0 in
    let more = take_more xs i 0 inside in
    let more_too = take_more ys i 0 inside_too in (
      λ none.
          let old : d ≡ 0 = omega (arith, none, le_or_l d (bit_xor a b)) in
          let now : bit_xor a b ≡ 0 = omega (arith, none, le_or_r d (bit_xor a b)) in
          more ∙ ap₂ (λ l x. l ++ x ∷ []) (so_far.0 old) (no_difference a b now) ∙ sym more_too,
      λ e.
          let old : take i xs ≡ take i ys =
          sym (take-take i (i + 1) xs (omega arith)) ∙ ap (take i) e ∙ take-take i (i + 1) ys (omega arith) in
          let now : a ≡ b =
          sym (get_or-take (i + 1) xs i 0 (omega arith)) ∙ ap (λ l. get_or l i 0) e ∙ get_or-take (i + 1) ys i 0 (omega arith) in
          difference d a b (so_far.1 old) now,
    )

-- the key's block
pub padded_in : (pad : ℕ) (key : List ℕ) → padded pad key ≡ map (bit_xor pad) key ++ replicate 32 pad
padded_in pad key =
    map-append (bit_xor pad) key (replicate 32 0) ∙ ap (λ p. map (bit_xor pad) key ++ replicate 32 p) (xor_zero_r pad)
