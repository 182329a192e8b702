-- Sets of slots as bits of words.
use Rattle.std.proofs.Common.{◌≡◌, ◌≢◌, ℕ, ◌+◌, ◌-◌, ◌*◌, ◌/◌, ◌%◌, ◌^◌, ◌<◌, ◌≤◌, List, length, get_or, slice_set, Bool, true, false, eqb, if◌then◌else◌, refl, ap, sym, ◌∙◌, inl, inr, arith, w64, get_or-set_same, get_or-set_other}
use Rattle.std.proofs.lemmas.Bool.{cases_eq, cases_lt}
use Rattle.std.proofs.lemmas.List.{get_or_past}
use Rattle.std.proofs.lemmas.Nat.{shr-shr}
use Rattle.std.proofs.lemmas.Nat.Bits.{bit_at-zero, bit_at_above, bit_at-trailing_zeros}
use Rattle.std.specs.Int.{bit_at, trailing_zeros}
use Rattle.chaos_host.specs.SlotSet.{IsFirst, IsFirstBit, has}

-- the bit of a word that says whether a place is in the set
in_word : (words : List ℕ) (word row k : ℕ) → word ≡ get_or words row 0 → k / 64 ≡ row
    → has words k ≡ eqb (bit_at word (k % 64)) 1
in_word words word row k read at =
    ap (λ x. eqb (bit_at (get_or words x 0) (k % 64)) 1) at ∙ ap (λ x. eqb (bit_at x (k % 64)) 1) (sym read)

-- a place beyond all words isn't in the set
pub past : (words : List ℕ) (k : ℕ) → length words ≤ k / 64 → has words k ≡ false
past words k beyond =
    ap (λ x. eqb (bit_at x (k % 64)) 1) (get_or_past words (k / 64) 0 beyond)
    ∙ ap (λ x. eqb x 1) (bit_at-zero (k % 64))

-- ---- a bit that is set or cleared

one_if : (is_in : Bool) → eqb (if is_in then 1 else 0) 1 ≡ is_in
one_if true = refl
one_if false = refl

pub set_here : (words : List ℕ) (place word : ℕ) (is_in : Bool) → place / 64 < length words
    → bit_at word (place % 64) ≡ (if is_in then 1 else 0)
    → has (slice_set words (place / 64) word) place ≡ is_in
set_here words place word is_in within bit =
    ap (λ x. eqb (bit_at x (place % 64)) 1) (get_or-set_same words (place / 64) word 0 within)
    ∙ (ap (λ x. eqb x 1) bit ∙ one_if is_in)

pub set_other : (words : List ℕ) (place word old other : ℕ) → place / 64 < length words
    → old ≡ get_or words (place / 64) 0
    → ((k : ℕ) → k < 64 → k ≢ place % 64 → bit_at word k ≡ bit_at old k) → other ≢ place
    → has (slice_set words (place / 64) word) other ≡ has words other
set_other words place word old other within read rest apart =
    elim (cases_eq (other / 64) (place / 64)) as (λ _. has (slice_set words (place / 64) word) other ≡ has words other) [
      | inl row ↦
          let low : other % 64 < 64 = omega arith in
          let ne : other % 64 ≢ place % 64 = λ (e : other % 64 ≡ place % 64). apart (omega arith) in
          in_word (slice_set words (place / 64) word) word (place / 64) other
          (sym (get_or-set_same words (place / 64) word 0 within)) row
          ∙ (ap (λ x. eqb x 1) (rest (other % 64) low ne) ∙ sym (in_word words old (place / 64) other read row))
      | inr row ↦ ap (λ x. eqb (bit_at x (other % 64)) 1) (get_or-set_other words (place / 64) (other / 64) word 0 row)
    ]

-- ---- the next bit of a word

-- the bits of a word from one on
shifted : (word by i : ℕ) → bit_at (word / 2 ^ by) i ≡ bit_at word (by + i)
shifted word by i = ap (λ x. x % 2) (shr-shr word by i)

pub no_bit : (word from k : ℕ) → word / 2 ^ from ≡ 0 → from ≤ k → bit_at word k ≡ 0
no_bit word from k none behind =
    let at : from + (k - from) ≡ k = omega arith in
    ap (bit_at word) (sym at)
    ∙ (sym (shifted word from (k - from)) ∙ (ap (λ x. bit_at x (k - from)) none ∙ bit_at-zero (k - from)))

pub first_bit : (word from rest : ℕ) → word < 2 ^ 64 → rest ≡ word / 2 ^ from → 0 < rest → rest < 2 ^ 64
    → IsFirstBit word from (from + trailing_zeros w64 rest)
first_bit word from rest fits shr some small =
    let t = trailing_zeros w64 rest in
    let low = bit_at-trailing_zeros w64 rest some small in
    let bit = λ (i : ℕ). ap (λ x. bit_at x i) shr ∙ shifted word from i in
    let found : bit_at word (from + t) ≡ 1 = sym (bit t) ∙ low.1 in
    record {
      behind = omega arith;
      within =
          elim (cases_lt (from + t) 64) [
            | inl below ↦ below
            | inr above ↦
                let zero = bit_at_above word 64 (from + t) fits above in
                absurd (let e : ◌≡◌ {A = ℕ} 0 1 = sym zero ∙ found in omega arith)
          ];
      one = found;
      zeros =
          λ k behind before.
          let at : from + (k - from) ≡ k = omega arith in
          let less : k - from < t = omega arith in
          ap (bit_at word) (sym at) ∙ (sym (bit (k - from)) ∙ low.2 (k - from) less);
    }

-- ---- the next place

-- a word has no bit from one on, and no place before it is in the set
pub none_in : (words : List ℕ) (from row low word : ℕ) → word ≡ get_or words row 0
    → ((k : ℕ) → low ≤ k → k < 64 → bit_at word k ≡ 0)
    → ((k : ℕ) → from ≤ k → k < 64 * row + low → has words k ≡ false)
    → (k : ℕ) → from ≤ k → k < 64 * (row + 1) → has words k ≡ false
none_in words from row low word read zeros before k behind within =
    elim (cases_lt k (64 * row + low)) as (λ _. has words k ≡ false) [
      | inl below ↦ before k behind below
      | inr here ↦
          let at : k / 64 ≡ row = omega arith in
          let above : low ≤ k % 64 = omega arith in
          let small : k % 64 < 64 = omega arith in
          in_word words word row k read at ∙ ap (λ x. eqb x 1) (zeros (k % 64) above small)
    ]

-- or its first bit from there on is the next place
pub first_in : (words : List ℕ) (from row low word bit : ℕ) → word ≡ get_or words row 0 → IsFirstBit word low bit
    → from ≤ 64 * row + low → ((k : ℕ) → from ≤ k → k < 64 * row + low → has words k ≡ false)
    → IsFirst words from (64 * row + bit)
first_in words from row low word bit read first behind before =
    let small : bit < 64 = first.within in
    let after : low ≤ bit = first.behind in
    let at_row : (64 * row + bit) / 64 ≡ row = omega arith in
    let at : (64 * row + bit) % 64 ≡ bit = omega arith in
    record {
      behind = omega arith;
      there = in_word words word row (64 * row + bit) read at_row ∙ ap (λ x. eqb x 1) (ap (bit_at word) at ∙ first.one);
      none =
          λ k from_on under.
          elim (cases_lt k (64 * row + low)) as (λ _. has words k ≡ false) [
            | inl below ↦ before k from_on below
            | inr here ↦
                let row_of : k / 64 ≡ row = omega arith in
                let above : low ≤ k % 64 = omega arith in
                let less : k % 64 < bit = omega arith in
                in_word words word row k read row_of ∙ ap (λ x. eqb x 1) (first.zeros (k % 64) above less)
          ];
    }
