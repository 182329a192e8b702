-- The sum by plain addition comes down to the one's complement sum.
use Rattle.std.proofs.Common.{◌≡◌, ℕ, suc, ◌+◌, ◌*◌, ◌/◌, ◌%◌, ◌<◌, ◌≤◌, List, [], ◌∷◌, ◌++◌, length, get_or, take, refl, arith, ap, ◌∙◌, All, inl, inr}
use Rattle.std.proofs.lemmas.List.{take_more}
use Rattle.std.proofs.lemmas.List.Elements.{All-head, All-tail, All-cons, All-nil, All-append}
use Rattle.std.proofs.lemmas.Bool.{cases_lt}
use Rattle.chaos_link.specs.Datagram.{words_of}
use Rattle.chaos_link.proofs.Words.{word_at, length-words_of}
use Rattle.chaos_chudp.specs.Sum.{ones_sum, checksum, SeesOneWord}

-- a word has 16 bits
abbrev pub IsWord : ℕ → Type 0
IsWord w = w < 65536

-- the sum by plain addition
abbrev pub total : List ℕ → ℕ
total [] = 0
total (w ∷ ws) = w + total ws

pub total-append : (ws vs : List ℕ) → total (ws ++ vs) ≡ total ws + total vs
total-append [] vs = omega arith
total-append (w ∷ ws) vs = omega (arith, total-append ws vs)

-- It is the one's complement sum and as many times 65535 as carries came, and that is 0 only where it is.
pub record ComesDown (t s : ℕ) : Type 0 where
  pub carries : ℕ
  pub whole : t ≡ s + 65535 * carries
  pub few : s ≤ 65535
  pub zero : s ≡ 0 → t ≡ 0

added_down : (w t s : ℕ) → IsWord w → ComesDown t s → ComesDown (w + t) ((w + s) % 65536 + (w + s) / 65536)
added_down w t s small down = record {
  carries = (w + s) / 65536 + down.carries;
  whole = omega (arith, down.whole, down.few);
  few = omega (arith, down.few);
  zero = λ h. let none : s ≡ 0 = omega arith in omega (arith, down.zero none);
}

pub comes_down : (ws : List ℕ) → All IsWord ws → ComesDown (total ws) (ones_sum ws)
comes_down [] small = record { carries = 0; whole = refl; few = omega arith; zero = λ h. refl }
comes_down (w ∷ ws) small =
    added_down w (total ws) (ones_sum ws) (All-head IsWord w ws small) (comes_down ws (All-tail IsWord w ws small))

-- There is one number to which a sum comes down.
pub down_once : (t r s : ℕ) → ComesDown t r → ComesDown t s → r ≡ s
down_once t r s one other =
    elim (cases_lt 0 r) [
      | inl some ↦ elim (cases_lt 0 s) [
        | inl some_too ↦ omega (arith, one.whole, one.few, other.whole, other.few)
        | inr none ↦ let zero : s ≡ 0 = omega arith in omega (arith, one.whole, other.zero zero)
      ]
      | inr none ↦ let zero : r ≡ 0 = omega arith in omega (arith, other.whole, one.zero zero)
    ]

-- the words of bytes have 16 bits
pub words_small : (bs : List ℕ) → ((i : ℕ) → get_or bs i 0 < 256) → All IsWord (words_of bs)
words_small [] small = All-nil IsWord
words_small (a ∷ []) small = All-nil IsWord
words_small (a ∷ b ∷ bs) small =
    All-cons IsWord (256 * a + b) (words_of bs) (omega (arith, small 0, small 1))
    (words_small bs (λ i. small (suc (suc i))))

-- one word more
pub total_more : (bs : List ℕ) (i : ℕ) → 2 * i + 1 < length bs
    → total (take (i + 1) (words_of bs))
    ≡ total (take i (words_of bs)) + (256 * get_or bs (2 * i) 0 + get_or bs (2 * i + 1) 0)
total_more bs i h =
    let fits : i < length (words_of bs) = omega (arith, length-words_of bs) in
    let one : total (get_or (words_of bs) i 0 ∷ []) ≡ 256 * get_or bs (2 * i) 0 + get_or bs (2 * i + 1) 0 =
    omega (arith, word_at bs i h) in
    ap total (take_more (words_of bs) i 0 fits) ∙ total-append (take i (words_of bs)) (get_or (words_of bs) i 0 ∷ [])
    ∙ omega (arith, one)

-- With its checksum behind them words come to a checksum of 0.
pub self_checked : (ws : List ℕ) → All IsWord ws → checksum (ws ++ checksum ws ∷ []) ≡ 0
self_checked ws small =
    let down = comes_down ws small in
    let last : IsWord (checksum ws) = omega arith in
    let all = All-append IsWord ws (checksum ws ∷ []) small (All-cons IsWord (checksum ws) [] last (All-nil IsWord)) in
    let with_it = comes_down (ws ++ checksum ws ∷ []) all in
    let sum : total (ws ++ checksum ws ∷ []) ≡ 65535 * (down.carries + 1) =
    total-append ws (checksum ws ∷ []) ∙ omega (arith, down.whole, down.few) in
    let full : ComesDown (total (ws ++ checksum ws ∷ [])) 65535 = record {
      carries = down.carries;
      whole = omega (arith, sum);
      few = omega arith;
      zero = λ h. absurd (omega arith);
    } in
    let ones : ones_sum (ws ++ checksum ws ∷ []) ≡ 65535 = down_once _ _ _ with_it full in
    omega (arith, ones)

All-behind : (front : List ℕ) (v : ℕ) (rest : List ℕ) → All IsWord (front ++ v ∷ rest) → All IsWord (v ∷ rest)
All-behind [] v rest small = small
All-behind (x ∷ front) v rest small = All-behind front v rest (All-tail IsWord x (front ++ v ∷ rest) small)

-- Words that differ in one place
pub sees_one_word : SeesOneWord
sees_one_word front rest v w small small_too same =
    let one = comes_down (front ++ v ∷ rest) small in
    let other = comes_down (front ++ w ∷ rest) small_too in
    let alike : ones_sum (front ++ v ∷ rest) ≡ ones_sum (front ++ w ∷ rest) = omega (arith, same, one.few, other.few) in
    let apart : v + 65535 * other.carries ≡ w + 65535 * one.carries =
    omega (arith, one.whole, other.whole, alike, total-append front (v ∷ rest), total-append front (w ∷ rest)) in
    let v_small : v < 65536 = All-head IsWord v rest (All-behind front v rest small) in
    let w_small : w < 65536 = All-head IsWord w rest (All-behind front w rest small_too) in
    elim (cases_lt v w) [
      | inl less ↦ inr (inl (omega (arith, apart, v_small, w_small), omega (arith, apart, v_small, w_small)))
      | inr more ↦ elim (cases_lt w v) [
        | inl less ↦ inr (inr (omega (arith, apart, v_small, w_small), omega (arith, apart, v_small, w_small)))
        | inr same_word ↦ inl (omega (arith, more, same_word))
      ]
    ]
