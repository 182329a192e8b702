-- The words of bytes, and bytes of words.
use Rattle.std.proofs.Common.{◌≡◌, ℕ, zero, suc, ◌+◌, ◌*◌, ◌/◌, ◌%◌, ◌<◌, List, [], ◌∷◌, ◌++◌, length, get_or, take, drop, set, refl, arith, ap, ◌∙◌, sym}
use Rattle.std.proofs.lemmas.List.{take_more, take_more_set}
use Rattle.chaos_packet.proofs.Pairs.{pairs}
use Rattle.chaos_link.specs.Datagram.{wire, words_of}

pub length-words_of : (bs : List ℕ) → length (words_of bs) ≡ length bs / 2
length-words_of [] = refl
length-words_of (a ∷ []) = refl
length-words_of (a ∷ b ∷ bs) = omega (arith, length-words_of bs)

-- word i has byte 2i for its high half, and byte 2i + 1 for its low half
pub word_at : (bs : List ℕ) (i : ℕ) → 2 * i + 1 < length bs
    → get_or (words_of bs) i 0 ≡ 256 * get_or bs (2 * i) 0 + get_or bs (2 * i + 1) 0
word_at [] i h = absurd (omega arith)
word_at (a ∷ []) i h = absurd (omega arith)
word_at (a ∷ b ∷ bs) zero h = refl
word_at (a ∷ b ∷ bs) (suc i) h =
    let odd : 2 * suc i + 1 ≡ suc (suc (2 * i + 1)) = omega arith in
    let even : 2 * suc i ≡ suc (suc (2 * i)) = omega arith in
    rw (odd, even) (word_at bs i (omega arith))

-- one word more
take_word : (bs : List ℕ) (i : ℕ) → 2 * i + 1 < length bs
    → take (i + 1) (words_of bs) ≡ take i (words_of bs) ++ (256 * get_or bs (2 * i) 0 + get_or bs (2 * i + 1) 0) ∷ []
take_word bs i h =
    let fits : i < length (words_of bs) = omega (arith, length-words_of bs) in
    take_more (words_of bs) i 0 fits ∙ ap (λ w. take i (words_of bs) ++ w ∷ []) (word_at bs i h)

-- the store of one word more
pub word_stored : (ws bs : List ℕ) (i w : ℕ) → i < length ws → 2 * i + 1 < length bs
    → w ≡ 256 * get_or bs (2 * i) 0 + get_or bs (2 * i + 1) 0
    → take i ws ≡ take i (words_of bs) → take (i + 1) (set ws i w) ≡ take (i + 1) (words_of bs)
word_stored ws bs i w room there word so_far =
    take_more_set ws i w room ∙ ap (λ front. front ++ w ∷ []) so_far ∙ ap (λ w. take i (words_of bs) ++ w ∷ []) word
    ∙ sym (take_word bs i there)

-- the first words are those of the first bytes, and the words behind them are those of the bytes behind
pub take-words_of : (n : ℕ) (bs : List ℕ) → take n (words_of bs) ≡ words_of (take (2 * n) bs)
take-words_of zero bs = refl
take-words_of (suc n) [] = let even : 2 * suc n ≡ suc (suc (2 * n)) = omega arith in rw even refl
take-words_of (suc n) (a ∷ []) = let even : 2 * suc n ≡ suc (suc (2 * n)) = omega arith in rw even refl
take-words_of (suc n) (a ∷ b ∷ bs) =
    let even : 2 * suc n
    ≡ suc (suc (2 * n)) = omega arith in rw even (ap (λ ws. (256 * a + b) ∷ ws) (take-words_of n bs))

pub drop-words_of : (n : ℕ) (bs : List ℕ) → drop n (words_of bs) ≡ words_of (drop (2 * n) bs)
drop-words_of zero bs = refl
drop-words_of (suc n) [] = let even : 2 * suc n ≡ suc (suc (2 * n)) = omega arith in rw even refl
drop-words_of (suc n) (a ∷ []) = let even : 2 * suc n ≡ suc (suc (2 * n)) = omega arith in rw even refl
drop-words_of (suc n) (a ∷ b ∷ bs) =
    let even : 2 * suc n ≡ suc (suc (2 * n)) = omega arith in rw even (drop-words_of n bs)

-- words are what their bytes say
pub words_of-wire : (ws : List ℕ) → words_of (wire ws) ≡ ws
words_of-wire [] = refl
words_of-wire (w ∷ ws) = let word : 256 * (w / 256) + w % 256 ≡ w = omega arith in rw (word, words_of-wire ws) refl

pub length-wire : (ws : List ℕ) → length (wire ws) ≡ 2 * length ws
length-wire [] = refl
length-wire (w ∷ ws) = omega (arith, length-wire ws)

-- and bytes are what their words say, where none is left over
pub wire-words_of : (bs : List ℕ) → ((i : ℕ) → get_or bs i 0 < 256) → length bs ≡ 2 * length (words_of bs)
    → wire (words_of bs) ≡ bs
wire-words_of [] small even = refl
wire-words_of (a ∷ []) small even = absurd (omega arith)
wire-words_of (a ∷ b ∷ bs) small even =
    let high : (256 * a + b) / 256 ≡ a = omega (arith, small 1) in
    let low : (256 * a + b) % 256 ≡ b = omega (arith, small 1) in
    rw (high, low, wire-words_of bs (λ i. small (suc (suc i))) (omega arith)) refl

pub wire-pairs : (ws : List ℕ) → wire ws ≡ pairs (λ w. w / 256) (λ w. w % 256) ws
wire-pairs [] = refl
wire-pairs (w ∷ ws) = ap (λ bs. w / 256 ∷ w % 256 ∷ bs) (wire-pairs ws)
