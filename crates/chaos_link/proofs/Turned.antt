-- Bytes turned round by blocks, and words put as bytes.
use Rattle.std.proofs.Common.{◌≡◌, ℕ, zero, suc, ◌+◌, ◌*◌, ◌/◌, ◌%◌, ◌<◌, ◌≤◌, List, [], ◌∷◌, ◌++◌, length, get_or, take, drop, set, refl, arith, ap, ap₂, ◌∙◌, sym, append_assoc, take-add}
use Rattle.std.proofs.lemmas.List.{length-take-le, take-append-le, take-append-drop, take_at, drop_at, take_all}
use Rattle.std.proofs.lemmas.Slice.{take-put_mid}
use borrow.Rule.Slice.PartMut.{put_mid}
use Rattle.chaos_packet.specs.Words.{halves, packed}
use Rattle.chaos_packet.proofs.Pairs.{pairs, take_stored, halves-pairs}
use Rattle.chaos_link.specs.Datagram.{wire, words_of}
use Rattle.chaos_link.proofs.Words.{length-words_of, take-words_of, drop-words_of}

-- what stands behind a front that was put before
pub put_behind : (bs to post front rest : List ℕ) (m n : ℕ) → m ≤ length bs → n ≤ length to → take m bs ≡ front
    → take n to ≡ rest → take (m + n) (take m bs ++ (to ++ post)) ≡ front ++ rest
put_behind bs to post front rest m n fits room first second =
    let whole = take m bs ++ (to ++ post) in
    let before : take m whole ≡ take m bs = take_at (take m bs) (to ++ post) m (length-take-le m bs fits) in
    let behind : drop m whole ≡ to ++ post = drop_at (take m bs) (to ++ post) m (length-take-le m bs fits) in
    let part : take n (to ++ post) ≡ take n to = take-append-le n to post room in
    take-add m n whole ∙ ap₂ (λ a b. a ++ b) (before ∙ first) (ap (take n) behind ∙ part ∙ second)

-- ---- words turned round in blocks

take-halves : (n : ℕ) (ws : List ℕ) → take (2 * n) (halves ws) ≡ halves (take n ws)
take-halves zero ws = refl
take-halves (suc n) [] = let even : 2 * suc n ≡ suc (suc (2 * n)) = omega arith in rw even refl
take-halves (suc n) (w ∷ ws) =
    let even : 2 * suc n
    ≡ suc (suc (2 * n)) = omega arith in rw even (ap (λ bs. w % 256 ∷ w / 256 ∷ bs) (take-halves n ws))

drop-halves : (n : ℕ) (ws : List ℕ) → drop (2 * n) (halves ws) ≡ halves (drop n ws)
drop-halves zero ws = refl
drop-halves (suc n) [] = let even : 2 * suc n ≡ suc (suc (2 * n)) = omega arith in rw even refl
drop-halves (suc n) (w ∷ ws) = let even : 2 * suc n ≡ suc (suc (2 * n)) = omega arith in rw even (drop-halves n ws)

-- words that were read of bytes, and stored as their halves
pub halves_stored : (ws bs to : List ℕ) (n : ℕ) → n ≡ length bs / 2 → take n ws ≡ take n (words_of bs)
    → take (2 * n) to ≡ take (2 * n) (pairs (λ w. w % 256) (λ w. w / 256) ws)
    → take (2 * n) to ≡ halves (words_of bs)
halves_stored ws bs to n e read stored =
    let all : take n (words_of bs) ≡ words_of bs = take_all n (words_of bs) (omega (arith, length-words_of bs)) in
    stored ∙ ap (take (2 * n)) (sym (halves-pairs ws)) ∙ take-halves n ws ∙ ap halves (read ∙ all)

-- what is turned of bytes behind others
turned_behind : (bs : List ℕ) (m k : ℕ) → m ≡ 2 * k → drop m (halves (words_of bs)) ≡ halves (words_of (drop m bs))
turned_behind bs m k e = rw e (drop-halves k (words_of bs) ∙ ap halves (drop-words_of k bs))

-- one block more
pub block_turned : (from to part ys : List ℕ) (i k m n : ℕ) → m ≡ 16 * i → n ≡ 16 * (i + 1) → n ≤ length from
    → m ≤ length to → part ≡ take 16 (drop m from) → length ys ≡ 16
    → take 16 ys ≡ halves (words_of part) → take m to ≡ take m (halves (words_of from))
    → take n (put_mid m k to ys) ≡ take n (halves (words_of from))
block_turned from to part ys i k m n em en inside fits read full turned so_far =
    let whole = halves (words_of from) in
    let behind : take 16 (drop m whole) ≡ halves (words_of part) =
    ap (take 16) (turned_behind from m (8 * i) (omega arith)) ∙ take-halves 8 (words_of (drop m from))
    ∙ ap halves (take-words_of 8 (drop m from)) ∙ ap (λ l. halves (words_of l)) (sym read) in
    let end : n ≡ m + 16 = omega arith in
    take-put_mid m k to ys n (omega arith) fits
    ∙ ap₂ (λ a b. a ++ b) so_far (sym (take_all 16 ys (omega arith)) ∙ turned ∙ sym behind)
    ∙ sym (take-add m 16 whole) ∙ ap (λ n. take n whole) (sym end)

-- and what is left
pub rest_turned : (from to part ys : List ℕ) (i k m n end : ℕ) → m ≡ 16 * i → end ≡ m + n → m ≤ length to
    → n ≤ length ys → part ≡ drop m from
    → take n ys ≡ halves (words_of part) → take m to ≡ take m (halves (words_of from))
    → take end (put_mid m k to ys) ≡ halves (words_of from)
rest_turned from to part ys i k m n end em e fits room read turned so_far =
    let whole = halves (words_of from) in
    ap (λ l. take l (put_mid m k to ys)) e
    ∙ put_behind to ys _ _ _ m n fits room so_far
    (turned ∙ ap (λ l. halves (words_of l)) read ∙ sym (turned_behind from m (8 * i) (omega arith)))
    ∙ take-append-drop m whole

-- ---- the words of packed data, as bytes

-- with an even count each pair is turned round
pub wire-packed : (bs : List ℕ) → ((i : ℕ) → get_or bs i 0 < 256) → length bs % 2 ≡ 0
    → wire (packed bs) ≡ halves (words_of bs)
wire-packed [] small even = refl
wire-packed (a ∷ []) small even = absurd (omega arith)
wire-packed (a ∷ b ∷ bs) small even =
    let high : (a + 256 * b) / 256 ≡ (256 * a + b) % 256 = omega (arith, small 0, small 1) in
    let low : (a + 256 * b) % 256 ≡ (256 * a + b) / 256 = omega (arith, small 0, small 1) in
    rw (high, low, wire-packed bs (λ i. small (suc (suc i))) (omega arith)) refl

-- with an odd count the last byte follows a zero
pub wire-packed_odd : (bs : List ℕ) (k : ℕ) → ((i : ℕ) → get_or bs i 0 < 256) → length bs ≡ 2 * k + 1
    → wire (packed bs) ≡ halves (words_of bs) ++ 0 ∷ get_or bs (2 * k) 0 ∷ []
wire-packed_odd [] k small odd = absurd (omega arith)
wire-packed_odd (a ∷ []) zero small odd =
    let high : a / 256 ≡ 0 = omega (arith, small 0) in
    let low : a % 256 ≡ a = omega (arith, small 0) in
    rw (high, low) refl
wire-packed_odd (a ∷ []) (suc k) small odd = absurd (omega arith)
wire-packed_odd (a ∷ b ∷ bs) zero small odd = absurd (omega arith)
wire-packed_odd (a ∷ b ∷ bs) (suc k) small odd =
    let place : 2 * suc k ≡ suc (suc (2 * k)) = omega arith in
    let high : (a + 256 * b) / 256 ≡ (256 * a + b) % 256 = omega (arith, small 0, small 1) in
    let low : (a + 256 * b) % 256 ≡ (256 * a + b) / 256 = omega (arith, small 0, small 1) in
    rw (place, high, low, wire-packed_odd bs k (λ i. small (suc (suc i))) (omega arith)) refl

-- so it is put behind the pairs
pub odd_put : (bs to : List ℕ) (k n w : ℕ) → ((i : ℕ) → get_or bs i 0 < 256) → length bs ≡ 2 * k + 1 → n ≡ 2 * k + 2
    → 2 * k + 1 < length to → w ≡ get_or bs (2 * k) 0
    → take (2 * k) to ≡ halves (words_of bs) → take n (set (set to (2 * k) 0) (2 * k + 1) w) ≡ wire (packed bs)
odd_put bs to k n w small odd end room last turned =
    take_stored to (2 * k) n 0 w end room ∙ ap (λ l. (l ++ 0 ∷ []) ++ w ∷ []) turned
    ∙ append_assoc (halves (words_of bs)) (0 ∷ []) (w ∷ [])
    ∙ ap (λ v. halves (words_of bs) ++ 0 ∷ v ∷ []) last ∙ sym (wire-packed_odd bs k small odd)
