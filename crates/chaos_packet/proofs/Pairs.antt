-- Two numbers of each word, one behind the other, and the loop that stores them.
use Rattle.std.proofs.Common.{◌≡◌, ℕ, zero, suc, ◌+◌, ◌*◌, ◌/◌, ◌%◌, ◌<◌, ◌≤◌, List, [], ◌∷◌, ◌++◌, length, get_or, take, set, refl, arith, ap, sym, ◌∙◌, append_assoc}
use Rattle.std.proofs.lemmas.Grind.{take-set_at}
use Rattle.std.proofs.lemmas.List.{length-set, take_more, take-take}
use Rattle.chaos_packet.specs.Words.{halves}

abbrev pub pairs : (ℕ → ℕ) → (ℕ → ℕ) → List ℕ → List ℕ
pairs f g [] = []
pairs f g (w ∷ ws) = f w ∷ g w ∷ pairs f g ws

pub length-pairs : (f g : ℕ → ℕ) (ws : List ℕ) → length (pairs f g ws) ≡ 2 * length ws
length-pairs f g [] = refl
length-pairs f g (w ∷ ws) = omega (arith, length-pairs f g ws)

first_at : (f g : ℕ → ℕ) (ws : List ℕ) (i : ℕ) → i < length ws → get_or (pairs f g ws) (2 * i) 0 ≡ f (get_or ws i 0)
first_at f g [] i there = absurd (omega arith)
first_at f g (w ∷ ws) zero there = refl
first_at f g (w ∷ ws) (suc i) there =
    let place : 2 * suc i ≡ suc (suc (2 * i)) = omega arith in rw place (first_at f g ws i (omega arith))

second_at : (f g : ℕ → ℕ) (ws : List ℕ) (i : ℕ) → i < length ws
    → get_or (pairs f g ws) (2 * i + 1) 0 ≡ g (get_or ws i 0)
second_at f g [] i there = absurd (omega arith)
second_at f g (w ∷ ws) zero there = refl
second_at f g (w ∷ ws) (suc i) there =
    let place : 2 * suc i + 1 ≡ suc (suc (2 * i + 1)) = omega arith in rw place (second_at f g ws i (omega arith))

-- the numbers of one more word
pub take_pair : (f g : ℕ → ℕ) (ws : List ℕ) (i : ℕ) → i < length ws
    → take (2 * (i + 1)) (pairs f g ws)
    ≡ (take (2 * i) (pairs f g ws) ++ f (get_or ws i 0) ∷ []) ++ g (get_or ws i 0) ∷ []
take_pair f g ws i there =
    let both : 2 * (i + 1) ≡ 2 * i + 1 + 1 = omega arith in
    let first : take (2 * i + 1) (pairs f g ws) ≡ take (2 * i) (pairs f g ws) ++ f (get_or ws i 0) ∷ [] =
    take_more (pairs f g ws) (2 * i) 0 (omega (arith, length-pairs f g ws))
    ∙ ap (λ b. take (2 * i) (pairs f g ws) ++ b ∷ []) (first_at f g ws i there) in
    ap (λ n. take n (pairs f g ws)) both ∙ take_more (pairs f g ws) (2 * i + 1) 0 (omega (arith, length-pairs f g ws))
    ∙ ap (λ b. take (2 * i + 1) (pairs f g ws) ++ b ∷ []) (second_at f g ws i there)
    ∙ ap (λ front. front ++ g (get_or ws i 0) ∷ []) first

-- two stores at the end of what was written
pub take_stored : (bs : List ℕ) (m n a b : ℕ) → n ≡ m + 2 → m + 1 < length bs
    → take n (set (set bs m a) (m + 1) b) ≡ (take m bs ++ a ∷ []) ++ b ∷ []
take_stored bs m n a b e fits =
    let inner : take (m + 1) (set bs m a) ≡ take m bs ++ a ∷ [] = take-set_at bs m (m + 1) a refl (omega arith) in
    let room : m + 1 < length (set bs m a) = simp length-set fits in
    take-set_at (set bs m a) (m + 1) n b (omega arith) room ∙ ap (λ front. front ++ b ∷ []) inner

pub length-stored : (bs : List ℕ) (i j a b : ℕ) → length (set (set bs i a) j b) ≡ length bs
length-stored bs i j a b = simp length-set

-- so the stores of one more word go on with the numbers, behind what stands in front
pub pair_stored : (f g : ℕ → ℕ) (front bs ws : List ℕ) (m n i : ℕ) → n ≡ m + 2 → i < length ws → m + 1 < length bs
    → take m bs ≡ front ++ take (2 * i) (pairs f g ws)
    → take n (set (set bs m (f (get_or ws i 0))) (m + 1) (g (get_or ws i 0)))
    ≡ front ++ take (2 * (i + 1)) (pairs f g ws)
pair_stored f g front bs ws m n i e there fits so_far =
    let first = f (get_or ws i 0) in
    let second = g (get_or ws i 0) in
    let before = take (2 * i) (pairs f g ws) in
    take_stored bs m n first second e fits ∙ ap (λ l. (l ++ first ∷ []) ++ second ∷ []) so_far
    ∙ ap (λ l. l ++ second ∷ []) (append_assoc front before (first ∷ []))
    ∙ append_assoc front (before ++ first ∷ []) (second ∷ [])
    ∙ ap (λ l. front ++ l) (sym (take_pair f g ws i there))

-- lists that begin alike begin alike up to any place before
pub take_before : (xs ys : List ℕ) (m n : ℕ) → m ≤ n → take n xs ≡ take n ys → take m xs ≡ take m ys
take_before xs ys m n le e = sym (take-take m n xs le) ∙ ap (take m) e ∙ take-take m n ys le

-- ---- the halves of words

pub halves-pairs : (ws : List ℕ) → halves ws ≡ pairs (λ w. w % 256) (λ w. w / 256) ws
halves-pairs [] = refl
halves-pairs (w ∷ ws) = ap (λ bs. w % 256 ∷ w / 256 ∷ bs) (halves-pairs ws)

pub length-halves : (ws : List ℕ) → length (halves ws) ≡ 2 * length ws
length-halves ws = ap length (halves-pairs ws) ∙ length-pairs _ _ ws
