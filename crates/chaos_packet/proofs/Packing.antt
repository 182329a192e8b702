-- The words that hold bytes, and those alone.
use Rattle.std.proofs.Common.{◌≡◌, ℕ, zero, suc, ◌+◌, ◌-◌, ◌*◌, ◌/◌, ◌%◌, ◌<◌, ◌≤◌, List, [], ◌∷◌, ◌++◌, length, get_or, take, drop, set, refl, arith, ap, ◌∙◌, sym, length-drop, append_assoc}
use Rattle.std.proofs.lemmas.Grind.{take-set_at}
use Rattle.std.proofs.lemmas.List.{take_more, take_all, get_or_past, get_or-drop}
use Rattle.chaos_packet.specs.Packet.{PacketView}
use Rattle.chaos_packet.specs.Words.{halves, words_for, Holds, Spells, HasZeroHalves, count_of, packed, spelling_of}

pub length-packed : (bs : List ℕ) → length (packed bs) ≡ words_for (length bs)
length-packed [] = refl
length-packed (a ∷ []) = refl
length-packed (a ∷ b ∷ bs) = omega (arith, length-packed bs)

-- word i has byte 2i for its low half, and byte 2i + 1 for its high half
packed_at : (bs : List ℕ) (i : ℕ) → get_or (packed bs) i 0 ≡ get_or bs (2 * i) 0 + 256 * get_or bs (2 * i + 1) 0
packed_at [] i = refl
packed_at (a ∷ []) zero = omega arith
packed_at (a ∷ []) (suc i) =
    let even : 2 * suc i ≡ suc (suc (2 * i)) = omega arith in let odd : 2 * suc i + 1
    ≡ suc (suc (2 * i + 1)) = omega arith in rw (odd, even) refl
packed_at (a ∷ b ∷ bs) zero = refl
packed_at (a ∷ b ∷ bs) (suc i) =
    let even : 2 * suc i ≡ suc (suc (2 * i)) = omega arith in let odd : 2 * suc i + 1
    ≡ suc (suc (2 * i + 1)) = omega arith in rw (odd, even) (packed_at bs i)

-- the store of one word more, behind what stands in front
pub packed_stored : (front ws bs : List ℕ) (m n i w : ℕ) → n ≡ m + 1 → m < length ws → i < words_for (length bs)
    → w ≡ get_or bs (2 * i) 0 + 256 * get_or bs (2 * i + 1) 0
    → take m ws ≡ front ++ take i (packed bs) → take n (set ws m w) ≡ front ++ take (i + 1) (packed bs)
packed_stored front ws bs m n i w e room there word so_far =
    let fits : i < length (packed bs) = omega (arith, length-packed bs) in
    take-set_at ws m n w e room ∙ ap (λ l. l ++ w ∷ []) so_far ∙ append_assoc front (take i (packed bs)) (w ∷ [])
    ∙ ap (λ v. front ++ (take i (packed bs) ++ v ∷ [])) (word ∙ sym (packed_at bs i))
    ∙ ap (λ l. front ++ l) (sym (take_more (packed bs) i 0 fits))

-- and with an odd count, of the last
pub packed_last_stored : (front ws bs : List ℕ) (m n i w : ℕ) → n ≡ m + 1 → m < length ws → length bs ≡ 2 * i + 1
    → w ≡ get_or bs (2 * i) 0
    → take m ws ≡ front ++ take i (packed bs) → take n (set ws m w) ≡ front ++ packed bs
packed_last_stored front ws bs m n i w e room odd word so_far =
    let past : get_or bs (2 * i + 1) 0 ≡ 0 = get_or_past bs (2 * i + 1) 0 (omega arith) in
    packed_stored front ws bs m n i w e room (omega arith) (omega (arith, past)) so_far
    ∙ ap (λ l. front ++ l) (take_all (i + 1) (packed bs) (omega (arith, length-packed bs)))

-- packed words hold their bytes
halves-packed : (bs : List ℕ) → ((i : ℕ) → get_or bs i 0 < 256) → take (length bs) (halves (packed bs)) ≡ bs
halves-packed [] small = refl
halves-packed (a ∷ []) small = let low : a % 256 ≡ a = omega (arith, small 0) in rw low refl
halves-packed (a ∷ b ∷ bs) small =
    let low : (a + 256 * b) % 256 ≡ a = omega (arith, small 0) in
    let high : (a + 256 * b) / 256 ≡ b = omega (arith, small 0) in
    rw (low, high, halves-packed bs (λ i. small (suc (suc i)))) refl

pub packed_holds : (bs : List ℕ) → ((i : ℕ) → get_or bs i 0 < 256) → Holds (packed bs) bs
packed_holds bs small = record { size = length-packed bs; bytes = sym (halves-packed bs small) }

-- with an odd count the last word is the last byte
packed_last : (bs : List ℕ) → ((i : ℕ) → get_or bs i 0 < 256) → length bs % 2 ≡ 1
    → get_or (packed bs) (length (packed bs) - 1) 0 / 256 ≡ 0
packed_last bs small odd =
    let past : get_or bs (2 * (length (packed bs) - 1) + 1) 0 ≡ 0 =
    get_or_past bs (2 * (length (packed bs) - 1) + 1) 0 (omega (arith, length-packed bs)) in
    omega (arith, packed_at bs (length (packed bs) - 1), small (2 * (length (packed bs) - 1)))

-- ---- the words that spell a packet

pub spelling_spells : (p : PacketView) → ((i : ℕ) → get_or p.body i 0 < 256) → length p.body ≤ 488
    → Spells p (spelling_of p)
spelling_spells p bytes small =
    record {
      header = omega arith;
      op = omega arith;
      count = refl;
      dst = refl;
      dst_index = refl;
      src = refl;
      src_index = refl;
      num = refl;
      ack = refl;
      small = small;
      body = packed_holds p.body bytes;
    }

pub spelling_zero : (p : PacketView) → ((i : ℕ) → get_or p.body i 0 < 256) → length p.body ≤ 488
    → HasZeroHalves (spelling_of p)
spelling_zero p bytes small =
    record {
      first = omega arith;
      last = λ odd.
          let count : length p.body % 2 ≡ 1 = omega arith in
          let place : length (spelling_of p) - 1
          ≡ suc (suc (suc (suc (suc (suc (suc (suc (length (packed p.body) - 1)))))))) =
          omega (arith, length-packed p.body) in
          rw place (packed_last p.body bytes count);
    }

-- what holds bytes with a zero free half is packed of them
packed_only : (ws bs : List ℕ) → Holds ws bs → (length bs % 2 ≡ 1 → get_or ws (length ws - 1) 0 / 256 ≡ 0)
    → ws ≡ packed bs
packed_only [] [] h zero_last = refl
packed_only [] (a ∷ bs) h zero_last = let size = h.size in absurd (omega arith)
packed_only (w ∷ ws) [] h zero_last = let size = h.size in absurd (omega arith)
packed_only (w ∷ []) (a ∷ []) h zero_last =
    let low : a ≡ w % 256 = ap (λ l. get_or l 0 0) h.bytes in
    let high : w / 256 ≡ 0 = zero_last refl in
    let same : w ≡ a = omega arith in
    rw same refl
packed_only (w ∷ v ∷ ws) (a ∷ []) h zero_last = let size = h.size in absurd (omega arith)
packed_only (w ∷ ws) (a ∷ b ∷ bs) h zero_last =
    let low : a ≡ w % 256 = ap (λ l. get_or l 0 0) h.bytes in
    let high : b ≡ w / 256 = ap (λ l. get_or l 1 0) h.bytes in
    let word : w ≡ a + 256 * b = omega arith in
    let size : length ws ≡ words_for (length bs) = omega (arith, h.size) in
    let rest : ws ≡ packed bs =
    packed_only ws bs (record { size = size; bytes = ap (drop 2) h.bytes })
    (λ odd. last_of w ws (omega arith) (zero_last (omega arith))) in
    cc
  where
    last_of : (w : ℕ) (ws : List ℕ) → 0 < length ws → get_or (w ∷ ws) (length (w ∷ ws) - 1) 0 / 256 ≡ 0
        → get_or ws (length ws - 1) 0 / 256 ≡ 0
    last_of w ws some h = let place : length (w ∷ ws) - 1 ≡ suc (length ws - 1) = omega arith in rw place at h

-- eight words and what follows them
eight_words : (ws : List ℕ) → 8 ≤ length ws
    → ws
    ≡ get_or ws 0 0 ∷ get_or ws 1 0 ∷ get_or ws 2 0 ∷ get_or ws 3 0 ∷ get_or ws 4 0 ∷ get_or ws 5 0 ∷ get_or ws 6 0
    ∷ get_or ws 7 0 ∷ drop 8 ws
eight_words [] h = absurd (omega arith)
eight_words (a ∷ []) h = absurd (omega arith)
eight_words (a ∷ b ∷ []) h = absurd (omega arith)
eight_words (a ∷ b ∷ c ∷ []) h = absurd (omega arith)
eight_words (a ∷ b ∷ c ∷ d ∷ []) h = absurd (omega arith)
eight_words (a ∷ b ∷ c ∷ d ∷ e ∷ []) h = absurd (omega arith)
eight_words (a ∷ b ∷ c ∷ d ∷ e ∷ f ∷ []) h = absurd (omega arith)
eight_words (a ∷ b ∷ c ∷ d ∷ e ∷ f ∷ g ∷ []) h = absurd (omega arith)
eight_words (a ∷ b ∷ c ∷ d ∷ e ∷ f ∷ g ∷ i ∷ ws) h = refl

-- words that spell a packet with zero free halves are its spelling
pub spelled_only : (p : PacketView) (ws : List ℕ) → Spells p ws → HasZeroHalves ws → ws ≡ spelling_of p
spelled_only p ws s zero_halves =
    let first : get_or ws 0 0 ≡ 256 * p.op = omega (arith, s.op, zero_halves.first) in
    let last : length p.body % 2 ≡ 1 → get_or (drop 8 ws) (length (drop 8 ws) - 1) 0 / 256 ≡ 0 = λ odd.
    let count : count_of ws % 2 ≡ 1 = omega (arith, s.count, s.small) in
    let place : 8 + (length (drop 8 ws) - 1) ≡ length ws - 1 = omega (arith, length-drop 8 ws, s.header, s.body.size) in
    rw (get_or-drop, place) (zero_halves.last count) in
    let rest : drop 8 ws ≡ packed p.body = packed_only (drop 8 ws) p.body s.body last in
    eight_words ws s.header ∙ cc (first, s.count, s.dst, s.dst_index, s.src, s.src_index, s.num, s.ack, rest)
