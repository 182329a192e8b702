-- The digits of a line from a place on.
use Rattle.std.proofs.Common.{◌≡◌, ℕ, ◌+◌, ◌<◌, ◌≤◌, true, false, List, [], ◌∷◌, ◌++◌, ◌*◌, Option, Some, None, append_assoc, append-nil, length, get_or, drop, refl, arith, ap, ◌∙◌, sym}
use Rattle.std.proofs.lemmas.List.{drop_more, drop_all}
use Rattle.chaosd_show.proofs.Digits.{digit_is_no_blank}
use Rattle.chaosd_show.specs.Hex.{is_blank, hex_value, with_pair, hex_bytes}

skip_blank : (a : ℕ) (bs : List ℕ) → is_blank a ≡ true → hex_bytes (a ∷ bs) ≡ hex_bytes bs
unfolding hex_bytes
skip_blank a [] h = rw h refl
skip_blank a (b ∷ bs) h = rw h refl

take_pair : (a b : ℕ) (bs : List ℕ) → is_blank a ≡ false
    → hex_bytes (a ∷ b ∷ bs) ≡ with_pair (hex_value a) (hex_value b) (hex_bytes bs)
unfolding hex_bytes
take_pair a b bs h = rw h refl

lone_digit : (a : ℕ) → is_blank a ≡ false → hex_bytes (a ∷ []) ≡ None
unfolding hex_bytes
lone_digit a h = rw h refl

pub hex_bytes_blank : (xs : List ℕ) (i : ℕ) → i < length xs → is_blank (get_or xs i 0) ≡ true
    → hex_bytes (drop i xs) ≡ hex_bytes (drop (i + 1) xs)
hex_bytes_blank xs i h blank = ap hex_bytes (drop_more xs i 0 h) ∙ skip_blank _ _ blank

pub hex_bytes_pair : (xs : List ℕ) (i : ℕ) → i + 1 < length xs → is_blank (get_or xs i 0) ≡ false
    → hex_bytes (drop i xs)
    ≡ with_pair (hex_value (get_or xs i 0)) (hex_value (get_or xs (i + 1) 0)) (hex_bytes (drop (i + 2) xs))
hex_bytes_pair xs i h blank =
    let second : drop (i + 1) xs ≡ get_or xs (i + 1) 0 ∷ drop (i + 2) xs =
    drop_more xs (i + 1) 0 h ∙ ap (λ n. get_or xs (i + 1) 0 ∷ drop n xs) (omega arith) in
    ap hex_bytes (drop_more xs i 0 (omega arith) ∙ ap (λ l. get_or xs i 0 ∷ l) second) ∙ take_pair _ _ _ blank

pub hex_bytes_odd : (xs : List ℕ) (i : ℕ) → i < length xs → length xs ≤ i + 1 → is_blank (get_or xs i 0) ≡ false
    → hex_bytes (drop i xs) ≡ None
hex_bytes_odd xs i h le blank =
    ap hex_bytes (drop_more xs i 0 h ∙ ap (λ l. get_or xs i 0 ∷ l) (drop_all (i + 1) xs le)) ∙ lone_digit _ blank

pub hex_bytes_end : (xs : List ℕ) (i : ℕ) → length xs ≤ i → hex_bytes (drop i xs) ≡ Some []
unfolding hex_bytes
hex_bytes_end xs i le = ap hex_bytes (drop_all i xs le)

no_low : (high : Option ℕ) (others : Option (List ℕ)) → with_pair high None others ≡ None
no_low None others = refl
no_low (Some h) others = refl

-- bytes in front of those that a line stands for
abbrev pub with_front : List ℕ → Option (List ℕ) → Option (List ℕ)
with_front front None = None
with_front front (Some bytes) = Some (front ++ bytes)

-- one byte more in front
pub front_pair : (front after : List ℕ) (h l : ℕ) (a b : ℕ) (others : Option (List ℕ)) → hex_value a ≡ Some h
    → hex_value b ≡ Some l → after ≡ front ++ (16 * h + l) ∷ []
    → with_front after others ≡ with_front front (with_pair (hex_value a) (hex_value b) others)
front_pair front after h l a b None p q e = rw (p, q) refl
front_pair front after h l a b (Some bytes) p q e =
    rw (p, q, e) (ap Some (append_assoc front ((16 * h + l) ∷ []) bytes))

-- the loop's step over a pair of digits
pub pair_step : (xs front after : List ℕ) (i h l : ℕ) → i + 1 < length xs → hex_value (get_or xs i 0) ≡ Some h
    → hex_value (get_or xs (i + 1) 0) ≡ Some l
    → after ≡ front ++ (16 * h + l) ∷ [] → with_front front (hex_bytes (drop i xs)) ≡ hex_bytes xs
    → with_front after (hex_bytes (drop (i + 2) xs)) ≡ hex_bytes xs
pair_step xs front after i h l fits high low e so_far =
    let blank = digit_is_no_blank (get_or xs i 0) h high in
    front_pair front after h l (get_or xs i 0) (get_or xs (i + 1) 0) (hex_bytes (drop (i + 2) xs)) high low e
    ∙ ap (with_front front) (sym (hex_bytes_pair xs i fits blank)) ∙ so_far

-- the loop's end where a digit stands alone
pub pair_stops : (xs front : List ℕ) (i h : ℕ) → i + 1 < length xs → hex_value (get_or xs i 0) ≡ Some h
    → hex_value (get_or xs (i + 1) 0) ≡ None
    → with_front front (hex_bytes (drop i xs)) ≡ hex_bytes xs → None ≡ hex_bytes xs
pair_stops xs front i h fits high low so_far =
    let blank = digit_is_no_blank (get_or xs i 0) h high in
    let alone : hex_bytes (drop i xs) ≡ None =
    hex_bytes_pair xs i fits blank
    ∙ ap (λ digit. with_pair (hex_value (get_or xs i 0)) digit (hex_bytes (drop (i + 2) xs))) low
    ∙ no_low (hex_value (get_or xs i 0)) _ in
    sym (ap (with_front front) alone) ∙ so_far

pub front_end : (xs front : List ℕ) (i : ℕ) → length xs ≤ i → with_front front (hex_bytes (drop i xs)) ≡ hex_bytes xs
    → Some front ≡ hex_bytes xs
front_end xs front i le so_far =
    ap Some (sym (append-nil front)) ∙ ap (with_front front) (sym (hex_bytes_end xs i le)) ∙ so_far
