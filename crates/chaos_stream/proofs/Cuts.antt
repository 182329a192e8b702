-- Cutting bytes for packets.
use Rattle.std.proofs.Common.{◌≡◌, ℕ, zero, suc, ◌+◌, ◌<◌, ◌≤◌, List, [], ◌∷◌, ◌++◌, take, drop, length, map, inl, inr, refl, ap, sym, ◌∙◌, arith}
use Rattle.std.proofs.lemmas.List.{length-take, length-take-le, length-drop, length-append, take-append-drop, take_at, drop_at, take_all, drop_all, drop-drop, drop_min, append-nil}
use Rattle.std.proofs.lemmas.Bool.{cases_lt}
use Rattle.std.proofs.Math.Seq.{take-append-add, take-nil}
use Rattle.chaos_packet.specs.declared.limits.TheConstants.{MAX_DATA}
use Rattle.chaos_stream.specs.Text.{bytes_text, items_text}
use Rattle.chaos_stream.specs.Writing.{first_cuts, cuts_of, data_item, data_items}
use Rattle.chaos_stream.proofs.TextLaw.{bytes_text-append}

-- no more cuts are there than bytes
first_cuts-enough : (f g : ℕ) (bs : List ℕ) → length bs ≤ f → length bs ≤ g → first_cuts f bs ≡ first_cuts g bs
first_cuts-enough zero zero bs h k = refl
first_cuts-enough zero (suc g) [] h k = refl
first_cuts-enough zero (suc g) (b ∷ bs) h k = absurd (omega arith)
first_cuts-enough (suc f) zero [] h k = refl
first_cuts-enough (suc f) zero (b ∷ bs) h k = absurd (omega arith)
first_cuts-enough (suc f) (suc g) [] h k = refl
first_cuts-enough (suc f) (suc g) (b ∷ bs) h k =
    let left = length-drop MAX_DATA (b ∷ bs) in
    ap (λ cuts. take MAX_DATA (b ∷ bs) ∷ cuts)
    (first_cuts-enough f g (drop MAX_DATA (b ∷ bs)) (omega (arith, left)) (omega (arith, left)))

-- the first cut, and those of the rest
pub cuts_of-step : (bs : List ℕ) → 0 < length bs → cuts_of bs ≡ take MAX_DATA bs ∷ cuts_of (drop MAX_DATA bs)
cuts_of-step [] h = absurd (omega arith)
cuts_of-step (b ∷ bs) h =
    let left = length-drop MAX_DATA (b ∷ bs) in
    ap (λ cuts. take MAX_DATA (b ∷ bs) ∷ cuts)
    (first_cuts-enough (length bs) (length (drop MAX_DATA (b ∷ bs))) (drop MAX_DATA (b ∷ bs)) (omega (arith, left))
    (omega arith))

module _ (m t : ℕ) (bs : List ℕ) (within : t ≤ length (drop m bs)) where
  -- a front that is longer than a cut, as the cut and more
  front_is : take (length (take m bs) + t) bs ≡ take m bs ++ take t (drop m bs)
  front_is =
      ap (λ l. take (length (take m bs) + t) l) (sym (take-append-drop m bs))
      ∙ take-append-add (take m bs) (drop m bs) t

  nothing_more : length bs < m → take t (drop m bs) ≡ []
  nothing_more h = ap (λ l. take t l) (drop_all m bs (omega arith)) ∙ take-nil t

  cut_of_front : take m (take m bs ++ take t (drop m bs)) ≡ take m bs
  cut_of_front = elim (cases_lt (length bs) m) [
    | inl h ↦ ap (λ l. take m (take m bs ++ l)) (nothing_more h) ∙ ap (λ l. take m l) (append-nil (take m bs))
        ∙ take_all m (take m bs) (omega (arith, length-take m bs))
    | inr h ↦ take_at (take m bs) (take t (drop m bs)) m (length-take-le m bs h)
  ]

  rest_of_front : drop m (take m bs ++ take t (drop m bs)) ≡ take t (drop m bs)
  rest_of_front = elim (cases_lt (length bs) m) [
    | inl h ↦ ap (λ l. drop m (take m bs ++ l)) (nothing_more h) ∙ ap (λ l. drop m l) (append-nil (take m bs))
        ∙ drop_all m (take m bs) (omega (arith, length-take m bs)) ∙ sym (nothing_more h)
    | inr h ↦ drop_at (take m bs) (take t (drop m bs)) m (length-take-le m bs h)
  ]

-- the cuts of a front of bytes: the first cut, and those of the rest of the front
cuts_of-front : (t : ℕ) (bs : List ℕ) → 0 < length bs → t ≤ length (drop MAX_DATA bs)
    → cuts_of (take (length (take MAX_DATA bs) + t) bs) ≡ take MAX_DATA bs ∷ cuts_of (take t (drop MAX_DATA bs))
cuts_of-front t bs some within =
    let front = take MAX_DATA bs ++ take t (drop MAX_DATA bs) in
    let not_empty : 0 < length front =
    omega (arith, length-append (take MAX_DATA bs) (take t (drop MAX_DATA bs)), length-take MAX_DATA bs) in
    ap cuts_of (front_is MAX_DATA t bs within) ∙ cuts_of-step front not_empty
    ∙ ap (λ cut. cut ∷ cuts_of (drop MAX_DATA front)) (cut_of_front MAX_DATA t bs within)
    ∙ ap (λ rest. take MAX_DATA bs ∷ cuts_of rest) (rest_of_front MAX_DATA t bs within)

pub data_items-front : (t : ℕ) (bs : List ℕ) → 0 < length bs → t ≤ length (drop MAX_DATA bs)
    → data_items (take (length (take MAX_DATA bs) + t) bs)
    ≡ data_item (take MAX_DATA bs) ∷ data_items (take t (drop MAX_DATA bs))
data_items-front t bs some within = ap (λ cuts. map data_item cuts) (cuts_of-front t bs some within)

-- the rest after a cut more
pub drop-cut : (taken : ℕ) (bs : List ℕ)
    → drop (taken + length (take MAX_DATA (drop taken bs))) bs ≡ drop MAX_DATA (drop taken bs)
drop-cut taken bs =
    let rest = drop taken bs in
    sym (drop-drop (length (take MAX_DATA rest)) taken bs) ∙ ap (λ n. drop n rest) (length-take MAX_DATA rest)
    ∙ drop_min MAX_DATA rest

items_text-first_cuts : (f : ℕ) (bs : List ℕ) → length bs ≤ f
    → items_text (map data_item (first_cuts f bs)) ≡ bytes_text bs
items_text-first_cuts zero [] h = refl
items_text-first_cuts zero (b ∷ bs) h = absurd (omega arith)
items_text-first_cuts (suc f) [] h = refl
items_text-first_cuts (suc f) (b ∷ bs) h =
    let all = b ∷ bs in
    let more = items_text-first_cuts f (drop MAX_DATA all) (omega (arith, length-drop MAX_DATA all)) in
    ap (λ t. bytes_text (take MAX_DATA all) ++ t) more ∙ sym (bytes_text-append (take MAX_DATA all) (drop MAX_DATA all))
    ∙ ap bytes_text (take-append-drop MAX_DATA all)

-- bytes as items of data say the bytes
pub items_text-data_items : (bs : List ℕ) → items_text (data_items bs) ≡ bytes_text bs
items_text-data_items bs = items_text-first_cuts (length bs) bs (omega arith)
