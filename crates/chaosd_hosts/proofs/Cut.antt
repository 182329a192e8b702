-- A text is cut at its first blank.
use Rattle.std.proofs.Common.{◌≡◌, ◌∙◌, ◌<◌, ◌≤◌, ◌∷◌, ◌==◌, ℕ, Bool, true, false, List, [], Some, length, refl, ap, sym, arith, get_or, ⊎_elim}
use Rattle.std.specs.Prelude.{if◌then◌else◌, nat_lt, position}
use Rattle.std.specs.List.{after_first, before_first, filter, onto_first, position_or_len, slice_split}
use Rattle.std.proofs.lemmas.Bool.{cases_lt, eqb-true, le-ltb, lt-ltb, or_cases}
use Rattle.std.proofs.lemmas.Grind.{common_steps}
use Rattle.std.proofs.lemmas.List.Quantifiers.{position-Some}
use Rattle.std.proofs.lemmas.List.Splits.{slice_split-cons_no, slice_split_first}
use Rattle.chaosd_hosts.specs.Fields.{fields_of, is_blank}
use Rattle.chaosd_hosts.specs.Text.{Text}

abbrev is_full : Text → Bool
is_full part = nat_lt 0 (length part)

uncut_at : (p : ℕ → Bool) (x : ℕ) (xs : Text) (b : Bool) → p x ≡ b
    → (length xs ≤ position_or_len p xs → slice_split p xs ≡ xs ∷ [])
    → length (x ∷ xs) ≤ position_or_len p (x ∷ xs) → slice_split p (x ∷ xs) ≡ (x ∷ xs) ∷ []
uncut_at p x xs true e rest h = absurd (grind (arith, e, h))
uncut_at p x xs false e rest h =
    slice_split-cons_no p x xs e ∙ ap (onto_first x) (rest (grind (arith, e, h)))

-- a text without a blank is one part
uncut : (p : ℕ → Bool) (xs : Text) → length xs ≤ position_or_len p xs → slice_split p xs ≡ xs ∷ []
uncut p [] h = refl
uncut p (x ∷ xs) h = uncut_at p x xs (p x) refl (uncut p xs) h

abbrev kept : Text → List Text → List Text
kept part fields = if is_full part then part ∷ fields else fields

keeps : (part : Text) (parts : List Text) → filter is_full (part ∷ parts) ≡ kept part (filter is_full parts)
keeps part parts = refl

-- the fields are the part before the first blank, if it is not empty, and the fields behind the blank
fields_cut : (text : Text) → fields_of text ≡ kept (before_first is_blank text) (fields_of (after_first is_blank text))
unfolding fields_of
fields_cut text =
    ⊎_elim
    (λ lt. ap (filter is_full) (slice_split_first is_blank text 0 lt) ∙ keeps (before_first is_blank text) (slice_split is_blank (after_first is_blank text)))
    (λ ge.
    let before : before_first is_blank text ≡ text = grind (arith, common_steps, ge) in
    let behind : after_first is_blank text ≡ [] = grind (arith, common_steps, ge) in
    ap (filter is_full) (uncut is_blank text ge) ∙ keeps text []
    ∙ (λ i. kept (sym before i) (filter is_full (slice_split is_blank (sym behind i)))))
    (cases_lt (position_or_len is_blank text) (length text))

pub fields_first : (text part behind : Text) → part ≡ before_first is_blank text → behind ≡ after_first is_blank text
    → 0 < length part → fields_of text ≡ part ∷ fields_of behind
fields_first text part behind e f full =
    fields_cut text ∙ (λ i. kept (sym e i) (fields_of (sym f i)))
    ∙ ap (λ b. if b then part ∷ fields_of behind else fields_of behind) (lt-ltb 0 (length part) full)

pub fields_passed : (text part behind : Text) → part ≡ before_first is_blank text → behind ≡ after_first is_blank text
    → length part ≡ 0 → fields_of text ≡ fields_of behind
fields_passed text part behind e f empty =
    fields_cut text ∙ (λ i. kept (sym e i) (fields_of (sym f i)))
    ∙ ap (λ b. if b then part ∷ fields_of behind else fields_of behind) (le-ltb 0 (length part) (omega arith))

pub fields_none : (text : Text) → length text ≡ 0 → fields_of text ≡ []
unfolding fields_of
fields_none [] e = refl
fields_none (x ∷ text) e = absurd (omega arith)

-- what stands behind a blank is shorter
pub behind_shorter : (text behind : Text) → behind ≡ after_first is_blank text → 0 < length text → length behind < length text
behind_shorter text behind e some = grind (arith, common_steps, e)

-- a blank is ASCII
blank_byte : (b : ℕ) → is_blank b ≡ true → b < 128
blank_byte b e = ⊎_elim (λ h. omega (arith, eqb-true b 32 h)) (λ h. omega (arith, eqb-true b 9 h)) (or_cases (b == 32) (b == 9) e)

pub blank_at : (text : Text) (at : ℕ) → Some at ≡ position is_blank text → (at < length text) × (get_or text at 0 < 128)
blank_at text at e =
    let found = position-Some is_blank text at 0 (sym e) in
    (found.0, blank_byte (get_or text at 0) found.1)
