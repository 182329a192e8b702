-- The digits of a number from a place on.
use Rattle.std.proofs.Common.{◌≡◌, ℕ, ◌+◌, ◌*◌, ◌<◌, ◌≤◌, false, List, [], ◌∷◌, drop, length, get_or, refl, ap, ◌∙◌, sym}
use Rattle.std.specs.Prelude.{Option, Some, None, nat_lt}
use Rattle.std.proofs.lemmas.List.{drop_more, drop_all}
use Rattle.chaosd_lab.specs.Numbers.{digit_of, one_more, digits_behind}

pub digits_step : (most value : ℕ) (field : List ℕ) (i : ℕ) → i < length field
    → digits_behind most (Some value) (drop i field)
    ≡ digits_behind most (one_more most value (digit_of (get_or field i 0))) (drop (i + 1) field)
unfolding digits_behind
digits_step most value field i h = ap (digits_behind most (Some value)) (drop_more field i 0 h)

pub digits_none : (most : ℕ) (field : List ℕ) → digits_behind most None field ≡ None
unfolding digits_behind
digits_none most [] = refl
digits_none most (b ∷ bs) = refl

pub digits_end : (most : ℕ) (value : Option ℕ) (field : List ℕ) (i : ℕ) → length field ≤ i
    → digits_behind most value (drop i field) ≡ value
unfolding digits_behind
digits_end most value field i le = ap (digits_behind most value) (drop_all i field le)

-- one digit more
pub digits_more : (most value digit : ℕ) (field : List ℕ) (i : ℕ) (whole : Option ℕ) → i < length field
    → digit_of (get_or field i 0) ≡ Some digit → nat_lt most (10 * value + digit) ≡ false
    → digits_behind most (Some value) (drop i field) ≡ whole
    → digits_behind most (Some (10 * value + digit)) (drop (i + 1) field) ≡ whole
digits_more most value digit field i whole h is within so_far =
    let more : one_more most value (digit_of (get_or field i 0)) ≡ Some (10 * value + digit) = rw (is, within) refl in
    sym (digits_step most value field i h ∙ ap (λ v. digits_behind most v (drop (i + 1) field)) more) ∙ so_far

-- a byte that is no digit, or a number over the limit
pub digits_stop : (most value : ℕ) (field : List ℕ) (i : ℕ) (whole : Option ℕ) → i < length field
    → one_more most value (digit_of (get_or field i 0)) ≡ None
    → digits_behind most (Some value) (drop i field) ≡ whole → None ≡ whole
digits_stop most value field i whole h none so_far =
    sym
    (digits_step most value field i h ∙ ap (λ v. digits_behind most v (drop (i + 1) field)) none
    ∙ digits_none most _)
    ∙ so_far
