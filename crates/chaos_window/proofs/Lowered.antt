-- A list of slots whose first one goes behind the others, empty, again and again.
use Rattle.std.proofs.Common.{◌≡◌, ℕ, ◌+◌, ◌<◌, [], ◌∷◌, ◌++◌, length, drop, replicate, None, refl, ap, ap₂, ◌∙◌, arith, append_assoc, length-drop}
use Rattle.std.proofs.lemmas.List.{drop-drop, drop_all, replicate_more}
use Rattle.chaos_window.specs.Slots.{Slots, lowered_slots}

-- after so many of them
abbrev pub lowered_times : ℕ → Slots → Slots
lowered_times n slots = drop n slots ++ replicate n None

front_gone : (ys zs : Slots) → 0 < length ys → drop 1 (ys ++ zs) ≡ drop 1 ys ++ zs
front_gone [] zs some = absurd (omega arith)
front_gone (y ∷ ys) zs some = refl

-- one more
pub lowered_again : (slots : Slots) (n : ℕ) → n < length slots
    → lowered_slots (lowered_times n slots) ≡ lowered_times (n + 1) slots
lowered_again slots n more =
    ap (λ xs. xs ++ None ∷ []) (front_gone (drop n slots) (replicate n None) (omega (arith, length-drop n slots)))
    ∙ append_assoc (drop 1 (drop n slots)) (replicate n None) (None ∷ [])
    ∙ ap₂ (λ xs ys. xs ++ ys) (drop-drop 1 n slots) (replicate_more n None)

-- as many as there are slots
pub all_lowered : (slots : Slots) → lowered_times (length slots) slots ≡ replicate (length slots) None
all_lowered slots = ap (λ xs. xs ++ replicate (length slots) None) (drop_all (length slots) slots (omega arith))

-- for a function that lowers them all
pub ruleset lowered = (lowered_again, all_lowered)
