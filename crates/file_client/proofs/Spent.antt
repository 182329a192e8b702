-- When a client's patience is spent.
use Rattle.std.proofs.Common.{◌≡◌, ◌≤◌, ◌<◌, ℕ, ◌+◌, ◌-◌, true, false, arith, inl, inr}
use Rattle.std.proofs.lemmas.Bool.{leb-true}
use Rattle.std.proofs.lemmas.Bool.Decides.{leb_tells}
use Rattle.file_client.specs.Patience.{IsSpent, IsWithinTurns, is_spent}
use Rattle.file_copy.specs.declared.limits.TheConstants.{MOST_TURNS}
use Rattle.file_client.specs.declared.patience.Patience.{Patience}
use Rattle.file_client.specs.declared.patience.Patience.TheVariants.{Turns, Millis}

-- it is where the code finds it so, between two moments that the clock showed
pub spent : (Shows : ℕ → Type 0) (p : Patience) (turns since now : ℕ) → turns < MOST_TURNS → Shows since → Shows now
    → IsWithinTurns p turns → is_spent p turns (now - since) ≡ true → IsSpent Shows p turns
spent Shows (Turns most) turns since now few began shown within is =
    let enough : most ≤ turns = leb-true most turns is in grind (arith, enough, within, few)
spent Shows (Millis most) turns since now few began shown within is =
    inl (since, now, began, shown, leb-true most (now - since) is)

-- nobody waits for more turns than a u32 can count
pub spent_at_most : (Shows : ℕ → Type 0) (p : Patience) (turns : ℕ) → turns ≡ MOST_TURNS → IsWithinTurns p turns → IsSpent Shows p turns
spent_at_most Shows (Turns most) turns is within = grind (arith, is, within)
spent_at_most Shows (Millis most) turns is within = inr is

-- one turn more is within it where it isn't spent
pub within_more : (p : Patience) (turns millis : ℕ) → is_spent p turns millis ≡ false → IsWithinTurns p (turns + 1)
within_more (Turns most) turns millis not = grind (arith, leb_tells most turns, not)
within_more (Millis most) turns millis not = tt

-- none is within it
pub within_none : (p : Patience) → IsWithinTurns p 0
within_none (Turns most) = omega arith
within_none (Millis most) = tt
