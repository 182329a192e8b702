-- How long a client waits for a reply.
use Rattle.std.specs.Prelude.{◌≡◌, ◌≤◌, ◌⊎◌, ℕ, ◌-◌, ◌/◌, min, Bool, nat_le, Option, Some, None}
use Rattle.file_copy.specs.declared.limits.TheConstants.{MOST_TURNS}
use Rattle.file_client.specs.declared.limits.TheConstants.{COMMAND_TURNS, OPEN_MILLIS, OPEN_SHARE}
use Rattle.file_client.specs.declared.patience.Patience.{Patience}
use Rattle.file_client.specs.declared.patience.Patience.TheVariants.{Turns, Millis}

-- a reply is usually waited for 1,000 turns
abbrev pub usual_patience : Patience
usual_patience = Turns COMMAND_TURNS

-- the milliseconds for which the first OPN is waited for: 2,000, or a fourth of what a reply is waited for, where that is less
abbrev pub first_wait_of : Patience → ℕ
first_wait_of (Turns turns) = OPEN_MILLIS
first_wait_of (Millis millis) = min (millis / OPEN_SHARE) OPEN_MILLIS

-- the milliseconds for which a reply is waited for, where the clock counts
abbrev pub millis_waited : Patience → Option ℕ
millis_waited (Turns turns) = None
millis_waited (Millis millis) = Some millis

-- so many turns and milliseconds are enough
abbrev pub is_spent : Patience → ℕ → ℕ → Bool
is_spent (Turns most) turns millis = nat_le most turns
is_spent (Millis most) turns millis = nat_le most millis

-- A reply was waited for as long as the patience says: for so many turns, or from one moment that the clock showed to another, so
-- many milliseconds later. Nobody waits for more than 4,294,967,295 turns.
abbrev pub IsSpent : (ℕ → Type 0) → Patience → ℕ → Type 0
IsSpent Shows (Turns most) turns = turns ≡ min most MOST_TURNS
IsSpent Shows (Millis most) turns =
    ((since now : ℕ) × Shows since × Shows now × (most ≤ now - since)) ⊎ (turns ≡ MOST_TURNS)

-- no more turns were made than the patience has, if turns count
abbrev pub IsWithinTurns : Patience → ℕ → Type 0
IsWithinTurns (Turns most) turns = turns ≤ most
IsWithinTurns (Millis most) turns = Unit {0}
