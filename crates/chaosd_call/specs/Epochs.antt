-- How a run of the program begins.
use Rattle.std.specs.Prelude.{◌⊎◌, ◌<◌, ◌^◌, ℕ}
use Rattle.chaos_node.specs.Clock.{BeginsBy, DrawnBy}
use Rattle.chaos_node.specs.declared.clock.Epoch.{Epoch}

-- The first number and the indices to pass over were drawn, a number of 16 bits and a number of 8 bits.
abbrev pub DrawnFor : (ℕ → Type 0) → Epoch → Type 0
DrawnFor Shows epoch = (first : ℕ) × (passed : ℕ) × (first < 2 ^ 16) × (passed < 2 ^ 8) × DrawnBy Shows first passed epoch

-- Both were drawn, or go by the date.
abbrev pub IsEpochBy : (ℕ → Type 0) → (ℕ → Type 0) → Epoch → Type 0
IsEpochBy Shows Dates epoch = DrawnFor Shows epoch ⊎ BeginsBy Shows Dates epoch
