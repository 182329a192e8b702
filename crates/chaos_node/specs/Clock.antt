-- Moments and numbers from what a clock shows.
use Rattle.std.specs.Prelude.{◌≡◌, ℕ, ◌+◌, ◌-◌, ◌/◌, ◌%◌, ◌^◌, min, List, All}
use Rattle.std.specs.Duration.{as_nanos}
use Rattle.chaos_node.specs.declared.clock.Epoch.{Epoch}

-- whole milliseconds, at most the greatest u64
abbrev pub millis_of : ℕ → ℕ
millis_of nanos = min (nanos / 1000000) (2 ^ 64 - 1)

-- The run began when the clock showed that. The date was this; the first number is its milliseconds, and their low 8 bits say how
-- many indices are passed over.
abbrev pub BeginsBy : (ℕ → Type 0) → (ℕ → Type 0) → Epoch → Type 0
BeginsBy Shows Dates epoch =
    Shows (as_nanos epoch.start)
    × ((date : ℕ) × Dates date × (epoch.first ≡ millis_of date) × (epoch.passed ≡ millis_of date % 256))

-- The run began when the clock showed that, with this first number and so many indices to pass over.
abbrev pub DrawnBy : (ℕ → Type 0) → ℕ → ℕ → Epoch → Type 0
DrawnBy Shows first passed epoch =
    Shows (as_nanos epoch.start) × (epoch.first ≡ first) × (epoch.passed ≡ passed)

-- The moment at which the clock shows that: the milliseconds since the run began, and 0 where it went back.
abbrev pub IsMoment : (ℕ → Type 0) → Epoch → ℕ → Type 0
IsMoment Shows epoch moment = (time : ℕ) × Shows time × (moment ≡ millis_of (time - as_nanos epoch.start))

-- Between a first and a last moment these were read: all are moments of the clock, where the first is.
abbrev pub ShownSince : (ℕ → Type 0) → Epoch → ℕ → ℕ → List ℕ → Type 0
ShownSince Shows epoch first last moments =
    IsMoment Shows epoch first → All (IsMoment Shows epoch) moments × IsMoment Shows epoch last

-- the number with which a connection of this moment begins: the low 16 bits of the first number and the moment's milliseconds
abbrev pub number_of : Epoch → ℕ → ℕ
number_of epoch moment = (epoch.first + moment) % 65536
