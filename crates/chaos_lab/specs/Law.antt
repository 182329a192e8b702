-- Words of the delivery law. The direction of a side is the one that it writes, and the other end reads.
use Rattle.std.specs.Prelude.{◌≡◌, ℕ, ◌+◌, ◌<◌, [], ◌∷◌, ◌++◌, length, true, Some, slice_get, ⊤, ◌⊎◌}
use Rattle.std.specs.Bool.{MatchBool}
use Rattle.std.specs.List.{Contains}
use Rattle.std.specs.FinSet.{contains}
use Rattle.chaos_packet.specs.Item.{ItemView}
use Rattle.chaos_lab.specs.declared.side.Side.{Side}
use Rattle.chaos_lab.specs.Machine.{PlainEnd, Copy, Machine, Event, Schedule, other, end_of, Fresh, Step, Run}
use Rattle.chaos_lab.specs.Machine.Phase.{Open}
use Rattle.chaos_lab.specs.Machine.Kind.{Nth}
use Rattle.chaos_lab.specs.Machine.Event.{CloseAt, Deliver}

-- the end that writes this direction
abbrev pub writer : Machine → Side → PlainEnd
writer m x = end_of m x

-- the end that reads it
abbrev pub reader : Machine → Side → PlainEnd
reader m x = end_of m (other x)

-- item i was read, or has arrived
abbrev pub IsThere : PlainEnd → ℕ → Type 0
IsThere e i = (i < length e.read) ⊎ (contains e.arrived i ≡ true)

-- the step from m to n delivers a copy of item i of this direction to its open reader, inside the window that the
-- reader announces
pub record DeliversInside (m : Machine) (x : Side) (i : ℕ) (n : Machine) : Type 0 where
  pub number : ℕ
  pub copy : Copy
  pub sent : slice_get m.copies number ≡ Some copy
  pub sender : copy.sender ≡ x
  pub kind : copy.kind ≡ Nth i
  pub open_end : (reader m x).phase ≡ Open
  pub inside : i < length (reader m x).read + (reader m x).announced
  pub step : Step m (Deliver number) n

-- a run in which the user at x doesn't close its end
abbrev pub RunUnclosed : Side → Machine → Schedule → Machine → Type 0
RunUnclosed x m events n = Run m events n × (Contains events (CloseAt x) → ⊥)

-- between e and f its user reads this item, and nothing else
abbrev pub ReadsItem : ItemView → PlainEnd → PlainEnd → Type 0
ReadsItem item e f = f.read ≡ e.read ++ item ∷ []

-- between e and f its user reads the next item that the peer wrote exactly where that has arrived, and else nothing
abbrev pub ReadsNext : (peer e f : PlainEnd) → Type 0
ReadsNext peer e f =
    let next = length e.read in
    MatchBool (contains e.arrived next)
    ((item : ItemView) × (slice_get peer.written next ≡ Some item) × ReadsItem item e f)
    (f.read ≡ e.read)

-- any call may be made at any time, and any copy delivered that was sent and is fresh
abbrev pub CanHappen : Machine → Event → Type 0
CanHappen m (Deliver k) = (c : Copy) × (slice_get m.copies k ≡ Some c) × Fresh m c
CanHappen m event = ⊤
