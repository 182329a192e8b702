-- A new laboratory can open and then settle, if both ends send again before they go down.
use Rattle.std.proofs.Common.{ℕ, ◌+◌, ◌*◌, ◌<◌, ◌≤◌, refl, inl, arith}
use Rattle.chaos_conn.specs.Config.{ConfigView}
use Rattle.chaos_lab.specs.declared.side.Side.{Side}
use Rattle.chaos_lab.specs.declared.side.Side.TheVariants.{A, B}
use Rattle.chaos_lab.specs.Laboratory.{lab_end, lab_start}
use Rattle.chaos_lab.specs.Opening.{CanOpen, HasTimeToSettle}
use Rattle.chaos_lab.specs.Settling.{last_moment}

pub new_opens : (a b : ConfigView) (start : ℕ) → a.retransmit < a.down → a.retransmit ≤ last_moment
    → CanOpen (lab_start a b start)
new_opens a b start again moments =
    record { asks = refl; meets = inl (refl, record { again = omega (arith, again); moments = omega (arith, moments) }) }

pub new_has_time : (a b : ConfigView) (start : ℕ) → a.retransmit < a.down → b.retransmit < b.down
    → 2 * a.retransmit + 2 * b.retransmit ≤ last_moment → HasTimeToSettle (lab_start a b start)
new_has_time a b start first second moments = record { in_time = by; moments = omega (arith, moments) }
  where
    by : (x : Side)
        → (lab_end (lab_start a b start) x).conn.config.retransmit < (lab_end (lab_start a b start) x).conn.config.down
    by A = first
    by B = second
