-- The next moment at which something is due.
use Rattle.std.specs.Prelude.{◌≡◌, ℕ, ◌<◌, ◌^◌, min, Bool, true, false, not, nat_lt, Option, Some, None}
use Rattle.chaos_conn.specs.declared.answers.Ticked.{Ticked}
use Rattle.chaos_conn.specs.declared.answers.Ticked.TheVariants as ticked
use Rattle.chaos_conn.specs.View.{ConnView}
use Rattle.chaos_conn.specs.Acted.{quietly}
use Rattle.chaos_conn.specs.Time.{at_moment, act_tick}

-- a tick found nothing due
abbrev pub is_quiet : Ticked → Bool
is_quiet ticked.Quiet = true
is_quiet _ = false

-- a tick at a moment would find nothing due
abbrev pub is_quiet_at : ConnView → ℕ → Bool
is_quiet_at v now = is_quiet (act_tick v now).answer

-- a moment is before this one; where there is none, each is
abbrev pub is_before : ℕ → Option ℕ → Bool
is_before now None = true
is_before now (Some due) = nat_lt now due

-- At each moment that a call can name, a tick would be quiet exactly where the moment is before this one.
abbrev pub IsNextDue : ConnView → Option ℕ → Type 0
IsNextDue v due = (now : ℕ) → now < 2 ^ 64 → is_quiet_at v now ≡ is_before now due

-- A quiet tick puts nothing out, and changes nothing but the moment of the last call.
abbrev pub QuietIsIdle : Type 0
QuietIsIdle =
    (v : ConnView) (now : ℕ) → is_quiet_at v now ≡ true → act_tick v now ≡ quietly (at_moment v now) ticked.Quiet

-- ---- the parts

-- what doesn't hold before this moment, and holds from then on
abbrev pub HoldsFrom : Option ℕ → (ℕ → Bool) → Type 0
HoldsFrom start holds = (now : ℕ) → now < 2 ^ 64 → holds now ≡ not (is_before now start)

-- the earlier of two moments, either of which may never come
abbrev pub earlier_of : Option ℕ → Option ℕ → Option ℕ
earlier_of None b = b
earlier_of (Some a) None = Some a
earlier_of (Some a) (Some b) = Some (min a b)
