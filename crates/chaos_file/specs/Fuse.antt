-- A store with a fuse, by which one call fails.
use Rattle.std.specs.Prelude.{ℕ, ◌+◌, ◌-◌, min}
use Rattle.chaos_packet.specs.Count.{max_count, with_failure}

-- the store behind the fuse, how many calls are left up to and with the one that fails (0 where none fails any more),
-- and how many failed by the fuse
pub record FuseView (S : Type 0) : Type 0 where
  pub inner : S
  pub calls_left : ℕ
  pub own_failures : ℕ

module _ {S : Type 0} where
  -- a new fuse, which fails at this call
  abbrev pub new_fuse : S → ℕ → FuseView S
  new_fuse inner k = record { inner = inner; calls_left = k; own_failures = 0 }

  -- the failures of the store and of the fuse
  abbrev pub count_with : (S → ℕ) → FuseView S → ℕ
  count_with count fuse = min (count fuse.inner + fuse.own_failures) max_count

  -- after the call that fails: the store isn't reached
  abbrev pub after_blow : FuseView S → FuseView S
  after_blow fuse = record fuse { calls_left = 0; own_failures = with_failure fuse.own_failures }

  -- after another call, which the store has answered and is this now
  abbrev pub after_pass : S → FuseView S → FuseView S
  after_pass inner fuse = record fuse { inner = inner; calls_left = fuse.calls_left - 1 }
