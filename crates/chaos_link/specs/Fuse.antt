-- A link with a fuse, by which one call fails.
use Rattle.std.specs.Prelude.{◌≡◌, ℕ, ◌+◌, ◌-◌, ◌==◌, min, if◌then◌else◌, List, [], ◌∷◌, Option, None}
use Rattle.chaos_packet.specs.Count.{max_count, with_failure}
use Rattle.chaos_link.specs.Link.{Ask}

-- the link behind the fuse, how many calls are left up to and with the one that fails (0 where none fails any more),
-- and how many failed by the fuse
pub record FuseView (L : Type 0) : Type 0 where
  pub inner : L
  pub calls_left : ℕ
  pub own_failures : ℕ

-- the asks without the one that has this number, counted from 1; all asks if no ask has the number
abbrev pub without_one : ℕ → List Ask → List Ask
without_one k [] = []
without_one k (ask ∷ asks) = if k == 1 then asks else ask ∷ without_one (k - 1) asks

-- how many calls are left up to the one that fails, after these asks
abbrev pub left_after : ℕ → List Ask → ℕ
left_after k [] = k
left_after k (ask ∷ asks) = left_after (k - 1) asks

module _ {L : Type 0} where
  -- a new fuse, which fails at this call
  abbrev pub new_fuse : L → ℕ → FuseView L
  new_fuse inner k = record { inner = inner; calls_left = k; own_failures = 0 }

  -- the failures of the link and of the fuse
  abbrev pub count_with : (L → ℕ) → FuseView L → ℕ
  count_with count fuse = min (count fuse.inner + fuse.own_failures) max_count

  -- the queue that the link is, where no call fails by the fuse any more
  abbrev pub queue_with : {Q : Type 0} → (L → Option Q) → FuseView L → Option Q
  queue_with queue fuse = if fuse.calls_left == 0 then queue fuse.inner else None

  -- The link behind the fuse was asked what the fuse was asked, without the call that fails. Each call uses up one.
  abbrev pub asked_behind : (L → L → List Ask → Type 0) → FuseView L → FuseView L → List Ask → Type 0
  asked_behind asked now start asks =
      asked now.inner start.inner (without_one start.calls_left asks) × (now.calls_left ≡ left_after start.calls_left asks)

  -- after the call that fails: the link isn't reached
  abbrev pub after_blow : FuseView L → FuseView L
  after_blow fuse = record fuse { calls_left = 0; own_failures = with_failure fuse.own_failures }

  -- after another call, which the link has answered and is this now
  abbrev pub after_pass : L → FuseView L → FuseView L
  after_pass inner fuse = record fuse { inner = inner; calls_left = fuse.calls_left - 1 }
