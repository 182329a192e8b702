-- Two links in memory that hear each other.
use Rattle.std.specs.Prelude.{◌≡◌, ℕ, List, Some}
use Rattle.chaos_link.specs.Link.{QueueView, SendsInto, ReceivesFrom}
use Rattle.chaos_link.specs.declared.link.Sent.{Sent}
use Rattle.chaos_link.specs.declared.link.Received.{Received}
use Rattle.chaos_link.specs.declared.pair.Side.{Side}
use Rattle.chaos_link.specs.declared.pair.Side.TheVariants.{Near, Far}

-- what waits for the near end, and what for the far end
pub record PairView : Type 0 where
  pub near : QueueView
  pub far : QueueView

-- what waits for this end
abbrev pub waits_for : Side → PairView → QueueView
waits_for Near pair = pair.near
waits_for Far pair = pair.far

abbrev pub other : Side → Side
other Near = Far
other Far = Near

-- This end sent: the datagram waits for the other end with the address that it was given, and what waits for this end
-- is as it was.
pub record SendsAcross (side : Side) (to : ℕ) (bytes : List ℕ) (result : Sent) (before after : PairView) : Type 0 where
  pub across : SendsInto to bytes result (Some (waits_for (other side) after)) (waits_for (other side) before)
  pub own : waits_for side after ≡ waits_for side before

-- This end received the oldest of what waited for it, and what waits for the other end is as it was.
pub record HearsOther (side : Side) (old new : List ℕ) (result : Received) (before after : PairView) : Type 0 where
  pub heard : ReceivesFrom old new result (Some (waits_for side after)) (waits_for side before)
  pub others : waits_for (other side) after ≡ waits_for (other side) before
