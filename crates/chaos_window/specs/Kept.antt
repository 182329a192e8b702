-- What contracts see of a queue of items.
use Rattle.std.specs.Prelude.{ℕ, List}
use Rattle.chaos_packet.specs.Item.{ItemView}

-- the items, the oldest first, and how many there may be
pub record KeptView : Type 0 where
  pub items : List ItemView
  pub cap : ℕ
