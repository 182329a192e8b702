-- What contracts see of a stream.
use Rattle.std.specs.Prelude.{ℕ}

-- the own index of its connection, and the place in the item in front, in bytes
pub record StreamView : Type 0 where
  pub id : ℕ
  pub place : ℕ
