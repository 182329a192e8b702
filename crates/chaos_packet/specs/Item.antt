-- Items: what is numbered, and delivered in order.
use Rattle.std.specs.Prelude.{ℕ, List, []}

-- an opcode and data bytes
pub record ItemView : Type 0 where
  pub op : ℕ
  pub body : List ℕ

-- opcode 0, and no data
abbrev pub blank_item : ItemView
blank_item = record { op = 0; body = [] }
