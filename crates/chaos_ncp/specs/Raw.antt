-- What the pointer of a node owns.
use Rattle.std.specs.Prelude.{Option, Some, None}
use base.Fml.{Fml, ftrue}
use denote.RattleType.{RattleType}
use denote.RawPtr.{Ptr}
use mir.Syntax.{Ty}
use Rattle.std.specs.Box.Ownership.{box_owns}

-- a value on the heap, with the right to free its block, where there is one
abbrev pub raw_owns : (Ty → Ptr → Fml) → (R : RattleType) → Ptr → Option R.Denot → Fml
raw_owns holds R p None = ftrue
raw_owns holds R p (Some x) = box_owns holds R p x
