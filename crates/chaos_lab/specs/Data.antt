-- The bytes that kept data stand for.
use Rattle.std.specs.Prelude.{ℕ, List}
use Rattle.chaos_lab.specs.declared.data.Data.{Data}
use Rattle.chaos_lab.specs.declared.data.Data.TheVariants as kept

abbrev pub data_of : Data → List ℕ
data_of (kept.Short bytes) = bytes.items
data_of (kept.Long bytes) = bytes.items
data_of (kept.Spare room) = room.value.body
