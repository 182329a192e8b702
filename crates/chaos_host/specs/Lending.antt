-- What a borrow of a slot leaves behind.
use Rattle.std.specs.Prelude.{ℕ, Result}
use Rattle.std.specs.Borrow.{LendsIfOk, MutBor, Fml, RattleType}
use Rattle.std.specs.Vec.{with_item}
use Rattle.std.specs.contracts.alloc.Global as global
use Rattle.std.specs.contracts.vec.Vec as vec
use Rattle.std.specs.contracts.impls.GlobalAllocator.TheImpl.{ghosts}
use Rattle.chaos_host.specs.declared.slot.Slot.{Slot}
use Rattle.chaos_host.specs.declared.fault.CallFault.{CallFault}
use Rattle.chaos_host.specs.contracts.slot.Slot.{the_row}
use Rattle.chaos_host.specs.Slot.{place_of}

-- a table of slots, as the logic names its type
abbrev pub table_row : RattleType
table_row = vec.the_row the_row global.the_row ghosts

-- the slot that an own index names has the last value written through r
abbrev pub LendsNamed : MutBor table_row.Denot → ℕ → Result (MutBor Slot) CallFault → Fml
LendsNamed slots id r = LendsIfOk table_row the_row slots r (with_item slots.now (place_of id)) slots.now
