-- A run of the plain machine, by which B reads what A wrote. So the premises of the delivery law can be met.
--
--       A                                  B
--       asks           -- 0, RFC -->       is asked
--       is open        <-- 1, OPN --       accepts
--       writes an item -- 2 -->            has the item, ticks, and reads the item
use Rattle.std.specs.Prelude.{◌≡◌, [], ◌∷◌, length}
use Rattle.chaos_lab.specs.declared.side.Side.TheVariants.{A, B}
use Rattle.chaos_lab.specs.Law.{DeliversInside, RunUnclosed}
use Rattle.chaos_lab.specs.Machine.{Machine, Step, Reached}
use Rattle.chaos_lab.specs.Machine.Event.{ReadAt, TickAt}
use Rattle.chaos_lab.specs.Machine.Phase.{RfcReceived}

-- The machine is reached in which B is asked.
pub record SomethingIsAsked : Type 0 where
  pub asked : Machine
  pub reached : Reached asked
  pub phase : asked.b.phase ≡ RfcReceived

-- The machine is reached in which A has written an item. The item comes to B inside the window, and B doesn't close. Then the item is
-- the next that B reads, and B has read all that A wrote.
pub record SomethingIsRead : Type 0 where
  pub written : Machine
  pub came : Machine
  pub read : Machine
  pub reached : Reached written
  pub delivers : DeliversInside written A 1 came
  pub unclosed : RunUnclosed B came (TickAt B ∷ []) came
  pub next : length came.b.read ≡ 1
  pub reads : Step came (ReadAt B) read
  pub all : read.b.read ≡ read.a.written
