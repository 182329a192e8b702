use Rattle.std.proofs.Common.{◌≡◌, ◌++◌, take}
use Rattle.std.specs.List.{flat_map}
use Rattle.chaosd_io.specs.Escapes.{shown_byte}
use Rattle.chaosd_io.proofs.escapes.put_bytes.Given as goal

abbrev pub invariant-loop-b : goal.invariant-loop-b
invariant-loop-b l = l.out ≡ l.fn.out ++ flat_map shown_byte (take l.b-index l.bytes)
