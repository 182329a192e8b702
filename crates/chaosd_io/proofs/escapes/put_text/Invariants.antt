use Rattle.std.proofs.Common.{◌≡◌, ◌≤◌, ◌-◌, ◌++◌, length, take}
use Rattle.std.specs.List.{flat_map}
use Rattle.chaosd_io.specs.Escapes.{shown_byte}
use Rattle.chaosd_io.proofs.escapes.put_text.Given as goal

-- the text of the bytes so far was written
abbrev pub invariant-loop-i : goal.invariant-loop-i
invariant-loop-i l = record {
  within : l.i ≤ length l.bytes;
  written : l.out ≡ l.fn.out ++ flat_map shown_byte (take l.i l.bytes);
}

abbrev pub decreases-loop-i : goal.decreases-loop-i
decreases-loop-i l = length l.bytes - l.i
