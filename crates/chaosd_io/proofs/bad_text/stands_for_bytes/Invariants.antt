use Rattle.std.proofs.Common.{◌≡◌, ◌≤◌, ◌-◌, length, drop}
use Rattle.std.specs.Prelude.{is_some}
use Rattle.chaosd_io.specs.Escapes.{bytes_of}
use Rattle.chaosd_io.proofs.bad_text.stands_for_bytes.Given as goal

-- the text stands for bytes where the rest does
abbrev pub invariant-loop-i : goal.invariant-loop-i
invariant-loop-i l = record {
  within : l.i ≤ length l.text;
  value : is_some (bytes_of (drop l.i l.text)) ≡ is_some (bytes_of l.text);
}

abbrev pub decreases-loop-i : goal.decreases-loop-i
decreases-loop-i l = length l.text - l.i
