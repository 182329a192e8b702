use Rattle.std.proofs.Common.{◌≡◌, ◌≤◌, drop, take}
use Rattle.chaosd_line.specs.Files.{last_of}
use Rattle.chaosd_line.proofs.files.last_name.Given as goal

-- what stands behind the last slash so far
abbrev pub invariant-loop-i : goal.invariant-loop-i
invariant-loop-i l = record {
  within : l.start ≤ l.i;
  last : drop l.start (take l.i l.text) ≡ last_of (take l.i l.text);
}
