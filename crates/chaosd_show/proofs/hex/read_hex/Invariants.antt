use Rattle.std.proofs.Common.{◌≡◌, ◌≤◌, ◌-◌, ◌*◌, length, take, drop}
use Rattle.chaosd_show.specs.Hex.{hex_bytes}
use Rattle.chaosd_show.proofs.Pairs.{with_front}
use Rattle.chaosd_show.proofs.hex.read_hex.Given as goal

-- the bytes so far, in front of those of the rest, are those of the line
abbrev pub invariant-loop-i : goal.invariant-loop-i
invariant-loop-i l = record {
  within : l.i ≤ length l.line;
  room : 2 * l.count ≤ l.i;
  value : with_front (take l.count l.bytes) (hex_bytes (drop l.i l.line)) ≡ hex_bytes l.line;
}

abbrev pub decreases-loop-i : goal.decreases-loop-i
decreases-loop-i l = length l.line - l.i
