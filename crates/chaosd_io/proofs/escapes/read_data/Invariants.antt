use Rattle.std.proofs.Common.{◌≡◌, ◌≤◌, ◌-◌, length, drop}
use Rattle.chaos_packet.specs.declared.limits.TheConstants.{MAX_DATA}
use Rattle.chaosd_io.specs.Escapes.{bytes_of, with_front}
use Rattle.chaosd_io.proofs.escapes.read_data.Given as goal

-- the bytes so far, in front of those of the rest, are those of the text
abbrev pub invariant-loop-i : goal.invariant-loop-i
invariant-loop-i l = record {
  within : l.i ≤ length l.text;
  room : length l.bytes.items ≤ MAX_DATA;
  value : with_front l.bytes.items (bytes_of (drop l.i l.text)) ≡ bytes_of l.text;
}

abbrev pub decreases-loop-i : goal.decreases-loop-i
decreases-loop-i l = length l.text - l.i
