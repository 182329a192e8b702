use Rattle.std.proofs.Common.{◌≡◌, ◌*◌, ◌≤◌, take}
use Rattle.chaos_link.specs.Bundle.{bytes_for}
use Rattle.chaos_link.specs.Loads.{EachSpelled}
use Rattle.chaos_link.proofs.bundle.bytes_of_all.Given as goal

-- So far the bytes of the first packets, each of which its words spell.
abbrev pub invariant-loop-packet : goal.invariant-loop-packet
invariant-loop-packet l = record {
  bytes : l.bytes ≡ bytes_for (take l.packet-index l.packets);
  few : l.bytes ≤ 508 * l.packet-index;
  each : EachSpelled (take l.packet-index l.packets);
}
