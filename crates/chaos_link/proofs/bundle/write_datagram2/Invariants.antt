use Rattle.std.proofs.Common.{◌≡◌, ◌+◌, ◌++◌, length, take}
use Rattle.chaos_link.specs.Datagram.{wire}
use Rattle.chaos_link.specs.Packets.{mark_of}
use Rattle.chaos_link.specs.Bundle.{bytes_for, spelling_of_all}
use Rattle.chaos_link.specs.Loads.{EachSpelled}
use Rattle.chaos_link.proofs.bundle.write_datagram2.Given as goal

-- So far the mark and the first packets, each of which its words spell.
abbrev pub invariant-loop-packet : goal.invariant-loop-packet
invariant-loop-packet l = record {
  size : length l.buffer ≡ length l.fn.buffer;
  end : l.end ≡ 4 + bytes_for (take l.packet-index l.packets);
  bytes : take l.end l.buffer ≡ mark_of (length l.packets) ++ wire (spelling_of_all (take l.packet-index l.packets));
  each : EachSpelled (take l.packet-index l.packets);
}
