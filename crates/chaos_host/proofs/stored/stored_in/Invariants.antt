use Rattle.std.proofs.Common.{◌≡◌, ◌≤◌, ◌*◌, take}
use Rattle.chaos_conn.specs.declared.limits.TheConstants.{MAX_PACKET_BYTES}
use Rattle.chaos_host.specs.Stored.{packets_in, bytes_in}
use Rattle.chaos_host.proofs.stored.stored_in.Given as goal

abbrev pub invariant-loop-slot : goal.invariant-loop-slot
invariant-loop-slot l = record {
  packets : l.packets ≡ packets_in (take l.slot-index l.slots);
  bytes : l.bytes ≡ bytes_in (take l.slot-index l.slots);
  packets_fit : l.packets ≤ l.slot-index * l.each;
  bytes_fit : l.bytes ≤ MAX_PACKET_BYTES * l.packets;
}
