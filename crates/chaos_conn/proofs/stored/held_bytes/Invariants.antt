use Rattle.std.proofs.Common.{◌≡◌, ◌≤◌, ◌+◌, ◌*◌, drop, count_by, is_some}
use Rattle.std.specs.List.{sum_by}
use Rattle.chaos_conn.specs.declared.limits.TheConstants.{MAX_PACKET_BYTES}
use Rattle.chaos_conn.specs.Stored.{slot_bytes}
use Rattle.chaos_conn.proofs.stored.held_bytes.Given as goal

abbrev pub invariant-loop-i : goal.invariant-loop-i
invariant-loop-i l = record {
  so_far : l.bytes + sum_by slot_bytes (drop l.i l.recv.held) ≡ sum_by slot_bytes l.recv.held;
  fits : l.bytes + MAX_PACKET_BYTES * count_by is_some (drop l.i l.recv.held)
      ≤ MAX_PACKET_BYTES * count_by is_some l.recv.held;
  small : l.bytes ≤ MAX_PACKET_BYTES * l.i;
}
