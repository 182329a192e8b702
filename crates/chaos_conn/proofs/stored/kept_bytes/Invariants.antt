use Rattle.std.proofs.Common.{◌≡◌, ◌≤◌, ◌+◌, ◌*◌, drop}
use Rattle.std.specs.List.{sum_by}
use Rattle.chaos_conn.specs.declared.limits.TheConstants.{MAX_PACKET_BYTES}
use Rattle.chaos_conn.specs.Stored.{item_bytes}
use Rattle.chaos_conn.proofs.stored.kept_bytes.Given as goal

abbrev pub invariant-loop-i : goal.invariant-loop-i
invariant-loop-i l = record {
  so_far : l.bytes + sum_by item_bytes (drop l.i l.send.kept) ≡ sum_by item_bytes l.send.kept;
  fits : l.bytes ≤ MAX_PACKET_BYTES * l.i;
  small : l.i-end ≤ 65535;
}
