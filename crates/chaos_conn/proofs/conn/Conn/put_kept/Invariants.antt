use Rattle.std.proofs.Common.{◌≡◌, ◌≤◌, drop, length}
use Rattle.chaos_packet.specs.Outbox.{with_put, room_of}
use Rattle.chaos_conn.specs.Sending.{all_kept, packets_from}
use Rattle.chaos_conn.proofs.conn.Conn.put_kept.Given as goal

abbrev pub invariant-loop-i : goal.invariant-loop-i
invariant-loop-i l = record {
  room : length (drop l.i l.send.kept) ≤ room_of l.out;
  all : with_put l.out (packets_from l.self l.num (drop l.i l.send.kept)) ≡ with_put l.fn.out (all_kept l.self);
}
