use Rattle.std.proofs.Common.{◌≡◌, drop}
use Rattle.std.specs.List.{list_any}
use Rattle.chaos_packet.specs.Opcode.{kind_of}
use Rattle.chaos_conn.specs.Sending.{carries_ack}
use Rattle.chaos_conn.proofs.time.tells.Given as goal

abbrev pub invariant-loop-i : goal.invariant-loop-i
invariant-loop-i l =
    list_any (λ item. carries_ack (kind_of item.op)) (drop l.i l.send.kept)
    ≡ list_any (λ item. carries_ack (kind_of item.op)) l.send.kept
