use Rattle.std.proofs.Common.{length}
use Rattle.chaos_node.proofs.InTurn.{TurnTakes}
use Rattle.file_server.specs.Arrive.{greet}
use Rattle.file_server.proofs.InTurn.{packets_in}
use Rattle.file_server.proofs.arriving.arrive_at_server.Given as goal

abbrev pub invariant-packets : goal.invariant-packets
invariant-packets g l =
    TurnTakes (greet l.fn.start l.fn.turn.now) (packets_in l.fn.came) l.packets l.fn.turn l.turn l.sent

abbrev pub decreases-packets : goal.decreases-packets
decreases-packets g l = length l.packets
