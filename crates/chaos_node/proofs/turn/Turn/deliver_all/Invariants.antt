use Rattle.std.proofs.Common.{◌≡◌, length}
use Rattle.chaos_node.specs.Arrive.{answer_to, deliver_effect, told_after}
use Rattle.chaos_node.proofs.InTurn.{TurnTakes}
use Rattle.chaos_node.proofs.turn.Turn.deliver_all.Given as goal

abbrev pub invariant-packets : goal.invariant-packets
invariant-packets g l =
    (told_after (answer_to l.told) l.packets l.fn.self.now l.self.host.now
    ≡ told_after (answer_to l.fn.told) l.fn.packets l.fn.self.now l.fn.self.host.now)
    × TurnTakes (deliver_effect l.fn.self.now) l.fn.packets l.packets l.fn.self l.self l.sent

abbrev pub decreases-packets : goal.decreases-packets
decreases-packets g l = length l.packets
