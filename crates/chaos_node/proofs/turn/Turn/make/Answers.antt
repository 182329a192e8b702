use Rattle.chaos_node.specs.Arrive.{arrive_at_client}
use Rattle.chaos_node.specs.Timer.{tick_by}
use Rattle.chaos_node.proofs.InTurn.{then_slots_alone}
use Rattle.chaos_node.proofs.turn.Turn.make.Goals as goal

pub returns-clause-phases : goal.returns-clause-phases
returns-clause-phases g c =
    let arrived = c.arrive-arrived in
    let ticked = c.tick_slots-ticked in
    then_slots_alone c.args.self.now arrived.new.self ticked.new.self
    (arrive_at_client c.args.came c.args.self.now.now c.args.self.now.host.now) (tick_by c.args.timers.now) arrived.result ticked.result
    c.any_of.result arrived.ensures.phase ticked.ensures c.any_of.ensures
