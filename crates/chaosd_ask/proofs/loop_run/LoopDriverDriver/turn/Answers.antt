-- The client's turn has no timers.
use Rattle.std.proofs.Common.{◌≡◌, true, []}
use Rattle.chaos_node.specs.Arrive.{answer_to}
use Rattle.file_client.proofs.Asked.{takes_through}
use Rattle.chaosd_ask.proofs.loop_run.LoopDriverDriver.turn.Goals as goal

pub returns-then-eq-3-clause-turned : goal.returns-then-eq-3-clause-turned
returns-then-eq-3-clause-turned g c =
    takes_through c.args.self.now (λ t. t.near.now) (g.A.Link.asked c.args.self.now.near.now)
    (g.A.Link.asked c.client_turn-asked.new.link) [] (λ waits. waits ≡ true → c.args.may_wait ≡ true) c.args.carriage
    c.args.now c.args.host.now c.client_turn-asked.new.host (g.A.Link.queue c.args.self.now.near.now)
    (g.A.Link.queue c.client_turn-asked.new.link) c.args.out.now c.client_turn-asked.new.out (
      c.waits-may_wait.result,
      c.waits-may_wait.ensures.allowed,
      c.client_turn-asked.result,
      answer_to c.client_turn-asked.new.told,
      c.client_turn-asked.ensures.turn,
    )

pub returns-else-eq-3-clause-turned : goal.returns-else-eq-3-clause-turned
returns-else-eq-3-clause-turned g c =
    takes_through c.args.self.now (λ t. t.near.now) (g.A.Link.asked c.args.self.now.near.now)
    (g.A.Link.asked c.client_turn-asked.new.link) [] (λ waits. waits ≡ true → c.args.may_wait ≡ true) c.args.carriage
    c.args.now c.args.host.now c.client_turn-asked.new.host (g.A.Link.queue c.args.self.now.near.now)
    (g.A.Link.queue c.client_turn-asked.new.link) c.args.out.now c.client_turn-asked.new.out (
      c.waits-may_wait.result,
      c.waits-may_wait.ensures.allowed,
      c.client_turn-asked.result,
      answer_to c.client_turn-asked.new.told,
      c.client_turn-asked.ensures.turn,
    )
