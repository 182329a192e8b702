use Rattle.std.proofs.Common.{◌∙◌, arith, sym}
use Rattle.chaos_link.proofs.Asked.{asks_none}
use Rattle.file_client.specs.Talk.{eof_item}
use Rattle.file_client.proofs.Talking.{talks_again_turning, farewell_none}
use Rattle.file_client.proofs.client.Client.take_leave.Goals as goal

pub loop-turn-preserved : goal.loop-turn-preserved
loop-turn-preserved g c =
    let pace = g.D.Driver.pace (g.D.Driver.time c.args.self.now.driver) in
    record {
      shown = rw c.loop-turn.invariant.same_time at c.in_ok-turn.ensures.moment;
      same_links = c.turn.ensures.same_driver.0 ∙ c.loop-turn.invariant.same_links;
      same_time = c.turn.ensures.same_driver.1 ∙ c.loop-turn.invariant.same_time;
      unfailed = omega (arith, c.loop-turn.invariant.unfailed, c.in_ok-turn.ensures.unfailed);
      talk =
          talks_again_turning pace _ _ _ _ _ _ _ _ _ eof_item c.loop-turn.is_written c.write_once-is_written.result
          c.loop-turn.turn _ _ c.loop-turn.invariant.talk c.loop-turn.invariant.shown
          c.write_once-is_written.ensures.sent (rw c.loop-turn.invariant.same_time at c.in_ok-turn.ensures.moment)
          (rw c.loop-turn.invariant.same_time at c.in_ok-turn.ensures.well);
    }

pub returns-then-not-has_connection-clause-talk : goal.returns-then-not-has_connection-clause-talk
returns-then-not-has_connection-clause-talk g c =
    farewell_none _ _ c.args.self.now.host.now.caller (g.D.Driver.queue c.args.self.now.driver)
    (sym c.has_connection.ensures ∙ c.if-not-has_connection.true) (asks_none _)
