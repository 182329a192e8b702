use Rattle.std.proofs.Common.{◌∙◌, arith, refl}
use Rattle.file_client.specs.Talk.{talker}
use Rattle.chaosd_ask.proofs.Asking.{idles_none, idles_on}
use Rattle.chaosd_ask.proofs.script.wait_for_input.Goals as goal

pub loop-turn-init : goal.loop-turn-init
loop-turn-init g c = record {
  same_links = refl;
  same_time = refl;
  well = omega arith;
  input = c.show.ensures;
  idles = idles_none _ _;
}

pub loop-turn-preserved : goal.loop-turn-preserved
loop-turn-preserved g c =
    let pace = g.D.Driver.pace (g.D.Driver.time c.args.client.now.driver) in
    let mid = talker c.loop-turn.client.host.now.caller (g.D.Driver.queue c.loop-turn.client.driver) in
    let last = talker c.turn.new.self.host.now.caller (g.D.Driver.queue c.turn.new.self.driver) in
    record {
      same_links = c.turn.ensures.same_driver.0 ∙ c.loop-turn.invariant.same_links;
      same_time = c.turn.ensures.same_driver.1 ∙ c.loop-turn.invariant.same_time;
      well = omega (arith, c.loop-turn.invariant.well, c.in_ok-turn.ensures.unfailed);
      input = c.is_ready.ensures ∙ c.loop-turn.invariant.input;
      idles =
          idles_on pace _ _ mid last c.turn.new.self.host.now.now c.loop-turn.invariant.idles
          (rw c.loop-turn.invariant.same_time at c.in_ok-turn.ensures.moment)
          (rw c.loop-turn.invariant.same_time at c.in_ok-turn.ensures.well);
    }
