use Rattle.std.proofs.Common.{◌+◌, false, ap, subst, sym, inl, inr, ◌∙◌, arith}
use Rattle.file_client.specs.Patience.{IsSpent}
use Rattle.file_client.specs.Talk.{command_item}
use Rattle.file_client.proofs.Spent.{spent, spent_at_most, within_more}
use Rattle.file_client.proofs.Talking.{talks_again_turning, talks_behind, talks_unreceived, exchange_done, exchange_none}
use Rattle.file_client.proofs.client.Client.ask.Goals as goal

pub returns-then-take_behind-clause-talk : goal.returns-then-take_behind-clause-talk
returns-then-take_behind-clause-talk g c =
    let item = command_item c.args.command.now in
    let pace = g.D.Driver.pace (g.D.Driver.time c.args.self.now.driver) in
    let again =
    talks_again_turning pace _ _ _ _ _ _ _ _ _ item c.loop-turn.is_written c.write_once-is_written.result c.loop-turn.turn
    _ _ c.loop-turn.invariant.talk c.loop-turn.invariant.shown c.write_once-is_written.ensures.sent
    (rw c.loop-turn.invariant.same_time at c.in_ok-turn.ensures.moment)
    (rw c.loop-turn.invariant.same_time at c.in_ok-turn.ensures.well) in
    exchange_done pace _ _ _ _ c.args.command.now c.take_behind.new.reply.items c.write_once-is_written.result
    (c.loop-turn.turn + 1) (c.take_behind.ensures.written c.if-take_behind.true) again
    (talks_behind pace c.write_once-is_written.result _ _ _ _
    (rw c.if-take_behind.true at c.take_behind.ensures.received))

-- what was written so far, and nothing was received
pub returns-then-is_over-clause-talk : goal.returns-then-is_over-clause-talk
returns-then-is_over-clause-talk g c =
    let item = command_item c.args.command.now in
    let pace = g.D.Driver.pace (g.D.Driver.time c.args.self.now.driver) in
    let again =
    talks_again_turning pace _ _ _ _ _ _ _ _ _ item c.loop-turn.is_written c.write_once-is_written.result c.loop-turn.turn
    _ _ c.loop-turn.invariant.talk c.loop-turn.invariant.shown c.write_once-is_written.ensures.sent
    (rw c.loop-turn.invariant.same_time at c.in_ok-turn.ensures.moment)
    (rw c.loop-turn.invariant.same_time at c.in_ok-turn.ensures.well) in
    let unreceived =
    talks_unreceived pace _ _ _ _ item false c.write_once-is_written.result (c.loop-turn.turn + 1) again
    (talks_behind pace c.write_once-is_written.result _ _ _ _
    (rw c.if-take_behind.false at c.take_behind.ensures.received)) in
    exchange_none pace _ _ _ c.args.command.now c.write_once-is_written.result (c.loop-turn.turn + 1) unreceived
    (inr (sym c.is_over.ensures ∙ c.if-is_over.true))

-- the patience is spent
pub returns-then-is_spent-clause-talk : goal.returns-then-is_spent-clause-talk
returns-then-is_spent-clause-talk g c =
    let pace = g.D.Driver.pace (g.D.Driver.time c.args.self.now.driver) in
    let same =
    c.patience-patience.ensures ∙ ap (λ time. (g.D.Driver.pace time).patience) c.call.ensures.same_driver.1 in
    exchange_none pace _ _ _ c.args.command.now c.loop-turn.is_written c.loop-turn.turn c.loop-turn.invariant.talk
    (inl
    (subst (λ patience. IsSpent pace.Shows patience c.loop-turn.turn) same
    (spent pace.Shows c.patience-patience.result c.loop-turn.turn c.begin.new.self.now c.loop-turn.self.host.now.now
    c.loop-turn-test.true (rw c.call.ensures.same_driver.1 at c.in_ok-begin.ensures.moment)
    c.loop-turn.invariant.shown c.loop-turn.invariant.within
    (rw (c.saturating_sub-waited.ensures, c.last_moment.ensures, c.last_moment-since.ensures) at (sym c.is_spent.ensures ∙ c.if-is_spent.true)))))

-- more turns than a u32 can count
pub returns-clause-talk : goal.returns-clause-talk
returns-clause-talk g c =
    let pace = g.D.Driver.pace (g.D.Driver.time c.args.self.now.driver) in
    let same =
    c.patience-patience.ensures ∙ ap (λ time. (g.D.Driver.pace time).patience) c.call.ensures.same_driver.1 in
    exchange_none pace _ _ _ c.args.command.now c.loop-turn.is_written c.loop-turn.turn c.loop-turn.invariant.talk
    (inl
    (subst (λ patience. IsSpent pace.Shows patience c.loop-turn.turn) same
    (spent_at_most pace.Shows c.patience-patience.result c.loop-turn.turn
    (omega (arith, c.loop-turn-test.false, c.loop-turn.auto.turn-end)) c.loop-turn.invariant.within)))

pub loop-turn-preserved : goal.loop-turn-preserved
loop-turn-preserved g c =
    let item = command_item c.args.command.now in
    let pace = g.D.Driver.pace (g.D.Driver.time c.args.self.now.driver) in
    let again =
    talks_again_turning pace _ _ _ _ _ _ _ _ _ item c.loop-turn.is_written c.write_once-is_written.result c.loop-turn.turn
    _ _ c.loop-turn.invariant.talk c.loop-turn.invariant.shown c.write_once-is_written.ensures.sent
    (rw c.loop-turn.invariant.same_time at c.in_ok-turn.ensures.moment)
    (rw c.loop-turn.invariant.same_time at c.in_ok-turn.ensures.well) in
    record {
      shown = rw c.take_behind.ensures.same.0 (rw c.loop-turn.invariant.same_time at c.in_ok-turn.ensures.moment);
      within = within_more c.patience-patience.result c.loop-turn.turn _ (sym c.is_spent.ensures ∙ c.if-is_spent.false);
      same_links = (c.turn.ensures.same_driver.0 ∙ c.loop-turn.invariant.same_links);
      same_time = (c.turn.ensures.same_driver.1 ∙ c.loop-turn.invariant.same_time);
      unfailed = (omega (arith, c.loop-turn.invariant.unfailed, c.in_ok-turn.ensures.unfailed));
      talk =
          talks_unreceived pace _ _ _ _ item false c.write_once-is_written.result (c.loop-turn.turn + 1) again
          (talks_behind pace c.write_once-is_written.result _ _ _ _
          (rw c.if-take_behind.false at c.take_behind.ensures.received));
    }
