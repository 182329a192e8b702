use Rattle.std.proofs.Common.{◌≡◌, ◌++◌, ◌∷◌, [], ◌∙◌, refl, ap, length, take, arith, rules}
use Rattle.std.specs.Prelude.{Err}
use Rattle.std.proofs.lemmas.Result.{err_from_is_err_and}
use Rattle.chaosd_io.specs.declared.fault.RunFault.TheVariants.{LinkFault}
use Rattle.chaosd_io.specs.declared.limits.TheConstants.{INPUT_LIMIT, KEPT_LEN}
use Rattle.chaosd_io.specs.Reader.{GivesMore}
use Rattle.chaosd_io.proofs.Cutting.{none_came, told}
use Rattle.file_client.specs.Talk.{Anything, talker}
use Rattle.file_client.proofs.Asked.{farewell_of}
use Rattle.chaosd_ask.proofs.Asking.{given_idle, nothing_asked, next_is, last_is, asked_more, last_asked, line_before, line_paced, line_runs, unread_before, unread_runs, unwritten_before, ran_in_part, ran_to_end, asks_in_part, asks_to_end}
use Rattle.chaosd_ask.proofs.Handed.{given_kept, some_came}
use Rattle.chaosd_ask.proofs.Noting.{broken_noted, line_noted, noted_in_part, noted_kept, noted_more, noted_none, noted_to_end, unread_noted, unwritten_noted}
use Rattle.chaosd_ask.proofs.script.ask_lines.Goals.{in-Some+in_ok-ask_line-2+else-not-branch-3, in_default}
use Rattle.chaosd_ask.proofs.script.ask_lines.Goals as goal

pub reads-init : goal.reads-init
reads-init g c = record {
  few = omega (arith, c.new-lines.ensures.left);
  same_links = refl;
  same_time = refl;
  well = omega arith;
  asked = ([], nothing_asked _ _ _, c.new-lines.ensures.given _);
  noted = noted_none _ _ (search rules);
}

pub returns-in_err-ask_line-clause-runs : goal.returns-in_err-ask_line-clause-runs
returns-in_err-ask_line-clause-runs g c =
    let p = err_from_is_err_and c.from_residual.result c.from_residual.ensures.1 in
    let (given, asked, gives) = c.lines.invariant.asked in
    rw (p.1, p.2)
    (line_runs _ (g.D.Driver.pace (g.D.Driver.time c.lines.client.driver)) _ _
    (talker c.ask_line.new.client.host.now.caller (g.D.Driver.queue c.ask_line.new.client.driver)) _ _ _ _ _ c.lines.replied given
    _ c.in_err-ask_line.field-0.0 asked
    (next_is _ _ given _ _ c.line-line.ensures (c.lines-test.ensures.given _ _ _ given gives))
    c.in_err-ask_line.ensures.asks)

pub returns-in_err-ask_line-clause-talk : goal.returns-in_err-ask_line-clause-talk
returns-in_err-ask_line-clause-talk g c =
    let p = err_from_is_err_and c.from_residual.result c.from_residual.ensures.1 in
    let (given, asked, gives) = c.lines.invariant.asked in
    rw (p.1, p.2)
    (line_before _ _ _ (talker c.ask_line.new.client.host.now.caller (g.D.Driver.queue c.ask_line.new.client.driver)) _ _ _ _ _
    c.lines.replied given _ c.in_err-ask_line.field-0.0 asked
    (next_is _ _ given _ _ c.line-line.ensures (c.lines-test.ensures.given _ _ _ given gives))
    (line_paced (g.D.Driver.pace (g.D.Driver.time c.lines.client.driver)) _ _ _ _ _ _ _ c.in_err-ask_line.field-0.0
    (ap g.D.Driver.pace c.lines.invariant.same_time) c.in_err-ask_line.ensures.asks))

pub returns-then-not-branch-clause-runs : goal.returns-then-not-branch-clause-runs
returns-then-not-branch-clause-runs g c =
    let (given, asked, gives) = c.lines.invariant.asked in
    ran_in_part _ _ _ _ _ _ _ _ _ c.lines.replied given _ asked
    (next_is _ _ given _ _ c.line-line.ensures (c.lines-test.ensures.given _ _ _ given gives))
    (rw (c.if-not-branch.true, c.lines.invariant.same_time) at c.in_ok-ask_line.ensures.asks)

pub returns-then-not-branch-clause-talk : goal.returns-then-not-branch-clause-talk
returns-then-not-branch-clause-talk g c =
    let (given, asked, gives) = c.lines.invariant.asked in
    asks_in_part _ _ _ _ _ _ _ _ c.lines.replied given _ asked
    (next_is _ _ given _ _ c.line-line.ensures (c.lines-test.ensures.given _ _ _ given gives))
    (rw (c.if-not-branch.true, c.lines.invariant.same_time) at c.in_ok-ask_line.ensures.asks)

pub lines-preserved : goal.lines-preserved
lines-preserved g c =
    let (given, asked, gives) = c.lines.invariant.asked in
    let (raw, front, more) = c.lines-test.ensures.given _ _ _ given gives in
    record {
      few = omega (arith, c.lines.invariant.few, c.cut.ensures.room, c.lines-test.ensures.less refl);
      room = c.cut.ensures.room ∙ c.lines.invariant.room;
      same_links = c.ask_line.ensures.same_driver.0 ∙ c.lines.invariant.same_links;
      same_time = c.ask_line.ensures.same_driver.1 ∙ c.lines.invariant.same_time;
      well = omega (arith, c.lines.invariant.well, c.in_ok-ask_line.ensures.well);
      asked = (
        given ++ raw ∷ [],
        asked_more _ _ _ _ _ _ _ c.lines.replied given _ raw (ap (take KEPT_LEN) c.line-line.ensures ∙ front) asked
            (rw (c.if-not-branch.false, c.lines.invariant.same_time) at c.in_ok-ask_line.ensures.asks),
        more,
      );
      noted =
          noted_more c.lines.replied _ _ _ _ _ c.lines.invariant.noted
          (rw c.if-not-branch.false at c.in_ok-ask_line.ensures.notes);
    }

pub reads-preserved : goal.reads-preserved
reads-preserved g c =
    let (given, asked, gives) =
    given_idle _ _ _ _ _ _ _ _ _ _ _
    (given_kept _ _ _ _ _ _ _ _ _ _ c.lines.invariant.asked c.in_ok-hand_on.ensures.kept)
    (rw c.lines.invariant.same_time at c.in_ok-wait_for_input.ensures.idles) c.wait_for_input.ensures.input in
    record {
      few =
          omega
          (arith, c.lines.invariant.few, c.cut.ensures.room, ap length (c.lines-test.ensures.none refl), c.in_ok-refill.ensures.left);
      same_links = c.wait_for_input.ensures.same_driver.0 ∙ c.lines.invariant.same_links;
      same_time = c.wait_for_input.ensures.same_driver.1 ∙ c.lines.invariant.same_time;
      well = omega (arith, c.lines.invariant.well, c.in_ok-wait_for_input.ensures.well);
      asked =
          (given, asked, some_came _ _ _ _ given _ c.in_ok-refill.field-0 c.if-not-branch-2.false (c.in_ok-refill.ensures.given _ _ given (c.lines-test.ensures.given _ _ _ given gives).0));
      noted = noted_kept _ _ _ _ _ c.lines.invariant.noted c.in_ok-hand_on.ensures.kept;
    }

pub returns-in_err-hand_on-clause-talk : goal.returns-in_err-hand_on-clause-talk
returns-in_err-hand_on-clause-talk g c =
    let p = err_from_is_err_and c.from_residual-in_err-hand_on.result c.from_residual-in_err-hand_on.ensures.1 in
    let (given, asked, gives) =
    given_kept _ _ _ _ _ _ _ _ _ _ c.lines.invariant.asked c.in_err-hand_on.ensures.kept in
    rw (p.1, p.2)
    (unwritten_before _ _ _ _ _ _ _ c.lines.replied given c.in_err-hand_on.field-0.0 c.in_err-hand_on.ensures.faults
    asked)

pub returns-in_err-refill-clause-runs : goal.returns-in_err-refill-clause-runs
returns-in_err-refill-clause-runs g c =
    let p = err_from_is_err_and c.from_residual-in_err-refill.result c.from_residual-in_err-refill.ensures.1 in
    let (given, asked, gives) =
    given_idle _ _ _ _ _ _ _ _ _ _ _
    (given_kept _ _ _ _ _ _ _ _ _ _ c.lines.invariant.asked c.in_ok-hand_on.ensures.kept)
    (rw c.lines.invariant.same_time at c.in_ok-wait_for_input.ensures.idles) c.wait_for_input.ensures.input in
    rw (p.1, p.2)
    (unread_runs _ _ _ _ _ _ _ c.lines.replied given c.refill.new.self c.in_err-refill.field-0.0 asked
    (c.in_err-refill.ensures.given _ _ given (c.lines-test.ensures.given _ _ _ given gives).0))

pub returns-in_err-refill-clause-talk : goal.returns-in_err-refill-clause-talk
returns-in_err-refill-clause-talk g c =
    let p = err_from_is_err_and c.from_residual-in_err-refill.result c.from_residual-in_err-refill.ensures.1 in
    let (given, asked, gives) =
    given_idle _ _ _ _ _ _ _ _ _ _ _
    (given_kept _ _ _ _ _ _ _ _ _ _ c.lines.invariant.asked c.in_ok-hand_on.ensures.kept)
    (rw c.lines.invariant.same_time at c.in_ok-wait_for_input.ensures.idles) c.wait_for_input.ensures.input in
    rw (p.1, p.2)
    (unread_before _ _ _ _ _ _ _ c.lines.replied given c.refill.new.self c.in_err-refill.field-0.0 asked
    (c.in_err-refill.ensures.given _ _ given (c.lines-test.ensures.given _ _ _ given gives).0))

pub returns-in_err-refill-clause-failed : goal.returns-in_err-refill-clause-failed
returns-in_err-refill-clause-failed g c is =
    let (given, asked, gives) =
    given_idle _ _ _ _ _ _ _ _ _ _ _
    (given_kept _ _ _ _ _ _ _ _ _ _ c.lines.invariant.asked c.in_ok-hand_on.ensures.kept)
    (rw c.lines.invariant.same_time at c.in_ok-wait_for_input.ensures.idles) c.wait_for_input.ensures.input in
    absurd
    (told c.from_residual-in_err-refill.result c.in_err-refill.field-0.0 LinkFault
    (λ f. GivesMore KEPT_LEN INPUT_LIMIT (g.R.Read.remaining c.args.reader.now) (g.R.Read.remaining c.refill.new.reader)
    given c.refill.new.self (Err f))
    c.from_residual-in_err-refill.ensures.1 is
    (c.in_err-refill.ensures.given _ _ given (c.lines-test.ensures.given _ _ _ given gives).0))

pub returns-in_err-ask_line-2-clause-runs : goal.returns-in_err-ask_line-2-clause-runs
returns-in_err-ask_line-2-clause-runs g c =
    let p = err_from_is_err_and c.from_residual-in_err-ask_line-2.result c.from_residual-in_err-ask_line-2.ensures.1 in
    let (given, asked, gives) =
    given_idle _ _ _ _ _ _ _ _ _ _ _
    (given_kept _ _ _ _ _ _ _ _ _ _ c.lines.invariant.asked c.in_ok-hand_on.ensures.kept)
    (rw c.lines.invariant.same_time at c.in_ok-wait_for_input.ensures.idles) c.wait_for_input.ensures.input in
    let end =
    none_came _ _ _ _ given _ c.in_ok-refill.field-0 c.if-not-branch-2.true
    (c.in_ok-refill.ensures.given _ _ given (c.lines-test.ensures.given _ _ _ given gives).0) in
    rw (p.1, p.2)
    (line_runs _ (g.D.Driver.pace (g.D.Driver.time c.wait_for_input.new.client.driver)) _ _
    (talker c.ask_line-in-Some.new.client.host.now.caller (g.D.Driver.queue c.ask_line-in-Some.new.client.driver)) _ _ _ _ _
    c.lines.replied given _ c.in_err-ask_line-2.field-0.0 asked
    (last_is _ _ given _ (c.in-Some.ensures _ _ _ given end.0 end.2)) c.in_err-ask_line-2.ensures.asks)

pub returns-in_err-ask_line-2-clause-talk : goal.returns-in_err-ask_line-2-clause-talk
returns-in_err-ask_line-2-clause-talk g c =
    let p = err_from_is_err_and c.from_residual-in_err-ask_line-2.result c.from_residual-in_err-ask_line-2.ensures.1 in
    let (given, asked, gives) =
    given_idle _ _ _ _ _ _ _ _ _ _ _
    (given_kept _ _ _ _ _ _ _ _ _ _ c.lines.invariant.asked c.in_ok-hand_on.ensures.kept)
    (rw c.lines.invariant.same_time at c.in_ok-wait_for_input.ensures.idles) c.wait_for_input.ensures.input in
    let end =
    none_came _ _ _ _ given _ c.in_ok-refill.field-0 c.if-not-branch-2.true
    (c.in_ok-refill.ensures.given _ _ given (c.lines-test.ensures.given _ _ _ given gives).0) in
    rw (p.1, p.2)
    (line_before _ _ _
    (talker c.ask_line-in-Some.new.client.host.now.caller (g.D.Driver.queue c.ask_line-in-Some.new.client.driver)) _ _ _ _ _
    c.lines.replied given _ c.in_err-ask_line-2.field-0.0 asked
    (last_is _ _ given _ (c.in-Some.ensures _ _ _ given end.0 end.2))
    (line_paced (g.D.Driver.pace (g.D.Driver.time c.wait_for_input.new.client.driver)) _ _ _ _ _ _ _
    c.in_err-ask_line-2.field-0.0
    (ap g.D.Driver.pace (c.wait_for_input.ensures.same_driver.1 ∙ c.lines.invariant.same_time))
    c.in_err-ask_line-2.ensures.asks))

pub returns-then-not-branch-3-clause-runs : goal.returns-then-not-branch-3-clause-runs
returns-then-not-branch-3-clause-runs g c =
    let time = c.wait_for_input.ensures.same_driver.1 ∙ c.lines.invariant.same_time in
    let (given, asked, gives) =
    given_idle _ _ _ _ _ _ _ _ _ _ _
    (given_kept _ _ _ _ _ _ _ _ _ _ c.lines.invariant.asked c.in_ok-hand_on.ensures.kept)
    (rw c.lines.invariant.same_time at c.in_ok-wait_for_input.ensures.idles) c.wait_for_input.ensures.input in
    let end =
    none_came _ _ _ _ given _ c.in_ok-refill.field-0 c.if-not-branch-2.true
    (c.in_ok-refill.ensures.given _ _ given (c.lines-test.ensures.given _ _ _ given gives).0) in
    ran_in_part _ _ _ _ _ _ _ _ _ c.lines.replied given _ asked
    (last_is _ _ given _ (c.in-Some.ensures _ _ _ given end.0 end.2))
    (rw (c.if-not-branch-3.true, time) at c.in_ok-ask_line-2.ensures.asks)

pub returns-then-not-branch-3-clause-talk : goal.returns-then-not-branch-3-clause-talk
returns-then-not-branch-3-clause-talk g c =
    let time = c.wait_for_input.ensures.same_driver.1 ∙ c.lines.invariant.same_time in
    let (given, asked, gives) =
    given_idle _ _ _ _ _ _ _ _ _ _ _
    (given_kept _ _ _ _ _ _ _ _ _ _ c.lines.invariant.asked c.in_ok-hand_on.ensures.kept)
    (rw c.lines.invariant.same_time at c.in_ok-wait_for_input.ensures.idles) c.wait_for_input.ensures.input in
    let end =
    none_came _ _ _ _ given _ c.in_ok-refill.field-0 c.if-not-branch-2.true
    (c.in_ok-refill.ensures.given _ _ given (c.lines-test.ensures.given _ _ _ given gives).0) in
    asks_in_part _ _ _ _ _ _ _ _ c.lines.replied given _ asked
    (last_is _ _ given _ (c.in-Some.ensures _ _ _ given end.0 end.2))
    (rw (c.if-not-branch-3.true, time) at c.in_ok-ask_line-2.ensures.asks)

pub returns-clause-runs : goal.returns-clause-runs
returns-clause-runs g c =
    let time = c.wait_for_input.ensures.same_driver.1 ∙ c.lines.invariant.same_time in
    let (given, asked, gives) =
    given_idle _ _ _ _ _ _ _ _ _ _ _
    (given_kept _ _ _ _ _ _ _ _ _ _ c.lines.invariant.asked c.in_ok-hand_on.ensures.kept)
    (rw c.lines.invariant.same_time at c.in_ok-wait_for_input.ensures.idles) c.wait_for_input.ensures.input in
    let end =
    none_came _ _ _ _ given _ c.in_ok-refill.field-0 c.if-not-branch-2.true
    (c.in_ok-refill.ensures.given _ _ given (c.lines-test.ensures.given _ _ _ given gives).0) in
    ran_to_end (g.D.Driver.pace (g.D.Driver.time c.args.client.now.driver))
    (talker c.args.client.now.host.now.caller (g.D.Driver.queue c.args.client.now.driver))
    (talker c.match-last.client.host.now.caller (g.D.Driver.queue c.match-last.client.driver)) _ _ _ _ c.match-last.replied
    (elim c.match-last.branch [
      | in-Some+in_ok-ask_line-2+else-not-branch-3 w ↦
          rw (w.client-is, w.buffers-is, w.writer-is, w.replied-is)
          (last_asked _ _ _ _ _ _ _ _ _ c.lines.replied given _ asked (w.in-Some.ensures _ _ _ given end.0 end.2)
          (rw (w.if-not-branch-3.false, time) at w.in_ok-ask_line-2.ensures.asks))
      | in_default w ↦ rw (w.client-is, w.buffers-is, w.writer-is, w.replied-is)
          (given, asked, w.in_default.ensures _ _ _ given end.0 end.2)
    ])

pub returns-clause-talk : goal.returns-clause-talk
returns-clause-talk g c =
    let time = c.wait_for_input.ensures.same_driver.1 ∙ c.lines.invariant.same_time in
    let (given, asked, gives) =
    given_idle _ _ _ _ _ _ _ _ _ _ _
    (given_kept _ _ _ _ _ _ _ _ _ _ c.lines.invariant.asked c.in_ok-hand_on.ensures.kept)
    (rw c.lines.invariant.same_time at c.in_ok-wait_for_input.ensures.idles) c.wait_for_input.ensures.input in
    let end =
    none_came _ _ _ _ given _ c.in_ok-refill.field-0 c.if-not-branch-2.true
    (c.in_ok-refill.ensures.given _ _ given (c.lines-test.ensures.given _ _ _ given gives).0) in
    let same : g.D.Driver.time c.match-last.client.driver ≡ g.D.Driver.time c.args.client.now.driver = elim c.match-last.branch [
      | in-Some+in_ok-ask_line-2+else-not-branch-3 w ↦ rw w.client-is
          (w.ask_line-in-Some.ensures.same_driver.1 ∙ time)
      | in_default w ↦ rw w.client-is time
    ] in
    asks_to_end (g.D.Driver.pace (g.D.Driver.time c.args.client.now.driver)) _
    (talker c.match-last.client.host.now.caller (g.D.Driver.queue c.match-last.client.driver)) _ _
    (g.R.Read.remaining c.refill.new.reader) _ _ c.match-last.replied
    (elim c.match-last.branch [
      | in-Some+in_ok-ask_line-2+else-not-branch-3 w ↦
          rw (w.client-is, w.buffers-is, w.writer-is, w.replied-is)
          (last_asked _ _ _ _ _ _ _ _ _ c.lines.replied given _ asked (w.in-Some.ensures _ _ _ given end.0 end.2)
          (rw (w.if-not-branch-3.false, time) at w.in_ok-ask_line-2.ensures.asks))
      | in_default w ↦ rw (w.client-is, w.buffers-is, w.writer-is, w.replied-is)
          (given, asked, w.in_default.ensures _ _ _ given end.0 end.2)
    ])
    (farewell_of _ Anything (λ asks asked. tt) _ _ _ (rw same at c.in_ok-take_leave.ensures.talk))

pub returns-in_err-ask_line-clause-noted : goal.returns-in_err-ask_line-clause-noted
returns-in_err-ask_line-clause-noted g c =
    let p = err_from_is_err_and c.from_residual.result c.from_residual.ensures.1 in
    let (given, asked, gives) = c.lines.invariant.asked in
    rw (p.1, p.2)
    (line_noted _ _ _ _ _ _ _ _ _ _ c.lines.replied given _ _ _ _ c.in_err-ask_line.field-0.0 asked
    (next_is _ _ given _ _ c.line-line.ensures (c.lines-test.ensures.given _ _ _ given gives)) c.lines.invariant.noted
    (λ number is. c.in_err-ask_line.ensures.wrong number (ap Err is)) c.in_err-ask_line.ensures.asks
    c.in_err-ask_line.ensures.notes)

pub returns-then-not-branch-clause-noted : goal.returns-then-not-branch-clause-noted
returns-then-not-branch-clause-noted g c =
    noted_in_part _ _ _ _ _ _ _ c.lines.replied _ _ c.lines.invariant.noted
    (rw c.if-not-branch.true at c.in_ok-ask_line.ensures.asks)
    (rw c.if-not-branch.true at c.in_ok-ask_line.ensures.notes)

pub returns-in_err-hand_on-clause-noted : goal.returns-in_err-hand_on-clause-noted
returns-in_err-hand_on-clause-noted g c =
    let p = err_from_is_err_and c.from_residual-in_err-hand_on.result c.from_residual-in_err-hand_on.ensures.1 in
    rw (p.1, p.2) (unwritten_noted _ _ _ _ _ c.in_err-hand_on.field-0.0 c.in_err-hand_on.ensures.faults)

pub returns-in_err-wait_for_input-clause-noted : goal.returns-in_err-wait_for_input-clause-noted
returns-in_err-wait_for_input-clause-noted g c =
    let p = err_from_is_err_and c.from_residual-in_err-wait_for_input.result c.from_residual-in_err-wait_for_input.ensures.1 in
    rw (p.1, p.2) (broken_noted _ _ _ _ _ c.in_err-wait_for_input.field-0.0)

pub returns-in_err-refill-clause-noted : goal.returns-in_err-refill-clause-noted
returns-in_err-refill-clause-noted g c =
    let p = err_from_is_err_and c.from_residual-in_err-refill.result c.from_residual-in_err-refill.ensures.1 in
    let (given, asked, gives) =
    given_idle _ _ _ _ _ _ _ _ _ _ _
    (given_kept _ _ _ _ _ _ _ _ _ _ c.lines.invariant.asked c.in_ok-hand_on.ensures.kept)
    (rw c.lines.invariant.same_time at c.in_ok-wait_for_input.ensures.idles) c.wait_for_input.ensures.input in
    rw (p.1, p.2)
    (unread_noted _ _ _ _ given c.refill.new.self c.lines.replied _ _ c.in_err-refill.field-0.0
    (noted_kept _ _ _ _ _ c.lines.invariant.noted c.in_ok-hand_on.ensures.kept)
    (c.in_err-refill.ensures.given _ _ given (c.lines-test.ensures.given _ _ _ given gives).0))

pub returns-in_err-ask_line-2-clause-noted : goal.returns-in_err-ask_line-2-clause-noted
returns-in_err-ask_line-2-clause-noted g c =
    let p = err_from_is_err_and c.from_residual-in_err-ask_line-2.result c.from_residual-in_err-ask_line-2.ensures.1 in
    let (given, asked, gives) =
    given_idle _ _ _ _ _ _ _ _ _ _ _
    (given_kept _ _ _ _ _ _ _ _ _ _ c.lines.invariant.asked c.in_ok-hand_on.ensures.kept)
    (rw c.lines.invariant.same_time at c.in_ok-wait_for_input.ensures.idles) c.wait_for_input.ensures.input in
    let end =
    none_came _ _ _ _ given _ c.in_ok-refill.field-0 c.if-not-branch-2.true
    (c.in_ok-refill.ensures.given _ _ given (c.lines-test.ensures.given _ _ _ given gives).0) in
    rw (p.1, p.2)
    (line_noted _ _ _ _ _ _ _ _ _ _ c.lines.replied given _ _ _ _ c.in_err-ask_line-2.field-0.0 asked
    (last_is _ _ given _ (c.in-Some.ensures _ _ _ given end.0 end.2))
    (noted_kept _ _ _ _ _ c.lines.invariant.noted c.in_ok-hand_on.ensures.kept)
    (λ number is. c.in_err-ask_line-2.ensures.wrong number (ap Err is)) c.in_err-ask_line-2.ensures.asks
    c.in_err-ask_line-2.ensures.notes)

pub returns-then-not-branch-3-clause-noted : goal.returns-then-not-branch-3-clause-noted
returns-then-not-branch-3-clause-noted g c =
    noted_in_part _ _ _ _ _ _ _ c.lines.replied _ _
    (noted_kept _ _ _ _ _ c.lines.invariant.noted c.in_ok-hand_on.ensures.kept)
    (rw c.if-not-branch-3.true at c.in_ok-ask_line-2.ensures.asks)
    (rw c.if-not-branch-3.true at c.in_ok-ask_line-2.ensures.notes)

pub returns-in_err-take_leave-clause-noted : goal.returns-in_err-take_leave-clause-noted
returns-in_err-take_leave-clause-noted g c =
    let p = err_from_is_err_and c.from_residual-in_err-take_leave.result c.from_residual-in_err-take_leave.ensures.1 in
    rw (p.1, p.2) (broken_noted _ _ _ _ _ c.in_err-take_leave.field-0.0)

pub returns-clause-noted : goal.returns-clause-noted
returns-clause-noted g c =
    let before = noted_kept _ _ _ _ _ c.lines.invariant.noted c.in_ok-hand_on.ensures.kept in
    noted_to_end _ _ c.match-last.replied _
    (elim c.match-last.branch [
      | in-Some+in_ok-ask_line-2+else-not-branch-3 w ↦
          rw (w.buffers-is, w.writer-is, w.replied-is)
          (noted_more c.lines.replied _ _ _ _ _ before (rw w.if-not-branch-3.false at w.in_ok-ask_line-2.ensures.notes))
      | in_default w ↦ rw (w.buffers-is, w.writer-is, w.replied-is) before
    ])
