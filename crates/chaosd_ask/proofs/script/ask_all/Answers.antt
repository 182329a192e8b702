use Rattle.std.proofs.Common.{sym}
use Rattle.std.proofs.lemmas.Result.{err_from_is_err_and}
use Rattle.chaosd_ask.proofs.Handed.{asks_handed, not_handed, runs_handed}
use Rattle.chaosd_ask.proofs.Noting.{run_noted, unwritten_noted}
use Rattle.chaosd_ask.proofs.script.ask_all.Goals as goal

pub returns-clause-runs : goal.returns-clause-runs
returns-clause-runs g c =
    runs_handed _ _ (g.W.Write.contents c.args.writer.now) _ (g.W.Write.contents c.hand_on-printed.new.writer)
    c.new-out.result c.hand_on-printed.new.out c.ask_lines-end.result c.new-out.ensures c.ask_lines-end.ensures.runs
    c.hand_on-printed.ensures.kept c.in_ok-printed.ensures.empty

pub returns-clause-talk : goal.returns-clause-talk
returns-clause-talk g c =
    asks_handed _ _ _ _ _ (g.W.Write.contents c.args.writer.now) _ (g.W.Write.contents c.hand_on-printed.new.writer)
    c.new-out.result c.hand_on-printed.new.out c.ask_lines-end.result c.new-out.ensures c.ask_lines-end.ensures.talk
    c.hand_on-printed.ensures.kept c.in_ok-printed.ensures.empty

pub returns-in_err-printed-clause-talk : goal.returns-in_err-printed-clause-talk
returns-in_err-printed-clause-talk g c =
    let p = err_from_is_err_and c.from_residual.result c.from_residual.ensures.1 in
    rw (p.1, p.2)
    (not_handed _ _ _ _ _ _ _ _ _ c.ask_lines-end.result c.in_err-printed.field-0.0 c.in_err-printed.ensures.faults
    (sym c.if-is_broken.ensures) c.ask_lines-end.ensures.runs c.ask_lines-end.ensures.talk)

pub returns-clause-noted : goal.returns-clause-noted
returns-clause-noted g c =
    run_noted _ (g.W.Write.contents c.args.writer.now) _ (g.W.Write.contents c.hand_on-printed.new.writer) c.new-out.result
    c.hand_on-printed.new.out _ _ c.ask_lines-end.result c.new-out.ensures c.ask_lines-end.ensures.noted
    c.hand_on-printed.ensures.kept c.in_ok-printed.ensures.empty

pub returns-in_err-printed-clause-noted : goal.returns-in_err-printed-clause-noted
returns-in_err-printed-clause-noted g c =
    let p = err_from_is_err_and c.from_residual.result c.from_residual.ensures.1 in
    rw (p.1, p.2) (unwritten_noted _ _ _ _ _ c.in_err-printed.field-0.0 c.in_err-printed.ensures.faults)
