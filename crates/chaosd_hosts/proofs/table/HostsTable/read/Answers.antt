-- Each line in its turn.
use Rattle.std.proofs.Common.{◌≡◌, ◌∙◌, ◌+◌, ◌<◌, ap, arith, length, sym}
use Rattle.std.specs.Str.Iter.{lines_rest, lines_steps}
use Rattle.std.specs.Str.Lines.{lines}
use Rattle.std.proofs.lemmas.Iterator.Splits.{YieldsList-from_lines}
use Rattle.chaosd_hosts.specs.Table.{past_line, table_from, table_of}
use Rattle.chaosd_hosts.proofs.Lines.{line_last, line_next}
use Rattle.chaosd_hosts.proofs.table.HostsTable.read.Goals as goal

pub loop-line-init : goal.loop-line-init
unfolding table_of
loop-line-init c =
    let same : lines_rest c.into_iter-line-iterator.result ≡ c.args.text.now =
    ap lines_rest c.into_iter-line-iterator.ensures.into_iter_gives ∙ c.lines-line-items.ensures.rest in
    record {
      can = tt;
      finite = tt;
      numbered = omega (arith, ap length same);
      rest = (
        lines c.args.text.now,
        (YieldsList-from_lines c.args.text.now same).runs,
        ap (table_from 1 (lines c.args.text.now)) (sym c.new-table.ensures),
      );
    }

pub loop-line-preserved : goal.loop-line-preserved
loop-line-preserved c =
    let left = c.loop-line.invariant.rest in
    let step = c.in-Some.ensures.steps in
    let less : length (lines_rest c.next.new.self) < length (lines_rest c.loop-line.line-iterator) =
    (c.in-Some.ensures.goes.on c.loop-line.invariant.finite).2 in
    let next = line_next lines_steps left.0 c.loop-line.line-iterator c.next.new.self c.in-Some.line left.1 step in
    record {
      can = tt;
      finite = tt;
      numbered = omega (arith, less, c.loop-line.invariant.numbered);
      rest = (
        next.0,
        next.2,
        left.2 ∙ ap (λ v. table_from (c.loop-line.number + 1) v c.loop-line.table) next.1
            ∙ ap (λ w. past_line (c.loop-line.number + 1) w (table_from (c.loop-line.number + 1 + 1) next.0)) c.in-Ok.ensures.ok,
      );
    }

pub returns-in-Err : goal.returns-in-Err
returns-in-Err c =
    let left = c.loop-line.invariant.rest in
    let next = line_next lines_steps left.0 c.loop-line.line-iterator c.next.new.self c.in-Some.line left.1 c.in-Some.ensures.steps in
    sym
    (left.2 ∙ ap (λ v. table_from (c.loop-line.number + 1) v c.loop-line.table) next.1
    ∙ ap (λ w. past_line (c.loop-line.number + 1) w (table_from (c.loop-line.number + 1 + 1) next.0)) c.in-Err.ensures.err)

pub returns : goal.returns
returns c =
    let left = c.loop-line.invariant.rest in
    let none = line_last lines_steps left.0 c.loop-line.line-iterator c.next.new.self left.1 c.in-None.ensures.steps in
    sym (left.2 ∙ ap (λ v. table_from (c.loop-line.number + 1) v c.loop-line.table) none)
