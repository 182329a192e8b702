use Rattle.std.proofs.Common.{sym, subst}
use Rattle.std.proofs.lemmas.List.{take_more, take_all}
use Rattle.file_transfer.specs.Runs.{Runs}
use Rattle.file_transfer.proofs.Running.{began, one_left, one_tried}
use Rattle.file_transfer.proofs.file_task.run_copies.Goals as goal

pub loop-file-init : goal.loop-file-init
loop-file-init g c = began _ _ _ _

pub loop-file-preserved-then-not-goes_on : goal.loop-file-preserved-then-not-goes_on
loop-file-preserved-then-not-goes_on g c =
    let reported = g.T.OutcomeSink.reported c.args.sink.now in
    let run = rw c.if-not-goes_on.true at c.loop-file.invariant in
    rw
    (take_more c.args.files.now c.loop-file.file-index c.file-item.result c.loop-file-test.true, sym c.file-item.is, c.worse-worst.ensures, c.report.ensures, c.name.ensures, c.if-not-goes_on.true)
    (one_left g.C.FileTask.tries g.C.File.Named.name c.args.task.now reported _ _ _ _ c.file-item.result run)

pub loop-file-preserved : goal.loop-file-preserved
loop-file-preserved g c =
    let reported = g.T.OutcomeSink.reported c.args.sink.now in
    let run = rw c.if-not-goes_on.false at c.loop-file.invariant in
    rw
    (take_more c.args.files.now c.loop-file.file-index c.file-item.result c.loop-file-test.true, sym c.file-item.is, c.worse-worst-in-loop-file.ensures, c.severity.ensures, c.report-in-loop-file.ensures, c.name-in-loop-file.ensures, c.goes_on-goes_on.ensures)
    (one_tried g.C.FileTask.tries g.C.File.Named.name c.args.task.now reported _ _ _ _ _ c.file-item.result
    c.try_file-outcome.result c.try_file-outcome.ensures run)

pub returns : goal.returns
returns g c = (
  c.loop-file.goes_on,
  subst
      (λ files. Runs g.C.FileTask.tries g.C.File.Named.name c.args.task.now (g.T.OutcomeSink.reported c.args.sink.now) files
      c.loop-file.worst c.loop-file.goes_on c.loop-file.task (g.T.OutcomeSink.reported c.loop-file.sink))
      (take_all c.loop-file.file-index c.args.files.now c.loop-file-test.false) c.loop-file.invariant,
)
