use Rattle.std.proofs.Common.{◌+◌, ◌≤◌}
use Rattle.chaosd_io.specs.declared.limits.TheConstants.{INPUT_LIMIT}
use Rattle.chaosd_io.specs.Buffer.{written_of}
use Rattle.chaosd_io.specs.Reader.{left_of}
use Rattle.chaosd_show.specs.Shown.{Shows}
use Rattle.chaosd_show.proofs.run.run_show_by.Given as goal

-- the lines that were given were shown
abbrev pub invariant-reads : goal.invariant-reads
invariant-reads g l = (l.reporter.tally.reports + left_of l.lines ≤ INPUT_LIMIT)
    × Shows l.fn.format l.fn.view (g.R.Read.remaining l.fn.reader) (g.R.Read.remaining l.reader) (g.W.Write.contents l.fn.writer)
    (written_of (g.W.Write.contents l.writer) l.reporter.out) l.reporter.tally l.lines

-- fewer bytes may come
abbrev pub decreases-reads : goal.decreases-reads
decreases-reads g l = l.lines.room
