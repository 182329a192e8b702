use Rattle.std.proofs.Common.{◌≡◌, ◌+◌, ◌≤◌, ℕ, List, length}
use Rattle.std.specs.Prelude.{Option}
use Rattle.chaosd_io.specs.declared.limits.TheConstants.{INPUT_LIMIT}
use Rattle.chaosd_io.specs.Buffer.{written_of}
use Rattle.chaosd_io.specs.Reader.{left_of}
use Rattle.chaosd_show.specs.Shown.{Shows}
use Rattle.chaosd_show.proofs.run.report_ended.Given as goal

-- the lines that were cut off were shown
abbrev pub invariant-lines : goal.invariant-lines
invariant-lines g l = (l.reporter.tally.reports + left_of l.lines ≤ INPUT_LIMIT)
    × (l.lines.room ≡ l.fn.lines.room)
    × ((input rest before : Option (List ℕ))
    → Shows l.fn.format l.fn.view input rest before (written_of (g.W.Write.contents l.fn.writer) l.fn.reporter.out) l.fn.reporter.tally
    l.fn.lines
    → Shows l.fn.format l.fn.view input rest before (written_of (g.W.Write.contents l.writer) l.reporter.out) l.reporter.tally l.lines)

-- fewer bytes wait
abbrev pub decreases-lines : goal.decreases-lines
decreases-lines g l = length l.lines.waiting
