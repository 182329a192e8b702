use Rattle.std.proofs.Common.{◌+◌, ◌≤◌, ℕ, List, []}
use Rattle.std.specs.Prelude.{Option}
use Rattle.chaosd_io.specs.declared.limits.TheConstants.{INPUT_LIMIT}
use Rattle.chaosd_io.specs.Buffer.{written_of}
use Rattle.chaosd_io.specs.Reader.{left_of}
use Rattle.chaosd_lab.specs.Player.{PlaysLines, PlaysGiven}
use Rattle.chaosd_lab.proofs.script.play_all.Given as goal

-- the lines that were given were played
abbrev pub invariant-reads : goal.invariant-reads
invariant-reads g l = (l.player.at.lines + left_of l.lines ≤ INPUT_LIMIT)
    × ((before : Option (List ℕ))
    → PlaysLines g.S.Stage.script before (written_of (g.W.Write.contents l.fn.writer) l.fn.player.out) l.fn.player.at []
    → PlaysGiven g.S.Stage.script (g.R.Read.remaining l.fn.reader) (g.R.Read.remaining l.reader) before
    (written_of (g.W.Write.contents l.writer) l.player.out) l.player.at l.lines)

-- fewer bytes may come
abbrev pub decreases-reads : goal.decreases-reads
decreases-reads g l = l.lines.room
