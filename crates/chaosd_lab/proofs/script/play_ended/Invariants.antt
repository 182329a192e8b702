use Rattle.std.proofs.Common.{◌≡◌, ◌+◌, ◌≤◌, ℕ, List, length}
use Rattle.std.specs.Prelude.{Option}
use Rattle.chaosd_io.specs.declared.limits.TheConstants.{INPUT_LIMIT}
use Rattle.chaosd_io.specs.Buffer.{written_of}
use Rattle.chaosd_io.specs.Reader.{left_of}
use Rattle.chaosd_lab.specs.Player.{PlaysGiven}
use Rattle.chaosd_lab.proofs.script.play_ended.Given as goal

-- the lines that were cut off were played
abbrev pub invariant-loop-player : goal.invariant-loop-player
invariant-loop-player g l = (l.player.at.lines + left_of l.lines ≤ INPUT_LIMIT)
    × (l.lines.room ≡ l.fn.lines.room)
    × ((input rest before : Option (List ℕ))
    → PlaysGiven g.S.Stage.script input rest before (written_of (g.W.Write.contents l.fn.writer) l.fn.player.out)
    l.fn.player.at l.fn.lines
    → PlaysGiven g.S.Stage.script input rest before (written_of (g.W.Write.contents l.writer) l.player.out) l.player.at
    l.lines)

-- fewer bytes wait
abbrev pub decreases-loop-player : goal.decreases-loop-player
decreases-loop-player g l = length l.lines.waiting
