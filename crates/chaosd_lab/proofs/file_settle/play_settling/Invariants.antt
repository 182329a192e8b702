use Rattle.std.proofs.Common.{◌≡◌, false, length}
use Rattle.file_lab.specs.SettlingLeft.{left}
use Rattle.file_lab.specs.View.{wrote_mem}
use Rattle.chaosd_io.specs.Buffer.{written_of}
use Rattle.chaosd_lab.proofs.FileSettling.{Typed}
use Rattle.chaosd_lab.proofs.file_settle.play_settling.Given as goal

-- so many events have happened and are written, and the others are left; B wrote no out-of-memory reply
abbrev pub invariant-loop-event : goal.invariant-loop-event
invariant-loop-event g l =
    Typed l.fn.lab l.lab (left l.events l.lab) (written_of (g.W.Write.contents l.fn.writer) l.fn.out)
    (written_of (g.W.Write.contents l.writer) l.out)
    × (wrote_mem l.lab ≡ false)

abbrev pub decreases-loop-event : goal.decreases-loop-event
decreases-loop-event g l = length (left l.events l.lab)
