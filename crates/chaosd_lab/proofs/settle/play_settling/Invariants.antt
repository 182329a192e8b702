use Rattle.std.proofs.Common.{length}
use Rattle.chaosd_io.specs.Buffer.{written_of}
use Rattle.chaos_lab.specs.SettlingLeft.{left}
use Rattle.chaosd_lab.proofs.Settling.{Typed}
use Rattle.chaosd_lab.proofs.settle.play_settling.Given as goal

-- so many events have happened and are written, and the others are left
abbrev pub invariant-loop-event : goal.invariant-loop-event
invariant-loop-event g l =
    Typed l.fn.lab l.lab (left l.events l.lab) (written_of (g.W.Write.contents l.fn.writer) l.fn.out)
    (written_of (g.W.Write.contents l.writer) l.out)

abbrev pub decreases-loop-event : goal.decreases-loop-event
decreases-loop-event g l = length (left l.events l.lab)
