use Rattle.std.proofs.Common.{◌-◌, ◌≤◌}
use Rattle.std.specs.Io.KnownBytes.{Keeps}
use Rattle.chaosd_io.specs.declared.limits.TheConstants.{INTERRUPTIONS}
use Rattle.chaosd_io.proofs.Interruptions.{Left}
use Rattle.chaosd_io.proofs.input.read_chunk.Given as goal

-- an interrupted read took nothing, and was counted
abbrev pub invariant-loop-interruptions : goal.invariant-loop-interruptions
invariant-loop-interruptions g l = Keeps (g.T.ReadOnce.remaining l.fn.reader) (g.T.ReadOnce.remaining l.reader)
    × (l.fn.interruptions ≤ l.interruptions)
    × Left (g.T.ReadOnce.interruptions l.fn.reader) (g.T.ReadOnce.interruptions l.reader) l.fn.interruptions
    l.interruptions

abbrev pub decreases-loop-interruptions : goal.decreases-loop-interruptions
decreases-loop-interruptions g l = INTERRUPTIONS - l.interruptions
