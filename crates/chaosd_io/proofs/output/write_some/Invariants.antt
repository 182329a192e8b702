use Rattle.std.specs.Io.KnownBytes.{Keeps}
use Rattle.chaosd_io.proofs.Writes.{LeftAfter}
use Rattle.chaosd_io.proofs.output.write_some.Given as goal

-- an interrupted write took nothing, and was one of those that are known
abbrev pub invariant-loop-tries : goal.invariant-loop-tries
invariant-loop-tries g l = record {
  kept : Keeps (g.T.WriteOnce.contents l.fn.writer) (g.T.WriteOnce.contents l.writer);
  left : LeftAfter (g.T.WriteOnce.interruptions l.fn.writer) (g.T.WriteOnce.interruptions l.writer) l.tries;
}
