use Rattle.std.proofs.Common.{◌-◌, ◌≤◌, Ok, length, take}
use Rattle.std.specs.Io.KnownBytes.{Appends}
use Rattle.chaosd_io.specs.Output.{GoesOn}
use Rattle.chaosd_io.proofs.output.write_out.Given as goal

-- what is counted was written
abbrev pub invariant-loop-count : goal.invariant-loop-count
invariant-loop-count g l = record {
  within : l.count ≤ length l.bytes;
  written : Appends (g.T.WriteOnce.contents l.fn.writer) (g.T.WriteOnce.contents l.writer) (take l.count l.bytes);
  goes_on :
      GoesOn {A = Unit {0}} (g.T.WriteOnce.interruptions l.fn.writer) (g.T.WriteOnce.interruptions l.writer) (Ok tt);
}

abbrev pub decreases-loop-count : goal.decreases-loop-count
decreases-loop-count g l = length l.bytes - l.count
