-- A slash begins a name, and another byte belongs to it.
use Rattle.std.proofs.Common.{arith}
use Rattle.chaosd_line.proofs.Named.{last_begun, last_kept}
use Rattle.chaosd_line.proofs.files.last_name.Goals as goal
use Rattle.chaosd_line.proofs.files.last_name.Goals.{then-text-i-eq47, else-text-i-eq47}

pub loop-i-preserved : goal.loop-i-preserved
loop-i-preserved c = elim c.if-text-i-eq47.branch [
  | then-text-i-eq47 w ↦ rw w.start-is (record {
    within = omega arith;
    last = last_begun c.args.text.now c.loop-i.i 0 c.loop-i-test.true w.if-text-i-eq47.true;
  })
  | else-text-i-eq47 w ↦ rw w.start-is (record {
    within = omega (arith, c.loop-i.invariant.within);
    last =
        last_kept c.args.text.now c.loop-i.i c.loop-i.start 0 c.loop-i-test.true c.loop-i.invariant.within
        c.loop-i.invariant.last
        w.if-text-i-eq47.false;
  })
]
