use Rattle.std.proofs.Common.{length, length-drop, sym, ap, arith}
use Rattle.chaosd_io.proofs.TextBytes.{rest_whole, rest_stands, none_stands, end_stands}
use Rattle.chaosd_io.proofs.bad_text.stands_for_bytes.Goals as goal

pub loop-i-preserved : goal.loop-i-preserved
loop-i-preserved c =
    let text = c.args.text.now in
    let i = c.loop-i.i in
    record {
      within = omega (arith, c.in-Some.ensures.within.1, ap length (rest_whole text i), length-drop i text);
      value = rest_stands text i c.in-Some.field-0-0 c.in-Some.count c.loop-i-test.true (sym c.in-Some.ensures.value)
          c.loop-i.invariant.value;
    }

pub returns-in_default : goal.returns-in_default
returns-in_default c =
    none_stands c.args.text.now c.loop-i.i c.loop-i-test.true (sym c.in_default.ensures.value) c.loop-i.invariant.value

pub returns : goal.returns
returns c = end_stands c.args.text.now c.loop-i.i c.loop-i-test.false c.loop-i.invariant.value
