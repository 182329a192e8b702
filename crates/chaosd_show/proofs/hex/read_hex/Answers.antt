use Rattle.std.proofs.Common.{◌≡◌, ◌+◌, ◌*◌, ◌++◌, ◌∷◌, [], take, slice_set, sym, ◌∙◌, arith}
use Rattle.std.proofs.lemmas.Grind.{common_steps}
use Rattle.chaosd_show.proofs.Pairs.{pair_step, pair_stops, front_end}
use Rattle.chaosd_show.proofs.hex.read_hex.Goals as goal

pub loop-i-preserved : goal.loop-i-preserved
loop-i-preserved c =
    let count = c.loop-i.count in
    let byte = 16 * c.in-Some.high + c.in-Some-hex_value.low in
    let high = sym c.hex_value.ensures ∙ c.in-Some.is in
    let one_more : take (count + 1) (slice_set c.loop-i.bytes count byte) ≡ take count c.loop-i.bytes ++ byte ∷ [] =
    grind (arith, common_steps) in
    record {
      within = omega arith;
      room = omega arith;
      value = pair_step c.args.line.now _ _ c.loop-i.i c.in-Some.high c.in-Some-hex_value.low (omega arith)
          high (sym c.hex_value-in-loop-i.ensures ∙ c.in-Some-hex_value.is) one_more c.loop-i.invariant.value;
    }

pub returns-in_default-hex_value-clause-value : goal.returns-in_default-hex_value-clause-value
returns-in_default-hex_value-clause-value c =
    pair_stops c.args.line.now _ c.loop-i.i c.in-Some.high (omega arith) (sym c.hex_value.ensures ∙ c.in-Some.is)
    (sym c.hex_value-in-loop-i.ensures ∙ c.in_default-hex_value.is) c.loop-i.invariant.value

pub returns-clause-value : goal.returns-clause-value
returns-clause-value c = front_end c.args.line.now _ c.loop-i.i c.loop-i-test.false c.loop-i.invariant.value
