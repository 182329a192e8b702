use Rattle.std.proofs.Common.{◌≡◌, ◌∙◌, ap, arith}
use Rattle.std.proofs.lemmas.List.{take_all}
use Rattle.chaos_link.specs.Datagram.{words_of}
use Rattle.chaos_link.proofs.Words.{length-words_of}
use Rattle.chaos_chudp.proofs.Summed.{ComesDown, total, total_more, comes_down, down_once, words_small}
use Rattle.chaos_chudp.specs.Sum.{ones_sum}
use Rattle.chaos_chudp.proofs.sum.checksum_of.Goals as goal

pub loop-i-preserved : goal.loop-i-preserved
loop-i-preserved c =
    let word = c.from_be_bytes.ensures in
    record {
      sum =
          omega (
            arith,
            c.loop-i.invariant.sum,
            c.from-total.ensures,
            word,
            total_more c.args.bytes.now c.loop-i.i (omega (arith, c.loop-i-test.true)),
          );
      few = omega (arith, c.loop-i.invariant.few, c.from-total.ensures, c.from_be_bytes.type_inv);
    }

pub returns : goal.returns
returns c =
    let ws = words_of c.args.bytes.now in
    let all : c.loop-i.total ≡ total ws =
    c.loop-i.invariant.sum
    ∙ ap total (take_all c.loop-i.i ws (omega (arith, c.loop-i-test.false, length-words_of c.args.bytes.now))) in
    let down : ComesDown (total ws) c.folded.result = record {
      carries = c.folded.ensures.folds.0;
      whole = omega (arith, all, c.folded.ensures.folds.1);
      few = omega (arith, c.folded.type_inv);
      zero = λ h. omega (arith, all, (c.folded.ensures.zero).0 h);
    } in
    let ones : c.folded.result ≡ ones_sum ws =
    down_once _ _ _ down (comes_down ws (words_small c.args.bytes.now (λ i. omega (arith, c.type_inv.bytes i)))) in
    omega (arith, ones)
