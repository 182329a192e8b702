use Rattle.std.proofs.Common.{[], ◌∙◌, ◌*◌, ap, arith, sym, take}
use Rattle.chaos_packet.proofs.Pairs.{length-stored, pair_stored, take_before, halves-pairs}
use Rattle.chaos_packet.proofs.reading.data_of.Goals as goal

pub loop-i-preserved : goal.loop-i-preserved
loop-i-preserved c = record {
  size = length-stored c.loop-i.bytes _ _ _ _ ∙ c.loop-i.invariant.size;
  bytes =
      pair_stored _ _ [] c.loop-i.bytes c.args.words.now _ _ c.loop-i.i (omega arith) c.loop-i-test.true (omega arith)
      c.loop-i.invariant.bytes;
}

pub returns : goal.returns
returns c =
    c.body_of.ensures
    ∙ take_before c.loop-i.bytes _ c.args.count (2 * c.loop-i.i) (omega arith) c.loop-i.invariant.bytes
    ∙ ap (take c.args.count) (sym (halves-pairs c.args.words.now))
