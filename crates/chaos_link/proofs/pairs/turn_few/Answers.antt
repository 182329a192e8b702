use Rattle.std.proofs.Common.{◌≡◌, ◌/◌, ◌%◌, length, [], arith, refl}
use Rattle.std.proofs.lemmas.List.{length-set}
use Rattle.chaos_packet.proofs.Pairs.{pair_stored}
use Rattle.chaos_link.proofs.Words.{word_stored}
use Rattle.chaos_link.proofs.Turned.{halves_stored}
use Rattle.chaos_link.proofs.pairs.turn_few.Goals as goal

pub loop-i-preserved : goal.loop-i-preserved
loop-i-preserved c = record {
  size = simp length-set c.loop-i.invariant.size;
  words =
      word_stored c.loop-i.words c.args.from.now c.loop-i.i _ (omega arith) (omega arith)
      (omega (arith, c.from_be_bytes.ensures)) c.loop-i.invariant.words;
}

pub loop-i-2-preserved : goal.loop-i-2-preserved
loop-i-2-preserved c =
    pair_stored (λ w. w % 256) (λ w. w / 256) [] c.loop-i-2.to c.loop-i.words _ _ c.loop-i-2.i (omega arith)
    (omega arith) (omega arith) c.loop-i-2.invariant

pub returns : goal.returns
returns c =
    let read : length c.args.from.now / 2 ≡ c.loop-i.i = omega arith in
    let written : length c.args.from.now / 2 ≡ c.loop-i-2.i = omega arith in
    halves_stored c.loop-i.words c.args.from.now c.loop-i-2.to (length c.args.from.now / 2) refl
    (rw read c.loop-i.invariant.words) (rw written c.loop-i-2.invariant)
