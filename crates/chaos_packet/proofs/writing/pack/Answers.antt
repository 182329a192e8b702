use Rattle.std.proofs.Common.{◌≡◌, ◌+◌, ◌/◌, ◌++◌, ◌∙◌, length, arith, ap, take}
use Rattle.std.proofs.lemmas.List.{length-set, take_all}
use Rattle.chaos_packet.specs.Words.{packed}
use Rattle.chaos_packet.proofs.Packing.{length-packed, packed_stored, packed_last_stored}
use Rattle.chaos_packet.proofs.writing.pack.Goals as goal

pub loop-i-preserved : goal.loop-i-preserved
loop-i-preserved c = record {
  size = simp length-set c.loop-i.invariant.size;
  words =
      packed_stored _ c.loop-i.words c.args.bytes.now _ _ c.loop-i.i _ (omega arith) (omega arith) (omega arith)
      (omega (arith, c.from_le_bytes.ensures)) c.loop-i.invariant.words;
}

pub returns-then-bytes-eq0-clause-packed : goal.returns-then-bytes-eq0-clause-packed
returns-then-bytes-eq0-clause-packed c =
    let done : 8 + length c.args.bytes.now / 2 ≡ 8 + c.loop-i.i = omega arith in
    ap (λ k. take k c.loop-i.words) done ∙ c.loop-i.invariant.words
    ∙ ap (λ l. take 8 c.args.words.now ++ l)
    (take_all c.loop-i.i (packed c.args.bytes.now) (omega (arith, length-packed c.args.bytes.now)))

pub returns-clause-packed : goal.returns-clause-packed
returns-clause-packed c =
    let done : length c.args.bytes.now / 2 ≡ c.loop-i.i = omega arith in
    packed_last_stored _ c.loop-i.words c.args.bytes.now _ _ (length c.args.bytes.now / 2) _ (omega arith) (omega arith)
    (omega arith) c.from.ensures (rw done c.loop-i.invariant.words)
