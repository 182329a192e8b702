use Rattle.std.proofs.Common.{◌≡◌, ◌+◌, ◌*◌, ◌/◌, ◌%◌, ◌++◌, ◌∙◌, length, arith, ap, sym, take}
use Rattle.std.proofs.lemmas.List.{take_all}
use Rattle.chaos_packet.proofs.Pairs.{pairs, length-pairs, pair_stored}
use Rattle.chaos_link.proofs.Words.{wire-pairs}
use Rattle.chaos_link.proofs.pairs.put_words.Goals as goal

pub loop-i-preserved : goal.loop-i-preserved
loop-i-preserved c =
    pair_stored (λ w. w / 256) (λ w. w % 256) (take c.args.front c.args.bytes.now) c.loop-i.bytes c.args.words.now _ _
    c.loop-i.i (omega arith) c.loop-i-test.true (omega arith)
    c.loop-i.invariant

pub returns-clause-bytes : goal.returns-clause-bytes
returns-clause-bytes c =
    let numbers = pairs (λ w. w / 256) (λ w. w % 256) c.args.words.now in
    let done : c.args.front + 2 * length c.args.words.now ≡ c.args.front + 2 * c.loop-i.i = omega arith in
    let whole : take (2 * c.loop-i.i) numbers ≡ numbers =
    take_all (2 * c.loop-i.i) numbers
    (omega (arith, length-pairs (λ w. w / 256) (λ w. w % 256) c.args.words.now)) in
    ap (λ n. take n c.loop-i.bytes) done ∙ c.loop-i.invariant
    ∙ ap (λ l. take c.args.front c.args.bytes.now ++ l) (whole ∙ sym (wire-pairs c.args.words.now))
