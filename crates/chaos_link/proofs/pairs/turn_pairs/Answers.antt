use Rattle.std.proofs.Common.{◌≡◌, ◌∙◌, ◌+◌, ◌-◌, ◌*◌, ◌/◌, length, take, drop, ap, arith, refl, length-take, length-drop}
use Rattle.std.proofs.lemmas.List.{take_all}
use Rattle.chaos_link.proofs.Turned.{block_turned, rest_turned}
use Rattle.chaos_link.proofs.pairs.turn_pairs.Goals as goal

pub loop-block-preserved : goal.loop-block-preserved
loop-block-preserved c =
    let m = 16 * c.loop-block.block in
    let from = c.args.from.now in
    let size : m + 16 - m ≡ 16 = omega arith in
    let part : length (take (m + 16 - m) (drop m from)) ≡ 16 =
    omega (arith, length-take (m + 16 - m) (drop m from), length-drop m from) in
    let room : length c.turn_few.new.to ≡ 16 =
    omega
    (arith, c.turn_few.auto.to, length-take (m + 16 - m) (drop m c.loop-block.to), length-drop m c.loop-block.to) in
    let even : 16 ≡ 2 * (length (take (m + 16 - m) (drop m from)) / 2) = omega (arith, part) in
    block_turned from c.loop-block.to _ c.turn_few.new.to c.loop-block.block _ _ _ refl refl (omega arith) (omega arith)
    (ap (λ k. take k (drop m from)) size) room (ap (λ n. take n c.turn_few.new.to) even ∙ c.turn_few.ensures)
    c.loop-block.invariant

pub returns : goal.returns
returns c =
    let m = 16 * (length c.args.from.now / 16) in
    let from = c.args.from.now in
    let all : take (length from - m) (drop m from) ≡ drop m from =
    take_all (length from - m) (drop m from) (omega (arith, length-drop m from)) in
    let part : length (take (length from - m) (drop m from)) ≡ length from - m = ap length all ∙ length-drop m from in
    let room : length c.turn_few-2.new.to ≡ length c.loop-block.to - m =
    omega
    (arith, c.turn_few-2.auto.to, length-take (length c.loop-block.to - m) (drop m c.loop-block.to), length-drop m c.loop-block.to) in
    let done : m ≡ 16 * c.loop-block.block = omega arith in
    rest_turned from c.loop-block.to _ c.turn_few-2.new.to (length from / 16) _ m _ _ refl (omega (arith, part))
    (omega arith) (omega (arith, part, room)) all
    c.turn_few-2.ensures (rw done c.loop-block.invariant)
