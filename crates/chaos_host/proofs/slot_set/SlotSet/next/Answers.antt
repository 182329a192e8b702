use Rattle.std.proofs.Common.{◌/◌, ◌%◌, refl, get_or, arith}
use Rattle.chaos_host.proofs.SlotSet.{first_in, none_in}
use Rattle.chaos_host.proofs.slot_set.SlotSet.next.Goals as goal

pub returns-in-Some : goal.returns-in-Some
returns-in-Some c =
    let words = c.args.self.now.words in
    let row = c.args.from / 64 in
    first_in words c.args.from row (c.args.from % 64) (get_or words row 0) c.in-Some.bit refl c.in-Some.ensures
    (omega arith) (λ k behind below. absurd (omega arith))

pub loop-later-init : goal.loop-later-init
loop-later-init c =
    let words = c.args.self.now.words in
    let row = c.args.from / 64 in
    none_in words c.args.from row (c.args.from % 64) (get_or words row 0) refl c.in_default.ensures
    (λ k behind below. absurd (omega arith))

pub returns-in-Some-first_bit : goal.returns-in-Some-first_bit
returns-in-Some-first_bit c =
    let words = c.args.self.now.words in
    let row = c.loop-later.later in
    let begun = c.loop-later.auto.later in
    first_in words c.args.from row 0 (get_or words row 0) c.in-Some-first_bit.bit refl c.in-Some-first_bit.ensures
    (omega arith) (λ k behind below. c.loop-later.invariant k behind (omega arith))
