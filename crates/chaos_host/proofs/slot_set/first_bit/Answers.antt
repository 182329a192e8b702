use Rattle.std.proofs.Common.{◌<◌, ◌≤◌, ◌/◌, ◌^◌, refl, arith}
use Rattle.std.proofs.lemmas.Nat.{shr_le}
use Rattle.chaos_host.proofs.SlotSet.{first_bit, no_bit}
use Rattle.chaos_host.proofs.slot_set.first_bit.Goals as goal

pub returns-then-rest-eq0 : goal.returns-then-rest-eq0
returns-then-rest-eq0 c k behind within = no_bit c.args.word c.args.from k c.if-rest-eq0.true behind

pub returns : goal.returns
returns c =
    let word = c.args.word in
    let rest = word / 2 ^ c.args.from in
    let fits : word < 2 ^ 64 = c.ranges.word.fits in
    let less : rest ≤ word = shr_le word c.args.from in
    let other = c.if-rest-eq0.false in
    first_bit word c.args.from rest fits refl (omega arith) (omega arith)
