use Rattle.std.proofs.Common.{◌≡◌, ◌∙◌, length, take, drop, ap, arith, sym}
use Rattle.std.specs.List.{refill}
use Rattle.std.proofs.lemmas.List.{take_at}
use Rattle.chaos_chudp.proofs.Carried.{canonical_only, read_carried}
use Rattle.chaos_chudp.proofs.write.to_chudp.Goals as goal

pub returns-clause-exact : goal.returns-clause-exact
returns-clause-exact c =
    let written = c.write_chudp-end.new.buffer in
    let room = c.from-datagram.result.items in
    let whole : refill (length room) room written ≡ written =
    take_at written (drop (length written) room) (length room)
    (omega (arith, c.write_chudp-end.auto.buffer, ap length c.as_mut_slice.ensures.value)) in
    c.truncate.ensures.items ∙ ap (take c.write_chudp-end.result) whole ∙ c.write_chudp-end.ensures.exact

pub returns-clause-carried : goal.returns-clause-carried
returns-clause-carried c =
    rw (returns-clause-exact c ∙ sym c.write_chudp-end.ensures.exact) c.write_chudp-end.ensures.carried

pub returns-clause-canonical : goal.returns-clause-canonical
returns-clause-canonical c =
    rw (returns-clause-exact c ∙ sym c.write_chudp-end.ensures.exact) c.write_chudp-end.ensures.canonical

pub returns-clause-only : goal.returns-clause-only
returns-clause-only c bs carried canonical =
    canonical_only c.args.packet.now c.args.to c.args.me bs carried canonical ∙ sym (returns-clause-exact c)

pub returns-clause-read : goal.returns-clause-read
returns-clause-read c = read_carried c.args.packet.now c.args.to c.args.me _ (returns-clause-carried c)
