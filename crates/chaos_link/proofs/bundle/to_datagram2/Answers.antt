use Rattle.std.proofs.Common.{◌≡◌, ◌∙◌, length, take, drop, ap, arith, sym}
use Rattle.std.specs.List.{refill}
use Rattle.std.proofs.lemmas.List.{take_at}
use Rattle.chaos_link.proofs.bundle.to_datagram2.Goals as goal

pub returns-clause-exact : goal.returns-clause-exact
returns-clause-exact c =
    let written = c.write_datagram2-end.new.buffer in
    let room = c.from-datagram.result.items in
    let whole : refill (length room) room written ≡ written =
    take_at written (drop (length written) room) (length room)
    (omega (arith, c.write_datagram2-end.auto.buffer, ap length c.as_mut_slice.ensures.value)) in
    c.truncate.ensures.items ∙ ap (take c.write_datagram2-end.result) whole ∙ c.write_datagram2-end.ensures.exact

pub returns-clause-carried : goal.returns-clause-carried
returns-clause-carried c =
    rw (returns-clause-exact c ∙ sym c.write_datagram2-end.ensures.exact) c.write_datagram2-end.ensures.carried

pub returns-clause-read : goal.returns-clause-read
returns-clause-read c =
    rw (returns-clause-exact c ∙ sym c.write_datagram2-end.ensures.exact) c.write_datagram2-end.ensures.read
