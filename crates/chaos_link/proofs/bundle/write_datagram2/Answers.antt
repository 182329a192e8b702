use Rattle.std.proofs.Common.{rules, ◌≡◌, ◌+◌, ◌++◌, ◌∙◌, ap, slice_get, Some, length, arith}
use Rattle.std.proofs.lemmas.Option.{gets}
use Rattle.std.proofs.lemmas.List.{take_all}
use Rattle.chaos_packet.specs.Words.{spelling_of}
use Rattle.chaos_link.specs.Datagram.{wire}
use Rattle.chaos_link.specs.Packets.{mark_of}
use Rattle.chaos_link.specs.Bundle.{spelling_of_all}
use Rattle.chaos_link.proofs.Bundled.{bytes_more, bytes_within, each_more, wire_more, all_spelled_in_turn, fit, carried_together}
use Rattle.chaos_link.proofs.Either.{read_two}
use Rattle.chaos_link.proofs.bundle.write_datagram2.Goals as goal

pub put_packet-end-requires : goal.put_packet-end-requires
put_packet-end-requires c small =
    let ps = c.args.packets.now in
    let i = c.loop-packet.packet-index in
    let p = c.packet-item.result in
    let here : slice_get ps i ≡ Some p = search (rules, gets) in
    let more = bytes_more ps i p here in
    omega
    (arith, more, bytes_within (i + 1) ps, (fit 2020 ps c.requires.fit).bytes, c.loop-packet.invariant.end, c.loop-packet.invariant.size, c.requires.room)

pub loop-packet-preserved : goal.loop-packet-preserved
loop-packet-preserved c =
    let ps = c.args.packets.now in
    let i = c.loop-packet.packet-index in
    let p = c.packet-item.result in
    let here : slice_get ps i ≡ Some p = search (rules, gets) in
    record {
      size = omega (arith, c.put_packet-end.auto.buffer, c.loop-packet.invariant.size);
      end = omega (arith, c.put_packet-end.ensures.end, bytes_more ps i p here, c.loop-packet.invariant.end);
      bytes =
          c.put_packet-end.ensures.bytes ∙ ap (λ front. front ++ wire (spelling_of p)) c.loop-packet.invariant.bytes
          ∙ wire_more (mark_of (length ps)) ps i p here;
      each = each_more ps i p here c.loop-packet.invariant.each c.put_packet-end.ensures.spelled;
    }

pub returns-clause-exact : goal.returns-clause-exact
returns-clause-exact c =
    c.loop-packet.invariant.bytes
    ∙ ap (λ ps. mark_of (length c.args.packets.now) ++ wire (spelling_of_all ps))
    (take_all c.loop-packet.packet-index c.args.packets.now (omega (arith, c.loop-packet-test.false)))

pub returns-clause-carried : goal.returns-clause-carried
returns-clause-carried c =
    let ps = c.args.packets.now in
    rw (returns-clause-exact c)
    (carried_together ps c.requires.fit
    (all_spelled_in_turn ps c.loop-packet.packet-index (omega (arith, c.loop-packet-test.false))
    c.loop-packet.invariant.each))

pub returns-clause-read : goal.returns-clause-read
returns-clause-read c = read_two c.args.packets.now _ (returns-clause-carried c)
