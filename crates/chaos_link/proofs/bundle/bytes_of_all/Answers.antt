use Rattle.std.proofs.Common.{rules, ◌≡◌, ◌+◌, ◌∙◌, ap, ap₂, sym, slice_get, Some, arith}
use Rattle.std.proofs.lemmas.Option.{gets}
use Rattle.std.proofs.lemmas.List.{take_all}
use Rattle.chaos_link.specs.Bundle.{bytes_for}
use Rattle.chaos_link.proofs.Bundled.{bytes_more, each_more, all_spelled_in_turn}
use Rattle.chaos_link.proofs.bundle.bytes_of_all.Goals as goal

pub loop-packet-preserved : goal.loop-packet-preserved
loop-packet-preserved c =
    let ps = c.args.packets.now in
    let i = c.loop-packet.packet-index in
    let p = c.packet-item.result in
    let at : slice_get ps i ≡ Some p = search (rules, gets) in
    record {
      bytes =
          ap₂ (λ m n. m + n) c.loop-packet.invariant.bytes c.bytes_of-bytes.ensures.bytes ∙ sym (bytes_more ps i p at);
      few = omega (arith, c.loop-packet.invariant.few, c.bytes_of-bytes.ensures.few);
      each = each_more ps i p at c.loop-packet.invariant.each c.bytes_of-bytes.ensures.spelled;
    }

pub returns-clause-bytes : goal.returns-clause-bytes
returns-clause-bytes c =
    c.loop-packet.invariant.bytes
    ∙ ap bytes_for
    (take_all c.loop-packet.packet-index c.args.packets.now (omega (arith, c.loop-packet-test.false)))

pub returns-clause-spelled : goal.returns-clause-spelled
returns-clause-spelled c =
    all_spelled_in_turn c.args.packets.now c.loop-packet.packet-index (omega (arith, c.loop-packet-test.false))
    c.loop-packet.invariant.each
