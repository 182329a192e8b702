use Rattle.std.proofs.Common.{Bool, if◌then◌else◌, Some, None, ap, ◌∙◌, refl, sym}
use Rattle.chaos_node.specs.Arrive.{answer_to, deliver_effect}
use Rattle.chaos_node.proofs.InTurn.{takes_more, takes_none}
use Rattle.chaos_node.proofs.Several.{either_false, either_true, told_more}
use Rattle.chaos_node.proofs.turn.Turn.deliver_all.Goals as goal

pub packets-init : goal.packets-init
packets-init g c = (refl, takes_none (deliver_effect c.args.self.now.now) c.args.packets c.args.self.now)

pub packets-preserved-then-deliver : goal.packets-preserved-then-deliver
packets-preserved-then-deliver g c =
    let done = c.deliver in
    let first =
    sym c.next_into.ensures.packet
    ∙ ap (λ (b : Bool). if b then Some c.next_into.new.packet else None) c.packets-test.true in (
      rw (← c.packets.invariant.1.1.4)
          (told_more (answer_to c.packets.told) (answer_to done.new.told) c.packets.packets c.next_into.new.self c.next_into.new.packet
          c.packets.self.now c.packets.self.host.now done.new.self.host.now first c.next_into.ensures.rest
          done.ensures.told done.ensures.phase.0.host)
          ∙ c.packets.invariant.0,
      takes_more deliver_effect c.args.packets c.packets.packets c.next_into.new.self c.next_into.new.packet
          c.args.self.now c.packets.self done.new.self c.packets.sent done.result done.result c.packets.invariant.1
          first c.next_into.ensures.rest done.ensures.phase (either_true done.result c.packets.sent c.if-deliver.true),
    )

pub packets-preserved : goal.packets-preserved
packets-preserved g c =
    let done = c.deliver in
    let first =
    sym c.next_into.ensures.packet
    ∙ ap (λ (b : Bool). if b then Some c.next_into.new.packet else None) c.packets-test.true in (
      rw (← c.packets.invariant.1.1.4)
          (told_more (answer_to c.packets.told) (answer_to done.new.told) c.packets.packets c.next_into.new.self c.next_into.new.packet
          c.packets.self.now c.packets.self.host.now done.new.self.host.now first c.next_into.ensures.rest
          done.ensures.told done.ensures.phase.0.host)
          ∙ c.packets.invariant.0,
      takes_more deliver_effect c.args.packets c.packets.packets c.next_into.new.self c.next_into.new.packet
          c.args.self.now c.packets.self done.new.self c.packets.sent done.result c.packets.sent c.packets.invariant.1
          first c.next_into.ensures.rest done.ensures.phase (either_false done.result c.packets.sent c.if-deliver.false),
    )
