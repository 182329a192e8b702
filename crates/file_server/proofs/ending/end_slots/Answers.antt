use Rattle.std.proofs.Common.{ℕ, true, if◌then◌else◌, length, refl}
use Rattle.chaos_node.specs.Phase.{and_then, over_slots}
use Rattle.chaos_node.specs.Timer.{tick_by}
use Rattle.chaos_node.proofs.InTurn.{then_all_slots}
use Rattle.file_server.specs.InTurn.{options_of}
use Rattle.file_server.specs.Slots.{close_at, release_at}
use Rattle.file_server.proofs.Idle.{ticks_alone}
use Rattle.file_server.proofs.ending.end_slots.Goals as goal

pub returns : goal.returns
returns g c =
    let turn = c.args.turn.now in
    let slots = length turn.host.now.slots in
    let closed = c.close_slots-closed in
    let released = c.release_slots-released in
    let ticked = c.tick_slots-ticked in
    let first = over_slots (close_at c.args.input.now.silence turn.now c.args.sessions.now) slots turn.host.now in
    then_all_slots turn released.new.turn ticked.new.self (and_then first (over_slots release_at slots)) (tick_by c.args.input.now.timers.now)
    (if released.result then true else closed.result) ticked.result c.any_of.result
    (then_all_slots turn closed.new.turn released.new.turn first (λ (now : ℕ). release_at) closed.result released.result
    (if released.result then true else closed.result) closed.ensures released.ensures refl)
    ticked.ensures c.any_of.ensures

pub returns-then-not-may_any_end : goal.returns-then-not-may_any_end
returns-then-not-may_any_end g c =
    let turn = c.args.turn.now in
    ticks_alone (options_of c.args.input.now) c.args.sessions.now turn c.tick_slots.new.self c.tick_slots.result
    (c.may_any_end.ensures c.if-not-may_any_end.true) c.tick_slots.ensures
