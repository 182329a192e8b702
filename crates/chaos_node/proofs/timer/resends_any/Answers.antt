use Rattle.std.proofs.Common.{◌<◌, ℕ, Bool, suc, length, add-one, arith, sym, ◌∙◌}
use Rattle.chaos_node.specs.Timer.{resends_at}
use Rattle.chaos_node.proofs.Any.{any_here, any_none, any_on, any_to}
use Rattle.chaos_node.proofs.Free.{resends_free}
use Rattle.chaos_node.proofs.timer.resends_any.Goals as goal

pub returns-then-resends_at : goal.returns-then-resends_at
returns-then-resends_at c =
    let host = c.args.host.now in
    let place = c.in-Some.place in
    let found : ℕ → Bool = resends_at c.args.timers.now c.args.now host in
    let within : place < length host.slots = c.in-Some.ensures.next.within in
    sym (any_on found (suc place) (length host.slots) (omega (arith, within))
    (any_here found place (sym c.resends_at.ensures ∙ c.if-resends_at.true)))

pub slots-preserved : goal.slots-preserved
slots-preserved c =
    let host = c.args.host.now in
    let place = c.in-Some.place in
    let found : ℕ → Bool = resends_at c.args.timers.now c.args.now host in
    let next = c.in-Some.ensures.next in
    let within : place < length host.slots = next.within in
    record {
      within = omega (arith, within);
      none =
          rw (add-one place)
          (any_none found place
          (any_to found c.slots.from place next.behind
          (λ k from under. resends_free c.args.timers.now c.args.now host k (next.free k from under))
          ∙ c.slots.invariant.none)
          (sym c.resends_at.ensures ∙ c.if-resends_at.false));
    }

pub returns : goal.returns
returns c =
    let host = c.args.host.now in
    let found : ℕ → Bool = resends_at c.args.timers.now c.args.now host in
    sym (any_to found c.slots.from (length host.slots) c.slots.invariant.within
    (λ k behind below. resends_free c.args.timers.now c.args.now host k (c.in_default.ensures.next k behind))
    ∙ c.slots.invariant.none)
