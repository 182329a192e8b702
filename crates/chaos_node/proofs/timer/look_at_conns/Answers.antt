use Rattle.std.proofs.Common.{◌≡◌, ◌<◌, ◌≤◌, ℕ, length, get_or, slice_set, arith, subst, sym, ap, ◌∙◌}
use Rattle.std.proofs.lemmas.Option.{slice_get-get_or, slice_get_past}
use Rattle.chaos_node.specs.Timer.{looked_at, looked_slots}
use Rattle.chaos_node.specs.declared.timer.RetransmitTimer.{RetransmitTimer}
use Rattle.chaos_node.proofs.Free.{next_number}
use Rattle.chaos_node.proofs.Looked.{no_timer, seen_in, timers_pass}
use Rattle.chaos_node.proofs.timer.look_at_conns.Goals as goal
use Rattle.chaos_node.proofs.timer.look_at_conns.Goals.{then-place-timers, else-place-timers}

pub slots-preserved : goal.slots-preserved
slots-preserved c =
    let host = c.args.host.now in
    let now = c.args.now in
    let first = c.args.timers.now in
    let at = c.in-Some.at in
    let place = at.0 in
    let next = c.in-Some.ensures.next in
    let within : place < length host.slots = next.within in
    let here : c.slots.timers ≡ looked_slots now host place first
    = c.slots.invariant.seen ∙ sym (timers_pass now c.slots.from place host first next.behind next.free) in
    let seen : c.if-place-timers.timers ≡ looked_at now host place c.slots.timers =
    elim c.if-place-timers.branch as (λ _. c.if-place-timers.timers ≡ looked_at now host place c.slots.timers) [
      | then-place-timers w ↦
          let timer : RetransmitTimer = get_or c.slots.timers place w.index-timers-place.result in
          w.timers-is
          ∙ (ap (slice_set c.slots.timers place) w.look.ensures
          ∙ sym (seen_in now place _ _ timer host c.slots.timers c.in-Some.ensures.conn
          (slice_get-get_or c.slots.timers place w.index-timers-place.result w.if-place-timers.true)))
      | else-place-timers w ↦
          let past : length c.slots.timers ≤ place = omega (arith, w.if-place-timers.false) in
          w.timers-is ∙ sym (no_timer now place host c.slots.timers (slice_get_past c.slots.timers place past))
    ] in
    record {
      within = omega (arith, within);
      seen =
          subst (λ (n : ℕ). c.if-place-timers.timers ≡ looked_slots now host n first) (next_number place)
          (seen ∙ ap (looked_at now host place) here);
    }

pub returns : goal.returns
returns c =
    let host = c.args.host.now in
    c.slots.invariant.seen
    ∙ sym (timers_pass c.args.now c.slots.from (length host.slots) host c.args.timers.now c.slots.invariant.within
    (λ k from under. c.in_default.ensures.next k from))
