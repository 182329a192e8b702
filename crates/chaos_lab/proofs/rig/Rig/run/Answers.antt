use Rattle.std.proofs.Common.{rules, ◌≡◌, ◌∙◌, ap, sym, slice_get, map, Some, Result, Ok, Err}
use Rattle.std.specs.Prelude.{⊤, OnOk, OnErr}
use Rattle.std.specs.Result.{IsErr}
use Rattle.std.specs.declared.alloc.AllocError.{AllocError}
use Rattle.std.proofs.lemmas.Option.{gets, slice_get-map}
use Rattle.chaos_lab.specs.Laboratory.{happen, check}
use Rattle.chaos_lab.specs.Inside.{happening_of}
use Rattle.chaos_lab.proofs.Happening.{after_next}
use Rattle.chaos_lab.proofs.rig.Rig.run.Goals as goal

-- one event more
pub loop-event-preserved : goal.loop-event-preserved
loop-event-preserved c =
    let event = happening_of c.event-item.result in
    let at : slice_get (map happening_of c.args.events.now) c.loop-event.event-index ≡ Some event =
    search (rules, gets, slice_get-map) in
    let new : c.attempt.new.self ≡ (happen c.loop-event.self event).lab = search rules in
    new ∙ ap (λ l. (happen l event).lab) c.loop-event.invariant
    ∙ sym (after_next c.args.self.now (map happening_of c.args.events.now) c.loop-event.event-index event at)

on_ok : (r : Result ⊤ AllocError) (fact : Type 0) → IsErr r → OnOk r fact
on_ok (Ok done) fact is = absurd (cc)
on_ok (Err why) fact is = tt

on_err : (r : Result ⊤ AllocError) (fact : Type 0) → fact → OnErr r fact
on_err (Ok done) fact holds = tt
on_err (Err why) fact holds = holds

-- out of memory stops it at this event
pub returns-in_err-attempt-clause-all : goal.returns-in_err-attempt-clause-all
returns-in_err-attempt-clause-all c = on_ok c.from_residual.result _ c.from_residual.ensures.0

pub returns-in_err-attempt-clause-no_memory : goal.returns-in_err-attempt-clause-no_memory
returns-in_err-attempt-clause-no_memory c =
    let event = happening_of c.event-item.result in
    let at : slice_get (map happening_of c.args.events.now) c.loop-event.event-index ≡ Some event =
    search (rules, gets, slice_get-map) in
    let same = c.in_err-attempt.ensures.err in
    on_err c.from_residual.result _
    (c.loop-event.event-index, event, at, ap (λ l. check l event) same ∙ c.in_err-attempt.ensures.passed, same ∙ c.loop-event.invariant)
