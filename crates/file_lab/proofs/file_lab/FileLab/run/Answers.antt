use Rattle.std.proofs.Common.{rules, ◌≡◌, slice_get, map, Some}
use Rattle.std.proofs.lemmas.Option.{gets, slice_get-map}
use Rattle.file_lab.specs.Events.{Passes, file_event}
use Rattle.file_lab.proofs.Chains.{run_next}
use Rattle.file_lab.proofs.file_lab.FileLab.run.Goals as goal

-- one event more
pub loop-event-preserved : goal.loop-event-preserved
loop-event-preserved c =
    let event = file_event c.event-item.result in
    let at : slice_get (map file_event c.args.events.now) c.loop-event.event-index ≡ Some event =
    search (rules, gets, slice_get-map) in
    let passes : Passes c.loop-event.self event c.attempt.new.self = search rules in
    run_next c.args.self.now c.loop-event.self c.attempt.new.self (map file_event c.args.events.now)
    c.loop-event.event-index event at c.loop-event.invariant passes
