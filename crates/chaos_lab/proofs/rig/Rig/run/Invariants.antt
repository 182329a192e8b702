use Rattle.std.proofs.Common.{◌≡◌, map, take}
use Rattle.chaos_lab.specs.Laboratory.{after_all}
use Rattle.chaos_lab.specs.Inside.{happening_of}
use Rattle.chaos_lab.proofs.rig.Rig.run.Given as goal

-- the events so far have happened
abbrev pub invariant-loop-event : goal.invariant-loop-event
invariant-loop-event l = l.self ≡ after_all l.fn.self (take l.event-index (map happening_of l.fn.events))
