use Rattle.std.proofs.Common.{rules, ◌≡◌}
use Rattle.chaos_lab.specs.Machine.{Machine, Step}
use Rattle.chaos_lab.specs.Tied.{Ties, HasMachine, plain_event}
use Rattle.chaos_lab.specs.Laboratory.{LabView, Happening, Happens}
use Rattle.chaos_lab.specs.Inside.{happening_of}
use Rattle.chaos_lab.specs.Told.{told_at, packet_at, items_at}
use Rattle.chaos_lab.proofs.Runs.{checked, keeps_machine, step_on, unchanged}
use Rattle.chaos_lab.proofs.Tells.{taken, refused, refused_so}
use Rattle.chaos_lab.proofs.lab.Lab.happen.Goals as goal

-- it still stands for a plain machine
pub invariant_of-self : goal.invariant_of-self
invariant_of-self c =
    let old : LabView = c.args.self.now in
    let new : LabView = c.step.new.self in
    let event : Happening = happening_of c.args.event.now in
    let machine : HasMachine old = search rules in
    let happens : Happens old event new (told_at old new event c.step.result) = search rules in
    keeps_machine old new event (told_at old new event c.step.result) machine happens

-- the plain machine's step
pub returns-clause-machine : goal.returns-clause-machine
returns-clause-machine c =
    let old : LabView = c.args.self.now in
    let new : LabView = c.step.new.self in
    let event : Happening = happening_of c.args.event.now in
    let happens : Happens old event new (told_at old new event c.step.result) = search rules in
    taken (packet_at old event) (items_at new event) c.step.result
    ((m : Machine) → Ties m old → (n : Machine) × Step m (plain_event old event) n × Ties n new)
    (step_on old new event (told_at old new event c.step.result) happens)

-- refusals
pub returns-clause-checked : goal.returns-clause-checked
returns-clause-checked c =
    let old : LabView = c.args.self.now in
    let new : LabView = c.step.new.self in
    let event : Happening = happening_of c.args.event.now in
    let happens : Happens old event new (told_at old new event c.step.result) = search rules in
    λ why is. refused_so (packet_at old event) (items_at new event) c.step.result why
    (checked old new event (told_at old new event c.step.result) happens why is)

pub returns-clause-refused : goal.returns-clause-refused
returns-clause-refused c =
    let old : LabView = c.args.self.now in
    let new : LabView = c.step.new.self in
    let event : Happening = happening_of c.args.event.now in
    let happens : Happens old event new (told_at old new event c.step.result) = search rules in
    refused (packet_at old event) (items_at new event) c.step.result (new ≡ old)
    (unchanged old new event (told_at old new event c.step.result) happens)
