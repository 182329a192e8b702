use Rattle.std.proofs.Common.{rules, ◌≡◌, [], ◌∷◌, None, ap, sym, ◌∙◌, subst}
use Rattle.chaos_conn.specs.View.{IsConn}
use Rattle.chaos_lab.specs.declared.side.Side.{Side}
use Rattle.chaos_lab.specs.Inside.{happening_of}
use Rattle.chaos_lab.specs.Laboratory.{LabView, Happening, lab_end, happen, after_all, check, StopsWithin}
use Rattle.chaos_lab.specs.Progress.{IsSettled}
use Rattle.chaos_lab.specs.Settling.{settling}
use Rattle.chaos_lab.specs.SettlingLeft.{left}
use Rattle.chaos_lab.specs.Tied.{HasMachine, Stops}
use Rattle.chaos_lab.proofs.Settled.{settles}
use Rattle.chaos_lab.proofs.Before.{before_none, before_one, before_all, stops_before, stops_at_once, on_err}
use Rattle.chaos_lab.proofs.lab.Lab.settle.Goals as goal

pub loop-event-init : goal.loop-event-init
loop-event-init c =
    before_none c.args.self.now (settling c.args.self.now) (left c.new-events.result c.args.self.now)
    (c.new-events.ensures c.args.self.now)

pub loop-event-preserved : goal.loop-event-preserved
loop-event-preserved c =
    let event : Happening = happening_of c.in-Some.event in
    let l : LabView = c.loop-event.self in
    let ran : c.run.new.self ≡ (happen l event).lab = search rules in
    before_one c.args.self.now (settling c.args.self.now) l c.run.new.self event (left c.loop-event.events l)
    (left c.next.new.self c.run.new.self)
    c.loop-event.invariant
    (c.in-Some.ensures.some ∙ ap (λ (m : LabView). event ∷ left c.next.new.self m) (sym ran))
    ran

pub returns-in_err-run-clause-no_memory : goal.returns-in_err-run-clause-no_memory
returns-in_err-run-clause-no_memory c =
    let event : Happening = happening_of c.in-Some.event in
    let l : LabView = c.loop-event.self in
    let stops : Stops l (event ∷ []) c.run.new.self = search rules in
    let stopped = stops_at_once l c.run.new.self event stops in
    on_err (StopsWithin c.args.self.now (settling c.args.self.now) c.run.new.self) c.from_residual.result
    (stops_before c.args.self.now (settling c.args.self.now) l c.run.new.self event (left c.loop-event.events l)
    (left c.next.new.self (happen l event).lab)
    c.loop-event.invariant c.in-Some.ensures.some stopped.0
    (subst (λ (m : LabView). check m event ≡ None) stopped.0 stopped.1))

pub returns-clause-settled : goal.returns-clause-settled
returns-clause-settled c =
    let l : LabView = c.args.self.now in
    let machine : HasMachine l = search rules in
    let sound : (x : Side) → IsConn (lab_end l x).conn = search rules in
    let all : c.loop-event.self ≡ after_all l (settling l) =
    before_all l (settling l) c.loop-event.self (left c.loop-event.events c.loop-event.self) c.loop-event.invariant
    (search rules) in
    subst (IsSettled l) (sym all) (settles l machine sound c.requires).settled
