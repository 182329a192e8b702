use Rattle.std.proofs.Common.{◌∷◌, ◌++◌, ◌∙◌, ap, sym}
use Rattle.chaosd_io.specs.declared.fault.RunFault.TheVariants as run
use Rattle.chaos_lab.specs.declared.fault.LabFault.TheVariants.{NoMemory}
use Rattle.chaos_lab.specs.Inside.{happening_of}
use Rattle.chaos_lab.specs.Laboratory.{LabView, Happening}
use Rattle.chaos_lab.specs.SettlingLeft.{left}
use Rattle.chaosd_lab.proofs.Plays.{waits_more}
use Rattle.chaosd_lab.specs.Answers.{refusal_text}
use Rattle.chaosd_lab.specs.Happen.{event_text}
use Rattle.chaosd_lab.specs.Typed.{event_line}
use Rattle.chaosd_lab.proofs.Settling.{typed_none, typed_one, typed_wants, err_told}
use Rattle.chaosd_lab.proofs.settle.play_settling.Goals as goal

pub loop-event-init : goal.loop-event-init
loop-event-init g c =
    typed_none c.args.lab.now (left c.new-events.result c.args.lab.now) _ (c.new-events.ensures c.args.lab.now)

pub loop-event-preserved : goal.loop-event-preserved
loop-event-preserved g c =
    let event : Happening = happening_of c.in-Some.event in
    let l : LabView = c.loop-event.lab in
    let (lab, text) = c.in_ok-play_typed.ensures.played in
    typed_one c.args.lab.now l c.play_typed.new.lab event (left c.loop-event.events l)
    (left c.next.new.self c.play_typed.new.lab) _ _ _ _ c.loop-event.invariant
    (c.in-Some.ensures.some ∙ ap (λ (m : LabView). event ∷ left c.next.new.self m) (sym lab))
    c.in_ok-make_room.ensures.kept lab
    (waits_more (g.W.Write.contents c.make_room.new.writer) c.make_room.new.out c.play_typed.new.out
    (event_line event ++ event_text l event) text)

pub returns-in_err-play_typed-clause-no_memory : goal.returns-in_err-play_typed-clause-no_memory
returns-in_err-play_typed-clause-no_memory g c is =
    let event : Happening = happening_of c.in-Some.event in
    let l : LabView = c.loop-event.lab in
    let (same, text)
    = c.in_err-play_typed.ensures.no_memory
    (err_told c.from_residual-in_err-play_typed.result c.in_err-play_typed.field-0.0 run.NoMemory
    c.from_residual-in_err-play_typed.ensures.1 is) in
    typed_wants c.args.lab.now l c.play_typed.new.lab event (left c.loop-event.events l) _ _ _ _ _
    c.loop-event.invariant c.in-Some.ensures.some c.in_ok-make_room.ensures.kept same
    (waits_more (g.W.Write.contents c.make_room.new.writer) c.make_room.new.out c.play_typed.new.out
    (event_line event ++ refusal_text NoMemory) text)
