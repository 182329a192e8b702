use Rattle.std.proofs.Common.{◌∷◌, ◌++◌, ◌∙◌, ap, sym}
use Rattle.chaosd_io.specs.declared.fault.RunFault.TheVariants as run
use Rattle.file_lab.specs.Events.{FileHappening, file_event}
use Rattle.file_lab.specs.SettlingLeft.{left}
use Rattle.file_lab.specs.View.{FileLabView}
use Rattle.chaosd_lab.proofs.Plays.{waits_more}
use Rattle.chaosd_lab.proofs.Settling.{err_told}
use Rattle.chaosd_lab.specs.FileHappen.{event_text}
use Rattle.chaosd_lab.specs.FileSettle.{file_line}
use Rattle.chaosd_lab.proofs.FileSettling.{typed_none, typed_one, typed_wants}
use Rattle.chaosd_lab.proofs.file_settle.play_settling.Goals as goal

pub loop-event-init : goal.loop-event-init
loop-event-init g c =
    (typed_none c.args.lab.now (left c.new-events.result c.args.lab.now) _ (c.new-events.ensures c.args.lab.now), c.requires)

pub loop-event-preserved : goal.loop-event-preserved
loop-event-preserved g c =
    let event : FileHappening = file_event c.in-Some.event in
    let l : FileLabView = c.loop-event.lab in
    let (lab, none, text) = c.in_ok-play_typed.ensures.played in (
      typed_one c.args.lab.now l c.play_typed.new.lab event (left c.loop-event.events l)
          (left c.next.new.self c.play_typed.new.lab) _ _ _ _ c.loop-event.invariant.0
          (c.in-Some.ensures.some ∙ ap (λ (m : FileLabView). event ∷ left c.next.new.self m) (sym lab))
          c.in_ok-make_room.ensures.kept lab
          (waits_more (g.W.Write.contents c.make_room.new.writer) c.make_room.new.out c.play_typed.new.out
          (file_line event ++ event_text l event) text),
      none,
    )

pub returns-in_err-play_typed-clause-no_memory : goal.returns-in_err-play_typed-clause-no_memory
returns-in_err-play_typed-clause-no_memory g c is =
    let event : FileHappening = file_event c.in-Some.event in
    let l : FileLabView = c.loop-event.lab in
    let (told, wants, text) = c.in_err-play_typed.ensures.no_memory (err_told c.from_residual-in_err-play_typed.result c.in_err-play_typed.field-0.0 run.NoMemory c.from_residual-in_err-play_typed.ensures.1 is) c.loop-event.invariant.1 in
    typed_wants c.args.lab.now l c.play_typed.new.lab event (left c.loop-event.events l) _ _ _ _ _ c.loop-event.invariant.0 c.in-Some.ensures.some c.in_ok-make_room.ensures.kept told wants
    (waits_more (g.W.Write.contents c.make_room.new.writer) c.make_room.new.out c.play_typed.new.out (file_line event ++ told) text)
