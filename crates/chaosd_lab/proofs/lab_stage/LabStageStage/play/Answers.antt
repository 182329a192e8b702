use Rattle.std.proofs.Common.{rules, ◌≡◌, ◌∙◌, Some, None, refl, sym, ap, true, false, subst}
use Rattle.std.specs.Prelude.{option_map}
use Rattle.std.specs.Result.{result_ok}
use Rattle.std.specs.Str.{bytes_eq}
use Rattle.std.proofs.lemmas.Result.{IfOk-weaker, IfErr-weaker}
use Rattle.chaos_lab.specs.Inside.{happening_of}
use Rattle.chaos_lab.specs.Laboratory.{Happening, LabView}
use Rattle.chaosd_io.specs.Buffer.{written_of}
use Rattle.chaosd_lab.specs.Script.{PlaysLine}
use Rattle.chaosd_lab.specs.Event.{event_of}
use Rattle.chaosd_lab.specs.Play.{lab_script}
use Rattle.chaosd_lab.proofs.Events.{some_said, line_fault}
use Rattle.chaosd_lab.specs.Settle.{settle_word, WantsSettling}
use Rattle.chaosd_lab.proofs.Lines.{keeps_same, settle_plays, settle_wants, event_line_plays, event_line_wants, bad_line}
use Rattle.chaosd_lab.proofs.lab_stage.LabStageStage.play.Goals as goal

pub returns-then-is_settle-clause-played : goal.returns-then-is_settle-clause-played
returns-then-is_settle-clause-played g c =
    let view : c.self.inside.lab ≡ c.args.self.now = search rules in
    let is : bytes_eq c.args.line.now settle_word ≡ true = search rules in
    let old = written_of (g.W.Write.contents c.args.writer.now) c.args.out.now in
    let new = written_of (g.W.Write.contents c.settle.new.writer) c.settle.new.out in
    IfOk-weaker c.settle.result _ _
    (λ refused did ready.
    (subst (λ (l : LabView). PlaysLine lab_script c.args.line.now l c.settle.new.lab old new refused) view (settle_plays c.args.line.now c.self.inside.lab c.settle.new.lab old new refused is did), tt))
    c.settle.ensures.settled

pub returns-then-is_settle-clause-no_memory : goal.returns-then-is_settle-clause-no_memory
returns-then-is_settle-clause-no_memory g c wants =
    let view : c.self.inside.lab ≡ c.args.self.now = search rules in
    let is : bytes_eq c.args.line.now settle_word ≡ true = search rules in
    let (text, of_settling, more) = c.settle.ensures.no_memory wants in
    let (some, told)
    = settle_wants c.args.line.now c.args.self.now c.settle.new.lab text is
    (subst (λ (l : LabView). WantsSettling l c.settle.new.lab text) view of_settling) in
    (some, λ ready. (text, told, more))

pub returns-clause-played : goal.returns-clause-played
returns-clause-played g c =
    let view : c.self.inside.lab ≡ c.args.self.now = search rules in
    let is : bytes_eq c.args.line.now settle_word ≡ false = search rules in
    let held = g.W.Write.contents c.args.writer.now in
    let event : Happening = happening_of c.in-Ok.event in
    let said : event_of c.args.line.now ≡ Some event =
    sym c.event_of-parsed.ensures.event ∙ ap (λ r. option_map happening_of (result_ok r)) c.in-Ok.is in
    IfOk-weaker c.play_event.result _ _
    (λ refused plays ready. (
      subst
          (λ (l : LabView). PlaysLine lab_script c.args.line.now l c.play_event.new.lab (written_of held c.args.out.now)
          (written_of held c.play_event.new.out) refused)
          view
          (event_line_plays c.args.line.now c.self.inside.lab c.play_event.new.lab held c.args.out.now
          c.play_event.new.out refused is (event, said, plays)),
      tt,
    ))
    c.play_event.ensures.played

pub returns-in-Err-clause-bad : goal.returns-in-Err-clause-bad
returns-in-Err-clause-bad g c n is =
    let other : bytes_eq c.args.line.now settle_word ≡ false = search rules in
    let none : event_of c.args.line.now ≡ None =
    sym c.event_of-parsed.ensures.event ∙ ap (λ r. option_map happening_of (result_ok r)) c.in-Err.is in
    (search rules, bad_line c.args.line.now other none, keeps_same (g.W.Write.contents c.args.writer.now) c.args.out.now c.args.out.now refl)

pub returns-clause-no_memory : goal.returns-clause-no_memory
returns-clause-no_memory g c is =
    let view : c.self.inside.lab ≡ c.args.self.now = search rules in
    let other : bytes_eq c.args.line.now settle_word ≡ false = search rules in
    let event : Happening = happening_of c.in-Ok.event in
    let said : event_of c.args.line.now ≡ Some event =
    sym c.event_of-parsed.ensures.event ∙ ap (λ r. option_map happening_of (result_ok r)) c.in-Ok.is in
    let (lab, text) = c.play_event.ensures.no_memory is in
    let (some, told)
    = event_line_wants c.args.line.now c.args.self.now c.play_event.new.lab (g.W.Write.contents c.args.writer.now)
    c.args.out.now c.play_event.new.out other (some_said _ event said) (lab ∙ view) text in
    (some, λ ready. told)

pub returns-clause-faults : goal.returns-clause-faults
returns-clause-faults g c = IfErr-weaker c.play_event.result _ _ line_fault c.play_event.ensures.faults
