use Rattle.std.proofs.Common.{rules, ◌≡◌, ℕ, List, Some, None, refl, sym, ap, ◌∙◌, subst, true, false}
use Rattle.std.specs.Prelude.{option_map}
use Rattle.std.specs.Result.{result_ok}
use Rattle.std.specs.Str.{bytes_eq}
use Rattle.std.specs.Io.KnownBytes.{Appends}
use Rattle.std.proofs.lemmas.Result.{IfOk-weaker, IfErr-weaker}
use Rattle.file_lab.specs.Events.{FileHappening, file_event}
use Rattle.file_lab.specs.View.{FileLabView, wrote_mem}
use Rattle.chaosd_io.specs.Buffer.{written_of}
use Rattle.chaosd_lab.specs.Script.{PlaysLine}
use Rattle.chaosd_lab.specs.Settle.{settle_word}
use Rattle.chaosd_lab.proofs.Lines.{keeps_same}
use Rattle.chaosd_lab.specs.FileEvent.{file_line_of}
use Rattle.chaosd_lab.specs.FilePlay.{filelab_script}
use Rattle.chaosd_lab.proofs.Events.{line_fault}
use Rattle.chaosd_lab.specs.FileSettle.{WantsSettling}
use Rattle.chaosd_lab.proofs.FileLines.{settle_plays, settle_wants, line_plays, line_wants, bad_line}
use Rattle.chaosd_lab.proofs.file_stage.FileStageStage.play.Goals as goal

pub returns-then-is_settle-clause-played : goal.returns-then-is_settle-clause-played
returns-then-is_settle-clause-played g c =
    let view : c.self.inside.lab ≡ c.args.self.now = search rules in
    let is : bytes_eq c.args.line.now settle_word ≡ true = search rules in
    let old = written_of (g.W.Write.contents c.args.writer.now) c.args.out.now in
    let new = written_of (g.W.Write.contents c.settle.new.writer) c.settle.new.out in
    IfOk-weaker c.settle.result _ _
    (λ refused did ready.
    let p =
    settle_plays c.args.line.now c.self.inside.lab c.settle.new.lab old new refused is did
    (ap wrote_mem view ∙ ready) in
    (subst (λ (l : FileLabView). PlaysLine filelab_script c.args.line.now l c.settle.new.lab old new refused) view p.0, p.1))
    c.settle.ensures.settled

pub returns-then-is_settle-clause-no_memory : goal.returns-then-is_settle-clause-no_memory
returns-then-is_settle-clause-no_memory g c wants =
    let view : c.self.inside.lab ≡ c.args.self.now = search rules in
    let is : bytes_eq c.args.line.now settle_word ≡ true = search rules in
    let (text, of_settling, more) = c.settle.ensures.no_memory wants in
    let (some, told)
    = settle_wants c.args.line.now c.args.self.now c.settle.new.lab text is
    (subst (λ (l : FileLabView). WantsSettling l c.settle.new.lab text) view of_settling) in
    (some, λ ready. (text, told, more))

pub returns-clause-played : goal.returns-clause-played
returns-clause-played g c =
    let view : c.self.inside.lab ≡ c.args.self.now = search rules in
    let is : bytes_eq c.args.line.now settle_word ≡ false = search rules in
    let held = g.W.Write.contents c.args.writer.now in
    let event : FileHappening = file_event c.in-Ok.event in
    let said : file_line_of c.args.line.now ≡ Some event =
    sym c.file_line_of.ensures.event ∙ ap (λ r. option_map file_event (result_ok r)) c.in-Ok.is in
    IfOk-weaker c.play_event.result _ _
    (λ refused did ready.
    let p =
    line_plays c.args.line.now c.self.inside.lab c.play_event.new.lab held c.args.out.now c.play_event.new.out refused is
    (event, said, did.0, did.1) in
    (subst (λ (l : FileLabView). PlaysLine filelab_script c.args.line.now l c.play_event.new.lab (written_of held c.args.out.now) (written_of held c.play_event.new.out) refused) view p.0, p.1))
    c.play_event.ensures.played

pub returns-in-Err-clause-bad : goal.returns-in-Err-clause-bad
returns-in-Err-clause-bad g c n is =
    let other : bytes_eq c.args.line.now settle_word ≡ false = search rules in
    let none : file_line_of c.args.line.now ≡ None =
    sym c.file_line_of.ensures.event ∙ ap (λ r. option_map file_event (result_ok r)) c.in-Err.is in
    (search rules, bad_line c.args.line.now other none, keeps_same (g.W.Write.contents c.args.writer.now) c.args.out.now c.args.out.now refl)

pub returns-clause-no_memory : goal.returns-clause-no_memory
returns-clause-no_memory g c is =
    let view : c.self.inside.lab ≡ c.args.self.now = search rules in
    let other : bytes_eq c.args.line.now settle_word ≡ false = search rules in
    let event : FileHappening = file_event c.in-Ok.event in
    let said : file_line_of c.args.line.now ≡ Some event =
    sym c.file_line_of.ensures.event ∙ ap (λ r. option_map file_event (result_ok r)) c.in-Ok.is in
    let (some, told)
    = line_wants c.args.line.now c.self.inside.lab c.play_event.new.lab (g.W.Write.contents c.args.writer.now)
    c.args.out.now c.play_event.new.out event other said in
    let new = written_of (g.W.Write.contents c.args.writer.now) c.play_event.new.out in
    (some, λ ready. subst (λ (l : FileLabView). (text : List ℕ) × filelab_script.wants l c.args.line.now c.play_event.new.lab text × Appends (written_of (g.W.Write.contents c.args.writer.now) c.args.out.now) new text) view (told (c.play_event.ensures.no_memory is (ap wrote_mem view ∙ ready))))

pub returns-clause-faults : goal.returns-clause-faults
returns-clause-faults g c = IfErr-weaker c.play_event.result _ _ line_fault c.play_event.ensures.faults
