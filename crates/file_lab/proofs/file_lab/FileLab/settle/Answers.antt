use Rattle.std.proofs.Common.{◌≡◌, ◌∷◌, false, inl, inr, sym, ap, ◌∙◌}
use Rattle.std.specs.Prelude.{is_err}
use Rattle.file_lab.specs.View.{FileLabView, wrote_mem}
use Rattle.file_lab.specs.Events.{FileHappening, file_event}
use Rattle.file_lab.specs.Exact.{file_happen}
use Rattle.file_lab.specs.Settling.{file_settling}
use Rattle.file_lab.specs.SettlingLeft.{left}
use Rattle.file_lab.proofs.Exactly.{exact_unless}
use Rattle.file_lab.proofs.Before.{before_one, stopped_before, exact_goes, refused_by}
use Rattle.file_lab.proofs.file_lab.FileLab.settle.Goals.{then-is_err-via-then-is_err, then-is_err-via-else-is_err+then-wrote_mem}
use Rattle.file_lab.proofs.file_lab.FileLab.settle.Goals as goal

-- one event more
pub loop-event-preserved : goal.loop-event-preserved
loop-event-preserved c =
    let event : FileHappening = file_event c.in-Some.event in
    let l : FileLabView = c.loop-event.self in
    let m : FileLabView = c.step.new.self in
    let few : wrote_mem m ≡ false = sym c.wrote_mem.ensures ∙ c.if-wrote_mem.false in
    let ok : is_err c.step.result ≡ false = sym c.is_err.ensures.value ∙ c.if-is_err.false in
    let ran : m ≡ (file_happen l event).view =
    exact_goes l m event c.step.result (exact_unless l m event c.step.result c.step.ensures.exact few) ok in
    before_one c.args.self.now (file_settling c.args.self.now) l m event (left c.loop-event.events l)
    (left c.next.new.self m)
    c.loop-event.invariant
    (c.in-Some.ensures.some ∙ ap (λ (k : FileLabView). event ∷ left c.next.new.self k) (sym ran))
    ran

-- there was no memory
pub returns-then-is_err-clause-no_memory : goal.returns-then-is_err-clause-no_memory
returns-then-is_err-clause-no_memory c =
    let event : FileHappening = file_event c.in-Some.event in
    let l : FileLabView = c.loop-event.self in
    let m : FileLabView = c.step.new.self in
    elim c.then-is_err.branch [
      | then-is_err-via-then-is_err w ↦ inr
          (stopped_before c.args.self.now (file_settling c.args.self.now) l m event (left c.loop-event.events l)
          (left c.next.new.self (file_happen l event).view)
          c.loop-event.invariant c.in-Some.ensures.some
          (refused_by (m ≡ l) c.step.result (sym c.is_err.ensures.value ∙ w.if-is_err.true) c.step.ensures.refused))
      | then-is_err-via-else-is_err+then-wrote_mem w ↦ inl (sym w.wrote_mem.ensures ∙ w.if-wrote_mem.true)
    ]
