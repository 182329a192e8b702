use Rattle.std.proofs.Common.{rules, ◌≡◌, false, refl, sym, ap, ◌∙◌}
use Rattle.std.specs.List.{list_any}
use Rattle.chaos_lab.specs.Inside.{happening_of}
use Rattle.chaos_file.specs.Want.{is_want}
use Rattle.file_lab.specs.View.{FileLabView, wrote_mem}
use Rattle.file_lab.specs.Events.{is_by_server}
use Rattle.file_lab.specs.Kept.{file_view}
use Rattle.file_lab.proofs.QuietSteps.{PhaseLaws, quiet}
use Rattle.file_lab.proofs.KeptSteps.{same_keeps}
use Rattle.file_lab.proofs.file_lab.FileLab.at.Goals as goal

-- what B's server has done stays
pub invariant_of-self : goal.invariant_of-self
invariant_of-self c =
    let l : FileLabView = file_view c.self.inside in
    let m : FileLabView =
    file_view (record { lab = c.step.new.self; server = c.self.inside.server; wanted = c.self.inside.wanted }) in
    let isnt : is_by_server (happening_of c.args.event.now) ≡ false = search rules in
    let laws : PhaseLaws = record { answers = c.law_phases.ensures.answers; asked = c.law_phases.ensures.asked } in
    let same =
    quiet laws c.self.inside.lab c.step.new.self (happening_of c.args.event.now) c.step.result
    c.law_headline.ensures.machine isnt (c.step.ensures.refused, c.step.ensures.machine) in
    record {
      served = same_keeps l m same refl refl c.self.invariant.served;
      flag = c.self.invariant.flag ∙ ap (list_any is_want) (sym same.written);
    }

-- and so is what it wrote
pub returns-clause-mem : goal.returns-clause-mem
returns-clause-mem c =
    let l : FileLabView = file_view c.self.inside in
    let isnt : is_by_server (happening_of c.args.event.now) ≡ false = search rules in
    let laws : PhaseLaws = record { answers = c.law_phases.ensures.answers; asked = c.law_phases.ensures.asked } in
    let same =
    quiet laws c.self.inside.lab c.step.new.self (happening_of c.args.event.now) c.step.result
    c.law_headline.ensures.machine isnt (c.step.ensures.refused, c.step.ensures.machine) in
    let view : l ≡ c.args.self.now = search rules in
    ap (list_any is_want) same.written ∙ ap wrote_mem view
