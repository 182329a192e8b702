use Rattle.std.proofs.Common.{ap, sym, ◌∙◌}
use Rattle.file_transfer.specs.Severity.{is_done}
use Rattle.chaosd_call.proofs.Done.{changed_well, done_is_well, files_done, renamed_job}
use Rattle.chaosd_call.proofs.changes.RenameWork.run.Goals as goal

pub returns : goal.returns
returns g c done =
    let well = done_is_well c.renamed-outcome.result
    (sym (ap is_done c.severity.ensures) ∙ files_done c.severity.result (sym c.of_files.ensures ∙ done)) in (
      _,
      renamed_job g.T.Talk.talked g.T.Talk.connects _ _ _ _ _ _ _ _ c.new-session.ensures.outside.0
          c.new-session.ensures.outside.1 c.new-session.ensures.has.0
          (changed_well c.renamed-outcome.result _ c.renamed-outcome.ensures well),
    )
