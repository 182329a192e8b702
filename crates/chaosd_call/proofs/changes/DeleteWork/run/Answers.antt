use Rattle.std.proofs.Common.{ap, sym, ◌∙◌}
use Rattle.chaosd_call.specs.Job.{Deletes}
use Rattle.chaosd_call.proofs.Done.{files_done, same_job}
use Rattle.chaosd_call.proofs.changes.DeleteWork.run.Goals as goal

pub returns : goal.returns
returns g c done = (
  _,
  same_job g.T.Talk.talked g.T.Talk.connects _ _ _ _ _ _ _ c.new.ensures.outside.1 (ap Deletes c.as_slice.ensures.value)
      c.new.ensures.has.0
      (c.law_deletes.ensures _ _ _ _ _ _ _ _ c.run_copies-worst.ensures.1
      (files_done _ (sym c.of_files.ensures ∙ done)) c.new.ensures.outside.0),
)
