use Rattle.std.proofs.Common.{ap, sym, ◌∙◌}
use Rattle.chaosd_call.specs.Job.{Puts}
use Rattle.chaosd_call.proofs.Done.{files_done, same_job}
use Rattle.chaosd_call.proofs.copies.PutWork.run.Goals as goal

pub returns : goal.returns
returns g c done = (
  _,
  same_job g.T.Talk.talked g.T.Talk.connects _ _ _ _ _ _ _ c.new.ensures.outside.1 (ap Puts c.as_slice-3.ensures.value) c.new.ensures.has.0
      (c.law_runs.ensures.put _ _ _ _ _ _ _ _ c.run_copies-worst.ensures.1
      (files_done _ (sym c.of_files.ensures ∙ done)) c.new.ensures.outside.0),
)
