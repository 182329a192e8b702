use Rattle.chaos_net.proofs.Short.{short_runs}
use Rattle.chaos_net.proofs.law.law_short.Goals as goal

pub returns : goal.returns
returns c = short_runs
