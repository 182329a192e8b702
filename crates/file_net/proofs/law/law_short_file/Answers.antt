use Rattle.file_net.proofs.Short.{short_file_runs}
use Rattle.file_net.proofs.law.law_short_file.Goals as goal

pub returns : goal.returns
returns c = short_file_runs
