use Rattle.file_net.proofs.Kept.{file_net}
use Rattle.file_net.proofs.law.law_file_net.Goals as goal

pub returns : goal.returns
returns c = file_net
