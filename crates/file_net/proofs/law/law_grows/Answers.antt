use Rattle.file_net.proofs.Kept.{histories_grow}
use Rattle.file_net.proofs.law.law_grows.Goals as goal

pub returns : goal.returns
returns c = histories_grow
