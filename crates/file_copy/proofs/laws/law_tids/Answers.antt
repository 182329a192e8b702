use Rattle.file_copy.proofs.Named.{can_copy}
use Rattle.file_copy.proofs.laws.law_tids.Goals as goal

pub returns : goal.returns
returns c = can_copy
