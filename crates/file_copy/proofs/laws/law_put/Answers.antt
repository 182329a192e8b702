use Rattle.file_copy.proofs.Whole.{puts}
use Rattle.file_copy.proofs.laws.law_put.Goals as goal

pub returns : goal.returns
returns c = puts
