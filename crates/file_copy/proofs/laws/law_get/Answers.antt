use Rattle.file_copy.proofs.Whole.{gets}
use Rattle.file_copy.proofs.laws.law_get.Goals as goal

pub returns : goal.returns
returns c = gets
