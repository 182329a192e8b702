use Rattle.file_copy.proofs.Got.{got}
use Rattle.file_copy.proofs.laws.law_got.Goals as goal

pub returns : goal.returns
returns c = got
