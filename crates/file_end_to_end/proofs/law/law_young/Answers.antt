use Rattle.file_end_to_end.proofs.Young.{young_arrives}
use Rattle.file_end_to_end.proofs.law.law_young.Goals as goal

pub returns : goal.returns
returns c = young_arrives
