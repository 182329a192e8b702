use Rattle.file_copy.proofs.Whole.{put_broken}
use Rattle.file_copy.proofs.laws.law_put_broken.Goals as goal

pub returns : goal.returns
returns c = put_broken
