use Rattle.chaos_seal.proofs.Rising.{something_rises}
use Rattle.chaos_seal.proofs.law.law_rises.Goals as goal

pub returns : goal.returns
returns c = something_rises
