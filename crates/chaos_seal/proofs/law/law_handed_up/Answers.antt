use Rattle.chaos_seal.proofs.Safe.{safe}
use Rattle.chaos_seal.proofs.law.law_handed_up.Goals as goal

pub returns : goal.returns
returns c = safe
