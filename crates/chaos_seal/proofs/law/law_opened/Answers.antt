use Rattle.chaos_seal.proofs.Answered.{opened_so}
use Rattle.chaos_seal.proofs.law.law_opened.Goals as goal

pub returns : goal.returns
returns c = opened_so
