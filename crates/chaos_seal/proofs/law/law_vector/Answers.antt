use Rattle.chaos_seal.proofs.Vectors.{vector}
use Rattle.chaos_seal.proofs.law.law_vector.Goals as goal

pub returns : goal.returns
returns c = vector
