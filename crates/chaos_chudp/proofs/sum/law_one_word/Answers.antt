use Rattle.chaos_chudp.proofs.Summed.{sees_one_word}
use Rattle.chaos_chudp.proofs.sum.law_one_word.Goals as goal

pub returns : goal.returns
returns c = sees_one_word
