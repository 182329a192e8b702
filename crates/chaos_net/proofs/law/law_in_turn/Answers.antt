use Rattle.chaos_net.proofs.InTurn.{reads_in_turn}
use Rattle.chaos_net.proofs.law.law_in_turn.Goals as goal

pub returns : goal.returns
returns c = reads_in_turn
