use Rattle.chaos_net.proofs.Holding.{net_holds}
use Rattle.chaos_net.proofs.law.law_net_holds.Goals as goal

pub returns : goal.returns
returns c = net_holds
