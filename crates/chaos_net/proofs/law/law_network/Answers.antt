use Rattle.chaos_net.proofs.Network.{network}
use Rattle.chaos_net.proofs.law.law_network.Goals as goal

pub returns : goal.returns
returns c = network
