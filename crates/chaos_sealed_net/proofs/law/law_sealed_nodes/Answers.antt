use Rattle.chaos_sealed_net.proofs.Nodes.{sealed_nodes_stay}
use Rattle.chaos_sealed_net.proofs.law.law_sealed_nodes.Goals as goal

pub returns : goal.returns
returns c = sealed_nodes_stay
