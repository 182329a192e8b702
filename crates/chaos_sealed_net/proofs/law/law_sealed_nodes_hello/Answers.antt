use Rattle.chaos_sealed_net.proofs.NodesHello.{something_is_read_by_sealed_nodes}
use Rattle.chaos_sealed_net.proofs.law.law_sealed_nodes_hello.Goals as goal

pub returns : goal.returns
returns c = something_is_read_by_sealed_nodes
