use Rattle.file_net.proofs.Clients.{operations_among}
use Rattle.file_net.proofs.operations.law_operations_among.Goals as goal

pub returns : goal.returns
returns c = operations_among
