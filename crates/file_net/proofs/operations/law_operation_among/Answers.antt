use Rattle.file_net.proofs.Clients.{operation_among}
use Rattle.file_net.proofs.operations.law_operation_among.Goals as goal

pub returns : goal.returns
returns c = operation_among
