use Rattle.file_net.proofs.Clients.{answered_once}
use Rattle.file_net.proofs.operations.law_answered_once.Goals as goal

pub returns : goal.returns
returns c = answered_once
