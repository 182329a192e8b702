use Rattle.file_net.proofs.Clients.{login_among}
use Rattle.file_net.proofs.operations.law_login_among.Goals as goal

pub returns : goal.returns
returns c = login_among
