use Rattle.file_end_to_end.proofs.TwoClients.{two_are_served}
use Rattle.file_end_to_end.proofs.law.law_two_clients.Goals as goal

pub returns : goal.returns
returns c = two_are_served
