use Rattle.file_net.proofs.Example.{two_are_served}
use Rattle.file_net.proofs.law.law_served.Goals as goal

pub returns : goal.returns
returns c = two_are_served
