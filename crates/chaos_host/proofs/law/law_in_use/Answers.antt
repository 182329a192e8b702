use Rattle.chaos_host.proofs.InUse.{stays_in_use}
use Rattle.chaos_host.proofs.law.law_in_use.Goals as goal

pub returns : goal.returns
returns c = stays_in_use
