use Rattle.chaos_host.proofs.Pending.{takes_one, pending_stays}
use Rattle.chaos_host.proofs.law.law_pending.Goals as goal

pub returns-clause-takes : goal.returns-clause-takes
returns-clause-takes c = takes_one

pub returns-clause-stays : goal.returns-clause-stays
returns-clause-stays c = pending_stays
