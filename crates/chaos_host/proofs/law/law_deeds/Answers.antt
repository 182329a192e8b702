use Rattle.chaos_host.proofs.Deeds.{has_deeds, stays_host}
use Rattle.chaos_host.proofs.law.law_deeds.Goals as goal

pub returns-clause-deeds : goal.returns-clause-deeds
returns-clause-deeds c = has_deeds

pub returns-clause-host : goal.returns-clause-host
returns-clause-host c = stays_host c.law_over.ensures.config
