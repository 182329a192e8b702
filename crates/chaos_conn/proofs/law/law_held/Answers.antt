use Rattle.chaos_conn.proofs.Held.{held_stays, held_is_read}
use Rattle.chaos_conn.proofs.law.law_held.Goals as goal

pub returns-clause-stays : goal.returns-clause-stays
returns-clause-stays c = held_stays

pub returns-clause-reads : goal.returns-clause-reads
returns-clause-reads c = held_is_read
