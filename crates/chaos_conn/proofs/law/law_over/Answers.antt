use Rattle.chaos_conn.proofs.ConfigStays.{config_stays}
use Rattle.chaos_conn.proofs.Foreign.{over_stays, refused_is_same, ends_are_over}
use Rattle.chaos_conn.proofs.law.law_over.Goals as goal

pub returns-clause-stays : goal.returns-clause-stays
returns-clause-stays c = over_stays

pub returns-clause-refused : goal.returns-clause-refused
returns-clause-refused c = refused_is_same

pub returns-clause-ends : goal.returns-clause-ends
returns-clause-ends c = ends_are_over

pub returns-clause-config : goal.returns-clause-config
returns-clause-config c = config_stays
