use Rattle.chaos_conn.proofs.NamesStay.{names_stay, opens_or_stays}
use Rattle.chaos_conn.proofs.Alike.{acts_alike, comes_alike}
use Rattle.chaos_conn.proofs.PutNames.{puts_its_names}
use Rattle.chaos_conn.proofs.law.law_names.Goals as goal

pub returns-clause-acts : goal.returns-clause-acts
returns-clause-acts c = acts_alike

pub returns-clause-comes : goal.returns-clause-comes
returns-clause-comes c = comes_alike

pub returns-clause-puts : goal.returns-clause-puts
returns-clause-puts c = puts_its_names

pub returns-clause-stays : goal.returns-clause-stays
returns-clause-stays c = names_stay

pub returns-clause-comes_in : goal.returns-clause-comes_in
returns-clause-comes_in c = opens_or_stays
