use Rattle.chaos_conn.proofs.Foreign.{foreign_is_quiet}
use Rattle.chaos_conn.proofs.law.law_foreign.Goals as goal

pub returns : goal.returns
returns c = foreign_is_quiet
