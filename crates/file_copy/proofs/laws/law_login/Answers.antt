use Rattle.file_copy.proofs.Named.{logs_in_named}
use Rattle.file_copy.proofs.laws.law_login.Goals as goal

pub returns : goal.returns
returns c = logs_in_named
