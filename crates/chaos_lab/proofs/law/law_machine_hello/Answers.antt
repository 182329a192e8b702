use Rattle.chaos_lab.proofs.Example.{something_is_asked, something_is_read}
use Rattle.chaos_lab.proofs.law.law_machine_hello.Goals as goal

pub returns-clause-asked : goal.returns-clause-asked
returns-clause-asked c = something_is_asked

pub returns-clause-read : goal.returns-clause-read
returns-clause-read c = something_is_read
