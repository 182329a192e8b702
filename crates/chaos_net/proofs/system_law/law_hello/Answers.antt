use Rattle.chaos_net.proofs.SystemHello.{something_is_read}
use Rattle.chaos_net.proofs.system_law.law_hello.Goals as goal

pub returns : goal.returns
returns c = something_is_read c.law_short.ensures
