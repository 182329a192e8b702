use Rattle.chaos_net.proofs.Hello.{something_is_read}
use Rattle.chaos_net.proofs.law.law_reached.Goals as goal

pub returns : goal.returns
returns c = something_is_read
