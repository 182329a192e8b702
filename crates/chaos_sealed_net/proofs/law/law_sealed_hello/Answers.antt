use Rattle.chaos_sealed_net.proofs.Example.{something_sealed_is_read}
use Rattle.chaos_sealed_net.proofs.law.law_sealed_hello.Goals as goal

pub returns : goal.returns
returns c = something_sealed_is_read
