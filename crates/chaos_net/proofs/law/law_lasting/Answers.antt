use Rattle.chaos_net.proofs.Lasting.{stories_last}
use Rattle.chaos_net.proofs.law.law_lasting.Goals as goal

pub returns : goal.returns
returns c = stories_last
