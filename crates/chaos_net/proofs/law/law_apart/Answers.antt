use Rattle.chaos_net.proofs.Apart.{changes_peer_alone, bare_adds_nothing}
use Rattle.chaos_net.proofs.law.law_apart.Goals as goal

pub returns : goal.returns
returns c = record { peer = changes_peer_alone; bare = bare_adds_nothing }
