use Rattle.std.proofs.Common.{subst}
use Rattle.chaos_net.specs.Running.{HasLaw}
use Rattle.chaos_net.specs.Sound.{net_view}
use Rattle.chaos_net.proofs.Starts.{has_law}
use Rattle.chaos_net.proofs.net.Net.law.Goals as goal

pub returns : goal.returns
returns c = subst HasLaw c.self.view_is (has_law (net_view c.self.inside) c.self.invariant.net)
