use Rattle.chaos_link.proofs.Asked.{fixed_asks}
use Rattle.chaos_link.proofs.udp.law_fixed_peers.Goals as goal

pub returns : goal.returns
returns g c = fixed_asks g.S.DatagramSocket.asked
