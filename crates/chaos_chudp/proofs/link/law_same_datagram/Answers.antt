use Rattle.chaos_chudp.proofs.Handed.{same_datagram}
use Rattle.chaos_chudp.proofs.link.law_same_datagram.Goals as goal

pub returns : goal.returns
returns c = same_datagram
