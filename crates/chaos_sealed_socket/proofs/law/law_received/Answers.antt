use Rattle.chaos_sealed_socket.proofs.Handed.{hands_up_once}
use Rattle.chaos_sealed_socket.proofs.law.law_received.Goals as goal

pub returns : goal.returns
returns c = hands_up_once
