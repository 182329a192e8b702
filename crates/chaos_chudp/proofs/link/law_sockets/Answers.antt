use Rattle.chaos_chudp.proofs.Asked.{socket_sends, socket_sends_to_fixed}
use Rattle.chaos_chudp.proofs.link.law_sockets.Goals as goal

pub returns-clause-kept : goal.returns-clause-kept
returns-clause-kept g c = socket_sends g.S.DatagramSocket.asked g.K.PeerKeeper.becomes g.S.DatagramSocket.began

pub returns-clause-fixed : goal.returns-clause-fixed
returns-clause-fixed g c = socket_sends_to_fixed g.S.DatagramSocket.asked g.S.DatagramSocket.began
