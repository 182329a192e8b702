use Rattle.chaos_net.proofs.Queue.{sockets_post, sockets_post_to_fixed}
use Rattle.chaos_net.proofs.system_law.law_sockets.Goals as goal

pub returns-clause-kept : goal.returns-clause-kept
returns-clause-kept g c = sockets_post g.S.DatagramSocket.asked g.K.PeerKeeper.becomes g.S.DatagramSocket.began

pub returns-clause-fixed : goal.returns-clause-fixed
returns-clause-fixed g c = sockets_post_to_fixed g.S.DatagramSocket.asked g.S.DatagramSocket.began
