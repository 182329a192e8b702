use Rattle.chaos_sealed_socket.proofs.Answered.{answers_shorter}
use Rattle.chaos_sealed_socket.proofs.Destination.{has_their_destination}
use Rattle.chaos_sealed_socket.proofs.Guarded.{link_seals_what_it_sends, seals_what_it_sends}
use Rattle.chaos_sealed_socket.proofs.law.law_sent.Goals as goal

pub returns-clause-socket : goal.returns-clause-socket
returns-clause-socket g c = seals_what_it_sends g.row.O.Denot g.S.DatagramSocket.asked

pub returns-clause-link : goal.returns-clause-link
returns-clause-link g c =
    link_seals_what_it_sends g.row.O.Denot g.S.DatagramSocket.asked g.K.PeerKeeper.becomes g.S.DatagramSocket.began

pub returns-clause-answers : goal.returns-clause-answers
returns-clause-answers g c = answers_shorter

pub returns-clause-destination : goal.returns-clause-destination
returns-clause-destination g c = has_their_destination
