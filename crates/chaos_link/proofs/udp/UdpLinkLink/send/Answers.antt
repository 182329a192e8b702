use Rattle.std.proofs.Common.{[], ◌∷◌, None, ap, refl, sym}
use Rattle.chaos_link.specs.Udp.{SendTo, outgoing_to}
use Rattle.chaos_link.proofs.Asked.{asks_none, one_out}
use Rattle.chaos_link.proofs.udp.UdpLinkLink.send.Goals as goal

pub returns-in_default-clause-asked : goal.returns-in_default-clause-asked
returns-in_default-clause-asked g c =
    one_out g.S.DatagramSocket.asked g.K.PeerKeeper.becomes c.args.self.now c.args.self.now c.args.self.now refl
    (record { to = c.args.to_address; bytes = c.args.bytes.now }) None [] (cc) refl refl refl
    (asks_none (g.S.DatagramSocket.asked c.args.self.now.socket))

pub returns-in_default-send_datagram-clause-asked : goal.returns-in_default-send_datagram-clause-asked
returns-in_default-send_datagram-clause-asked g c =
    one_out g.S.DatagramSocket.asked g.K.PeerKeeper.becomes c.args.self.now _ _ c.self.view_is
    (record { to = c.args.to_address; bytes = c.args.bytes.now }) c.find.result
    (SendTo (record { to = c.in-Some.peer; bytes = c.args.bytes.now }) ∷ []) c.find.ensures
    (ap (λ there. outgoing_to there c.args.bytes.now) (sym c.in-Some.is)) refl refl c.send_datagram.ensures.asked

pub returns-then-is_gone-clause-asked : goal.returns-then-is_gone-clause-asked
returns-then-is_gone-clause-asked g c =
    one_out g.S.DatagramSocket.asked g.K.PeerKeeper.becomes c.args.self.now _ _ c.self.view_is
    (record { to = c.args.to_address; bytes = c.args.bytes.now }) c.find.result
    (SendTo (record { to = c.in-Some.peer; bytes = c.args.bytes.now }) ∷ []) c.find.ensures
    (ap (λ there. outgoing_to there c.args.bytes.now) (sym c.in-Some.is)) refl refl c.send_datagram.ensures.asked

pub returns-clause-asked : goal.returns-clause-asked
returns-clause-asked g c =
    one_out g.S.DatagramSocket.asked g.K.PeerKeeper.becomes c.args.self.now _ _ c.self.view_is
    (record { to = c.args.to_address; bytes = c.args.bytes.now }) c.find.result
    (SendTo (record { to = c.in-Some.peer; bytes = c.args.bytes.now }) ∷ []) c.find.ensures
    (ap (λ there. outgoing_to there c.args.bytes.now) (sym c.in-Some.is)) refl refl c.send_datagram.ensures.asked
