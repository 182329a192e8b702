use Rattle.std.proofs.Common.{ap}
use Rattle.chaos_packet.specs.Packet.{PacketView}
use Rattle.chaos_link.specs.declared.carriage.Carriage.TheVariants.{One, Two}
use Rattle.chaos_node.proofs.Queue.{SentAlone, asks_one, packet_there, sends_one, all_empty, all_read, all_sent, none_sent, one_less, one_more_sent, told}
use Rattle.chaos_node.specs.Link.{datagram_for}
use Rattle.chaos_node.proofs.Readback.{one_read}
use Rattle.chaos_node.proofs.sending.send_each.Goals as goal
use Rattle.chaos_node.proofs.sending.send_each.Goals.{in-One, in-Two}

pub packets-init : goal.packets-init
packets-init g c = none_sent c.args.carriage (told (g.L.Link.queue c.args.link.now) (g.L.Link.asked c.args.link.now)) c.args.out.now

pub packets-preserved : goal.packets-preserved
packets-preserved g c =
    let queue = g.L.Link.queue in
    let asked = g.L.Link.asked in
    let carriage = c.args.carriage in
    let mid = told (queue c.packets.link) (asked c.packets.link) in
    let after = told (queue c.match-carriage.link) (asked c.match-carriage.link) in
    let packet = c.in-Some.packet.now in
    one_more_sent carriage (told (queue c.args.link.now) (asked c.args.link.now)) mid after
    c.args.out.now c.packets.out c.drop_front.new.self packet c.packets.invariant (cc) c.drop_front.ensures
    (elim c.match-carriage.branch [
      | in-One w ↦ let there = ap (λ (p : PacketView). p.dst) c.packet.view_is in
          let at = packet_there packet _ _ there w.write_datagram-end.ensures.exact in
          let alone : SentAlone One mid (told (queue w.send.new.self) (asked w.send.new.self)) packet = record {
            takes = record {
              sends =
                  sends_one (queue c.packets.link) (queue w.send.new.self) c.packet.inside.dst _ (datagram_for packet)
                  w.send.result at w.send.ensures.queued;
              asks =
                  asks_one (asked c.packets.link) (asked w.send.new.self) c.packet.inside.dst _ (datagram_for packet) at
                  w.send.ensures.asked;
            };
            read = one_read packet _ w.write_datagram-end.ensures.carried w.write_datagram-end.ensures.exact;
          } in rw w.in-One.is (rw w.link-is alone)
      | in-Two w ↦ let alone : SentAlone Two mid (told (queue w.send_load.new.link) (asked w.send_load.new.link)) packet = record {
        takes = record { sends = rw w.of.ensures at w.send_load.ensures.sends; asks = rw w.of.ensures at w.send_load.ensures.asks };
        read = rw w.of.ensures at w.send_load.ensures.read;
      } in rw w.in-Two.is (rw w.link-is alone)
    ])

pub packets-smaller : goal.packets-smaller
packets-smaller g c = rw c.drop_front.ensures (one_less c.packets.out.packets c.in-Some.packet.now (cc))

pub returns-clause-sends : goal.returns-clause-sends
returns-clause-sends g c =
    let queue = g.L.Link.queue in
    let asked = g.L.Link.asked in
    let all = all_sent c.args.carriage (told (queue c.args.link.now) (asked c.args.link.now))
    (told (queue c.packets.link) (asked c.packets.link)) c.args.out.now c.packets.out c.packets.invariant (cc) in
    all.sends

pub returns-clause-asks : goal.returns-clause-asks
returns-clause-asks g c =
    let queue = g.L.Link.queue in
    let asked = g.L.Link.asked in
    let all = all_sent c.args.carriage (told (queue c.args.link.now) (asked c.args.link.now))
    (told (queue c.packets.link) (asked c.packets.link)) c.args.out.now c.packets.out c.packets.invariant (cc) in
    all.asks

pub returns-clause-empty : goal.returns-clause-empty
returns-clause-empty g c =
    let queue = g.L.Link.queue in
    let asked = g.L.Link.asked in
    all_empty c.args.carriage (told (queue c.args.link.now) (asked c.args.link.now))
    (told (queue c.packets.link) (asked c.packets.link)) c.args.out.now c.packets.out c.packets.invariant (cc)

pub returns-clause-read : goal.returns-clause-read
returns-clause-read g c =
    let queue = g.L.Link.queue in
    let asked = g.L.Link.asked in
    all_read c.args.carriage (told (queue c.args.link.now) (asked c.args.link.now)) (told (queue c.packets.link) (asked c.packets.link))
    c.args.out.now c.packets.out c.packets.invariant (cc)
