use Rattle.chaos_node.proofs.Loaded.{all_loaded, empty_then, first_loaded, loads_read_then, no_load_read, no_load_sent, one_begun, one_joined}
use Rattle.chaos_node.proofs.Queue.{none_empty, told}
use Rattle.chaos_node.proofs.sending.send_loads.Goals as goal
use Rattle.chaos_node.proofs.sending.send_loads.Goals.{then-not-join, else-not-join}

pub packets-preserved : goal.packets-preserved
packets-preserved g c =
    let queue = g.L.Link.queue in
    let asked = g.L.Link.asked in
    let before = told (queue c.args.link.now) (asked c.args.link.now) in
    let mid = told (queue c.packets.link) (asked c.packets.link) in
    elim c.if-not-join.branch [
      | then-not-join w ↦ rw w.link-is
          (rw w.load-is
          (one_begun before mid (told (queue w.send_load.new.link) (asked w.send_load.new.link)) c.args.out.now
          c.packets.out c.drop_front-in-Some-front.new.self
          c.packets.load c.join.new.self w.begin.new.self c.in-Some-front.packet.now c.packets.invariant (cc)
          c.drop_front-in-Some-front.ensures (cc) c.join.ensures.load
          (record { sends = w.send_load.ensures.sends; asks = w.send_load.ensures.asks }) w.send_load.ensures.read w.begin.ensures))
      | else-not-join w ↦ rw w.link-is
          (rw w.load-is
          (one_joined before mid c.args.out.now c.packets.out
          c.drop_front-in-Some-front.new.self
          c.packets.load c.join.new.self c.in-Some-front.packet.now c.packets.invariant (cc)
          c.drop_front-in-Some-front.ensures (cc) c.join.ensures.load))
    ]

pub returns-in_default-clause-sends : goal.returns-in_default-clause-sends
returns-in_default-clause-sends g c =
    let none = no_load_sent c.args.out.now (cc)
    (told (g.L.Link.queue c.args.link.now) (g.L.Link.asked c.args.link.now)) in
    none.sends

pub returns-in_default-clause-asks : goal.returns-in_default-clause-asks
returns-in_default-clause-asks g c =
    let none = no_load_sent c.args.out.now (cc)
    (told (g.L.Link.queue c.args.link.now) (g.L.Link.asked c.args.link.now)) in
    none.asks

pub returns-in_default-clause-empty : goal.returns-in_default-clause-empty
returns-in_default-clause-empty g c = none_empty c.args.out.now (cc)

pub returns-clause-sends : goal.returns-clause-sends
returns-clause-sends g c =
    let queue = g.L.Link.queue in
    let asked = g.L.Link.asked in
    let last = c.send_load-2 in
    let all = all_loaded (told (queue c.args.link.now) (asked c.args.link.now))
    (told (queue c.packets.link) (asked c.packets.link)) (told (queue last.new.link) (asked last.new.link))
    c.args.out.now c.packets.out c.packets.load c.packets.invariant (cc)
    (record { sends = last.ensures.sends; asks = last.ensures.asks }) in
    all.sends

pub returns-clause-asks : goal.returns-clause-asks
returns-clause-asks g c =
    let queue = g.L.Link.queue in
    let asked = g.L.Link.asked in
    let last = c.send_load-2 in
    let all = all_loaded (told (queue c.args.link.now) (asked c.args.link.now))
    (told (queue c.packets.link) (asked c.packets.link)) (told (queue last.new.link) (asked last.new.link))
    c.args.out.now c.packets.out c.packets.load c.packets.invariant (cc)
    (record { sends = last.ensures.sends; asks = last.ensures.asks }) in
    all.asks

pub returns-clause-empty : goal.returns-clause-empty
returns-clause-empty g c =
    let queue = g.L.Link.queue in
    let asked = g.L.Link.asked in
    empty_then (told (queue c.args.link.now) (asked c.args.link.now))
    (told (queue c.packets.link) (asked c.packets.link))
    (told (queue c.send_load-2.new.link) (asked c.send_load-2.new.link))
    c.args.out.now c.packets.out c.packets.load c.packets.invariant (cc)

pub returns-in_default-clause-read : goal.returns-in_default-clause-read
returns-in_default-clause-read g c = no_load_read c.args.out.now (cc)

pub returns-clause-read : goal.returns-clause-read
returns-clause-read g c =
    let queue = g.L.Link.queue in
    let asked = g.L.Link.asked in
    let last = c.send_load-2 in
    loads_read_then (told (queue c.args.link.now) (asked c.args.link.now))
    (told (queue c.packets.link) (asked c.packets.link)) (told (queue last.new.link) (asked last.new.link))
    c.args.out.now c.packets.out c.packets.load c.packets.invariant (cc) last.ensures.read

pub packets-init : goal.packets-init
packets-init g c =
    first_loaded (told (g.L.Link.queue c.args.link.now) (g.L.Link.asked c.args.link.now)) c.args.out.now
    c.drop_front.new.self c.of-load.result c.in-Some.first.now (cc) c.drop_front.ensures c.of-load.ensures
