-- Each packet that came is delivered, and the request for FILE that it is, accepted: two phases, one after the other.
use Rattle.std.proofs.Common.{◌≡◌, ◌≤◌, ℕ, subst, Bool, true, false, if◌then◌else◌, Some, None, Ok, refl, ap, ◌∙◌, sym}
use Rattle.chaos_host.specs.Deliver.{host_deliver}
use Rattle.chaos_host.specs.Disposition.{host_with_packet}
use Rattle.chaos_host.specs.declared.answers.HostDelivered.TheVariants.{Requested}
use Rattle.chaos_host.specs.declared.answers.HostDisposition.{HostDisposition}
use Rattle.chaos_packet.specs.Outbox.{OutboxView}
use Rattle.chaos_node.specs.InTurn.{TurnDoes, station_of}
use Rattle.chaos_node.specs.Phase.{no_effect_on}
use Rattle.chaos_node.specs.declared.limits.TheConstants.{TURN_ROOM}
use Rattle.chaos_node.proofs.InTurn.{takes_more, takes_none}
use Rattle.file_server.specs.Arrive.{greet}
use Rattle.file_server.proofs.Calls.{call_sent}
use Rattle.file_server.proofs.Idle.{idle}
use Rattle.file_server.proofs.InTurn.{all_greeted, any_is, greeted, none_asked, packets_in}
use Rattle.file_server.proofs.arriving.arrive_at_server.Goals as goal
use Rattle.file_server.proofs.arriving.arrive_at_server.Goals.{in-Requested, in_default-became}

pub packets-init : goal.packets-init
packets-init g c =
    let came : c.args.came ≡ Some (Ok c.in-Some-Ok.packets) = cc in
    rw came (takes_none (greet c.args.start c.args.turn.now.now) c.in-Some-Ok.packets c.args.turn.now)

pub packets-preserved : goal.packets-preserved
packets-preserved g c =
    let turn = c.packets.turn in
    let packet = c.next_into.new.packet in
    let took = c.take-became in
    let answered = c.send_all-answered in
    let queue = g.L.Link.queue in
    let accepted = c.match-became.accepted in
    let delivered =
    call_sent turn.carriage (host_deliver turn.host.now packet turn.now) turn.host.now took.new.self
    (queue turn.link.now) (queue answered.new.link) turn.out.now took.new.out answered.new.out _ answered.result
    took.ensures.does turn.empty answered.ensures.sends answered.ensures.empty answered.ensures.told in
    let cap = ap (λ (o : OutboxView). o.cap) answered.ensures.empty ∙ ap (λ (o : OutboxView). o.cap) took.ensures.does.packets in
    let between =
    record turn {
      host = record turn.host { now = took.new.self };
      link = record turn.link { now = answered.new.link };
      out = record turn.out { now = answered.new.out };
      room = subst (λ (n : ℕ). TURN_ROOM ≤ n) (sym cap) turn.room;
      empty = ap (λ (o : OutboxView). o.packets) answered.ensures.empty;
    } in
    let greets : TurnDoes turn c.match-became.turn (greet c.args.start turn.now packet turn.host.now)
    (if accepted then true else answered.result) =
    elim c.match-became.branch [
      | in-Requested w ↦
          rw (w.turn-is, w.accepted-is)
          (greeted c.args.start packet turn between w.accept-accepted.new.turn (Requested w.in-Requested.id) _ answered.result
          w.accept-accepted.result _
          (ap (λ (d : HostDisposition). host_with_packet d packet) (sym w.in-Requested.is) ∙ took.ensures.does.answers)
          refl (delivered, (refl, refl, refl, refl, refl)) w.accept-accepted.ensures refl)
      | in_default-became w ↦
          rw w.accepted-is
          (greeted c.args.start packet turn c.match-became.turn c.match-became.turn
          (host_with_packet took.result packet) None answered.result false _ took.ensures.does.answers
          (sym (none_asked took.result packet w.in_default-became.not-Requested))
          (rw w.turn-is (delivered, (refl, refl, refl, refl, refl)))
          (idle c.match-became.turn.carriage (station_of c.match-became.turn) (no_effect_on c.match-became.turn.host.now) (refl, refl), (refl, refl, refl, refl, refl)) refl)
    ] in
    takes_more (greet c.args.start) (packets_in c.args.came) c.packets.packets c.next_into.new.self packet
    c.args.turn.now turn c.match-became.turn c.packets.sent (if accepted then true else answered.result) c.any_of-sent.result
    c.packets.invariant
    (sym c.next_into.ensures.packet ∙ ap (λ (b : Bool). if b then Some packet else None) c.packets-test.true)
    c.next_into.ensures.rest greets (c.any_of-sent.ensures ∙ any_is accepted answered.result c.packets.sent)

pub returns : goal.returns
returns g c =
    all_greeted c.args.came c.args.start c.packets.packets c.args.turn.now c.packets.turn c.packets.sent c.packets.invariant
    (sym c.next_into.ensures.packet
    ∙ ap (λ (b : Bool). if b then Some c.next_into.new.packet else None) c.packets-test.false)
