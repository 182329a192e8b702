use Rattle.std.proofs.Common.{◌≡◌, ◌++◌, ◌∷◌, [], ap, ◌∙◌, append_assoc}
use Rattle.std.proofs.KnownBytes.{Appends-trans, append_known-grown}
use Rattle.chaosd_show.specs.Report.{packet_text, packets_text}
use Rattle.chaosd_show.proofs.Packets.{packets_first}
use Rattle.chaosd_show.proofs.report.put_packets.Goals as goal

pub loop-packet-preserved : goal.loop-packet-preserved
loop-packet-preserved g c =
    let (done, written, left) = c.loop-packet.invariant in
    let text = 10 ∷ packet_text c.args.view c.in-Some.packet in
    let more : c.put_packet.new.out ≡ c.make_room.new.out ++ text =
    c.in_ok-put_packet.ensures ∙ ap (λ l. l ++ packet_text c.args.view c.in-Some.packet) c.in_ok-put.ensures.taken
    ∙ append_assoc c.make_room.new.out (10 ∷ []) (packet_text c.args.view c.in-Some.packet) in (
      done ++ text,
      Appends-trans _ _ _ done text written (append_known-grown _ _ _ _ text c.make_room.ensures more),
      append_assoc done text (packets_text c.args.view c.next.new.self)
          ∙ ap (λ l. done ++ l) (packets_first c.args.view _ _ _ c.in-Some.ensures.packet c.in-Some.ensures.rest) ∙ left,
    )
