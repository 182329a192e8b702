use Rattle.std.proofs.Common.{◌∙◌, take, ap, arith, Some}
use Rattle.chaos_packet.specs.Words.{packet_with}
use Rattle.chaos_link.specs.Datagram.{words_of}
use Rattle.chaos_link.proofs.Made.{header_read, data_read, all_halves}
use Rattle.chaos_link.proofs.packets.Packets.next_into.Goals as goal

pub returns-clause-packet : goal.returns-clause-packet
returns-clause-packet c =
    let next = c.in-Some in
    let ws = next.words.now in
    let header = header_read (words_of ws) c.turn_over.new.body.items _ _ _ _ _ _ _ _
    c.word_at.ensures c.word_at-2.ensures c.word_at-packet-inside.ensures c.word_at-packet-inside-2.ensures
    c.word_at-packet-inside-3.ensures c.word_at-packet-inside-4.ensures
    c.word_at-3.ensures c.word_at-4.ensures in
    let part = c.split_at-2.ensures.front ∙ ap (take _) c.split_at.ensures.back in
    ap Some
    (header ∙ ap (packet_with (words_of ws)) c.turn_over.ensures
    ∙ data_read ws _ _ next.count next.ensures.count part (omega (arith, next.ensures.long)) (all_halves _))
    ∙ next.ensures.packet
