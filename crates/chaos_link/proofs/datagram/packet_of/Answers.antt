use Rattle.std.proofs.Common.{◌≡◌, ◌∙◌, length, take, drop, ap, arith}
use Rattle.std.proofs.lemmas.List.{take_at}
use Rattle.chaos_packet.specs.Words.{packet_with}
use Rattle.chaos_link.specs.Datagram.{words_of}
use Rattle.chaos_link.proofs.Made.{header_read, data_read}
use Rattle.chaos_link.proofs.datagram.packet_of.Goals as goal

pub returns : goal.returns
returns c =
    let n = c.args.count in
    let ws = c.args.words.now in
    let header = header_read (words_of ws) c.truncate.new.self.items _ _ _ _ _ _ _ _
    c.word_at.ensures c.word_at-2.ensures c.word_at-3.ensures c.word_at-4.ensures c.word_at-5.ensures
    c.word_at-6.ensures c.word_at-7.ensures c.word_at-8.ensures in
    let copied : c.truncate.new.self.items ≡ take n c.turn_pairs.new.to =
    c.truncate.ensures.items
    ∙ ap (take n)
    (take_at c.turn_pairs.new.to (drop (length c.turn_pairs.new.to) c.from.result.items)
    (length c.from.result.items)
    (omega (arith, c.turn_pairs.auto.to, ap length c.as_mut_slice.ensures.value))) in
    let part = c.split_at-2.ensures.front ∙ ap (take _) c.split_at.ensures.back in
    header ∙ ap (packet_with (words_of ws)) copied
    ∙ data_read ws _ _ n c.requires.count part (omega (arith, c.requires.long)) c.turn_pairs.ensures
