use Rattle.std.proofs.Common.{◌≡◌, ◌<◌, ◌++◌, ◌∙◌, ℕ, get_or, take, rules, append_assoc}
use Rattle.chaos_packet.specs.Words.{header_of, packed}
use Rattle.chaos_packet.proofs.Packing.{spelling_spells, spelling_zero}
use Rattle.chaos_link.specs.Datagram.{wire}
use Rattle.chaos_link.proofs.Turned.{put_behind}
use Rattle.chaos_link.proofs.encode.put_packet.Goals as goal

pub returns-clause-bytes : goal.returns-clause-bytes
returns-clause-bytes c =
    let front = take c.args.front c.args.buffer.now in
    let first : take c.put_words-front.result c.put_words-front.new.bytes
    ≡ front ++ wire (header_of c.args.packet.now) =
    search rules in
    let second : take c.put_data.result c.put_data.new.to ≡ wire (packed c.args.packet.now.body) =
    rw c.bytes-data.ensures.value at c.put_data.ensures.bytes in
    put_behind c.put_words-front.new.bytes c.put_data.new.to _ _ _ c.put_words-front.result c.put_data.result
    c.put_words-front.ensures.fits c.put_data.ensures.fits first second
    ∙ append_assoc front (wire (header_of c.args.packet.now)) (wire (packed c.args.packet.now.body))

pub returns-clause-small : goal.returns-clause-small
returns-clause-small c = rw (← c.bytes-data.ensures.value) c.bytes-data.ensures.fits

pub returns-clause-spelled : goal.returns-clause-spelled
returns-clause-spelled c =
    let bytes : (i : ℕ) → get_or c.args.packet.now.body i 0 < 256 =
    rw (← c.bytes-data.ensures.value) c.put_data.ensures.small in
    spelling_spells c.args.packet.now bytes (returns-clause-small c)

pub returns-clause-zero : goal.returns-clause-zero
returns-clause-zero c =
    let bytes : (i : ℕ) → get_or c.args.packet.now.body i 0 < 256 =
    rw (← c.bytes-data.ensures.value) c.put_data.ensures.small in
    spelling_zero c.args.packet.now bytes (returns-clause-small c)
