use Rattle.std.proofs.Common.{◌≡◌, ◌<◌, ◌≤◌, ℕ, length, get_or, take, rules}
use Rattle.chaos_packet.specs.Words.{spelling_of}
use Rattle.chaos_packet.proofs.Packing.{spelling_spells, spelling_zero}
use Rattle.chaos_packet.proofs.writing.write_words.Goals as goal

pub returns-clause-spelled : goal.returns-clause-spelled
returns-clause-spelled c =
    let spelling : take c.pack.result c.pack.new.words ≡ spelling_of c.args.packet.now = search rules in
    let bytes : (i : ℕ) → get_or c.args.packet.now.body i 0 < 256 = rw (← c.bytes.ensures.value) c.pack.ensures.bytes in
    let small : length c.args.packet.now.body ≤ 488 = rw (← c.bytes.ensures.value) c.bytes.ensures.fits in
    rw spelling (spelling_spells c.args.packet.now bytes small)

pub returns-clause-zero : goal.returns-clause-zero
returns-clause-zero c =
    let spelling : take c.pack.result c.pack.new.words ≡ spelling_of c.args.packet.now = search rules in
    let bytes : (i : ℕ) → get_or c.args.packet.now.body i 0 < 256 = rw (← c.bytes.ensures.value) c.pack.ensures.bytes in
    let small : length c.args.packet.now.body ≤ 488 = rw (← c.bytes.ensures.value) c.bytes.ensures.fits in
    rw spelling (spelling_zero c.args.packet.now bytes small)
