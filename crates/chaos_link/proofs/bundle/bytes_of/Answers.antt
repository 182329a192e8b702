use Rattle.std.proofs.Common.{ℕ, ◌<◌, ◌≤◌, get_or, length}
use Rattle.chaos_packet.proofs.Packing.{spelling_spells}
use Rattle.chaos_link.proofs.bundle.bytes_of.Goals as goal

pub returns-clause-spelled : goal.returns-clause-spelled
returns-clause-spelled c =
    let bytes : (i : ℕ) → get_or c.args.packet.now.body i 0 < 256 =
    rw (← c.bytes.ensures.value) c.length_of.ensures.small in
    let small : length c.args.packet.now.body ≤ 488 = rw (← c.bytes.ensures.value) c.bytes.ensures.fits in
    spelling_spells c.args.packet.now bytes small
