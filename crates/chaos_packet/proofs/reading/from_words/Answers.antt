use Rattle.std.proofs.Common.{◌≡◌, ℕ, ◌+◌, ◌≤◌, List, length, take, arith}
use Rattle.chaos_packet.specs.Packet.{PacketView}
use Rattle.chaos_packet.specs.Words.{Spells, words_for, count_of, packet_at}
use Rattle.chaos_packet.proofs.Headers.{made, spelled_at, only_packet}
use Rattle.chaos_packet.proofs.reading.from_words.Goals as goal

-- the same, of a packet that is known to be the one there
spelled_by : (p : PacketView) (ws : List ℕ) (n : ℕ) → p ≡ packet_at ws → n ≡ count_of ws → n ≤ 488
    → 8 + words_for n ≤ length ws → Spells p (take (8 + words_for n) ws)
spelled_by p ws n e en small long = rw (e, en) (spelled_at ws (omega arith) (omega arith))

pub returns-clause-spelled : goal.returns-clause-spelled
returns-clause-spelled c =
    let ws = c.args.words.now in
    (c.if-words-used.false, spelled_by _ ws _ (made ws _ _ c.from-count.ensures c.data_of.ensures) c.from-count.ensures c.if-count-gt-MAX_DATA.false c.if-words-used.false)

pub returns-clause-only : goal.returns-clause-only
returns-clause-only c p n le s =
    let ws = c.args.words.now in
    let same =
    only_packet p _ ws n _ (made ws _ _ c.from-count.ensures c.data_of.ensures) c.from-count.ensures
    c.if-count-gt-MAX_DATA.false c.if-words-used.false le s in
    cc (same.0, same.1)

pub returns-clause-packet : goal.returns-clause-packet
returns-clause-packet c = made c.args.words.now _ _ c.from-count.ensures c.data_of.ensures
