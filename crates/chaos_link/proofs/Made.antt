-- The packet that is made of a datagram's bytes.
use Rattle.std.proofs.Common.{◌≡◌, ℕ, ◌+◌, ◌*◌, ◌/◌, ◌<◌, ◌≤◌, List, length, get_or, take, drop, refl, arith, ap, ◌∙◌, sym, Some, None, Ok, length-drop}
use Rattle.std.proofs.lemmas.List.{take-take, length-take-le, take_all}
use Rattle.std.proofs.lemmas.Bool.Decides.{nat_tests}
use Rattle.chaos_packet.specs.Packet.{PacketView}
use Rattle.chaos_packet.specs.Words.{words_for, count_of, words_fault, halves, packet_with, packet_at}
use Rattle.chaos_packet.specs.declared.fault.PacketFault.TheVariants.{Truncated}
use Rattle.chaos_link.specs.Datagram.{words_of, fault_of, read_by, datagram_read}
use Rattle.chaos_packet.proofs.Pairs.{length-halves}
use Rattle.chaos_link.proofs.Words.{length-words_of, take-words_of, drop-words_of}

-- too few words for the count
pub truncated : (ws : List ℕ) (n : ℕ) → n ≡ count_of ws → 8 ≤ length ws → n ≤ 488 → length ws < 8 + words_for n
    → words_fault ws ≡ Some Truncated
truncated ws n e header small few = grind (arith, nat_tests)

-- and enough of them
pub whole : (ws : List ℕ) (n : ℕ) → n ≡ count_of ws → 8 ≤ length ws → n ≤ 488 → 8 + words_for n ≤ length ws
    → words_fault ws ≡ None
whole ws n e header small enough = grind (arith, nat_tests)

-- a header that was read word by word
pub header_read : (ws body : List ℕ) (a b c d e f g h : ℕ)
    → a ≡ get_or ws 0 0 → b ≡ get_or ws 1 0 → c ≡ get_or ws 2 0 → d ≡ get_or ws 3 0 → e ≡ get_or ws 4 0
    → f ≡ get_or ws 5 0 → g ≡ get_or ws 6 0 → h ≡ get_or ws 7 0
    → record { op = a / 256; fwd = b / 4096; dst = c; dst_index = d; src = e; src_index = f; num = g; ack = h; body = body }
    ≡ packet_with ws body
header_read ws body a b c d e f g h ea eb ec ed ee ef eg eh = rw (ea, eb, ec, ed, ee, ef, eg, eh) refl

-- the data behind it, whatever stands behind that
pub data_read : (ws part to : List ℕ) (n : ℕ) → n ≡ count_of (words_of ws) → part ≡ take (2 * words_for n) (drop 16 ws)
    → 2 * (8 + words_for n) ≤ length ws
    → take (2 * (length part / 2)) to ≡ halves (words_of part)
    → packet_with (words_of ws) (take n to) ≡ packet_at (words_of ws)
data_read ws part to n count behind long turned =
    let len : length part ≡ 2 * words_for n =
    ap length behind ∙ length-take-le (2 * words_for n) (drop 16 ws) (omega (arith, length-drop 16 ws)) in
    let held : words_of part ≡ take (words_for n) (drop 8 (words_of ws)) =
    ap words_of behind ∙ sym (take-words_of (words_for n) (drop 16 ws))
    ∙ ap (take (words_for n)) (sym (drop-words_of 8 ws)) in
    let body : take n to ≡ take n (halves (take (words_for n) (drop 8 (words_of ws)))) =
    sym (take-take n (2 * (length part / 2)) to (omega arith)) ∙ ap (take n) (turned ∙ ap halves held) in
    ap (packet_with (words_of ws)) (body ∙ ap (λ m. take m (halves (take (words_for m) (drop 8 (words_of ws))))) count)

-- so bytes without a fault are read as the packet behind the mark
pub read_as : (p : PacketView) (bs ws : List ℕ) → fault_of bs ≡ None → ws ≡ drop 4 bs → p ≡ packet_at (words_of ws)
    → Ok p ≡ datagram_read bs
read_as p bs ws none after packet = ap Ok (packet ∙ ap (λ l. packet_at (words_of l)) after) ∙ sym (ap (read_by bs) none)

-- the halves of words are two bytes for each whole pair, and no more
pub all_halves : (bs : List ℕ) → take (2 * (length bs / 2)) (halves (words_of bs)) ≡ halves (words_of bs)
all_halves bs =
    take_all (2 * (length bs / 2)) (halves (words_of bs))
    (omega (arith, length-halves (words_of bs), length-words_of bs))
