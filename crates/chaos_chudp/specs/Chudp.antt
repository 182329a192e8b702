-- Packets as CHUDP datagrams.
use Rattle.std.specs.Prelude.{◌≡◌, ◌↔◌, ℕ, ◌+◌, ◌-◌, ◌*◌, ◌%◌, ◌<◌, List, [], ◌∷◌, ◌++◌, length, take, drop, All, slice_index, Option, Some, None, Result, Ok, Err, not, nat_lt, ◌==◌, ◌||◌, if◌then◌else◌}
use Rattle.chaos_packet.specs.Packet.{PacketView}
use Rattle.chaos_packet.specs.Words.{Spells, HasZeroHalves, spelling_of, packet_at, words_fault, words_for, count_of}
use Rattle.chaos_packet.specs.declared.fault.PacketFault.{PacketFault}
use Rattle.chaos_packet.specs.declared.limits.TheConstants.{HEADER_WORDS}
use Rattle.chaos_link.specs.Datagram.{Carries, wire, words_of, mark}
use Rattle.chaos_link.specs.declared.limits.TheConstants.{LINK_ROOM}
use Rattle.chaos_chudp.specs.Sum.{checksum}
use Rattle.chaos_chudp.specs.declared.limits.TheConstants.{HEAD_BYTES, TRAILER_BYTES}
use Rattle.chaos_chudp.specs.declared.fault.ChudpFault.{ChudpFault}
use Rattle.chaos_chudp.specs.declared.fault.ChudpFault.TheVariants.{TooLong, Short, BadVersion, BadFunction, BadSum, Packet, Trailing}

-- The bytes carry the packet to this hop from that one: version 1, function 1 and two arguments that nobody reads; then,
-- of each word the high byte first, the words that spell the packet, and the trailer: where it goes, where it comes from, and a
-- sum by which packet and trailer come to a checksum of 0; and nothing more.
pub record CarriesChudp (p : PacketView) (to from : ℕ) (bs : List ℕ) : Type 0 where
  pub words : List ℕ
  pub check : ℕ
  pub argument : ℕ
  pub argument_too : ℕ
  pub spelled : Spells p words
  pub bytes : bs ≡ 1 ∷ 1 ∷ argument ∷ argument_too ∷ wire (words ++ to ∷ from ∷ check ∷ [])
  pub checked : checksum (words ++ to ∷ from ∷ check ∷ []) ≡ 0

-- the bytes between head and trailer
abbrev pub middle : List ℕ → List ℕ
middle bs = take (length bs - 10) (drop 4 bs)

-- the word at a byte, high byte first
abbrev pub word_in : List ℕ → ℕ → ℕ
word_in bs i = 256 * slice_index bs i + slice_index bs (i + 1)

-- the sum as it stands in the trailer
abbrev pub sum_in : List ℕ → ℕ
sum_in bs = word_in bs (length bs - 2)

-- The arguments and the free halves are zero, and the sum is the checksum of what stands between head and sum.
pub record IsCanonical (bs : List ℕ) : Type 0 where
  pub argument : slice_index bs 2 ≡ 0
  pub argument_too : slice_index bs 3 ≡ 0
  pub halves : HasZeroHalves (words_of (middle bs))
  pub check : sum_in bs ≡ checksum (words_of (take (length bs - 6) (drop 4 bs)))

-- At most one packet is carried by any bytes, to one hop and from one.
abbrev pub AtMostOneDelivery : Type 0
AtMostOneDelivery = (p q : PacketView) (to from to_too from_too : ℕ) (bs : List ℕ) → CarriesChudp p to from bs
    → CarriesChudp q to_too from_too bs → (p ≡ q) × (to ≡ to_too) × (from ≡ from_too)

-- ---- The same as functions of the bytes and of the packet

-- a packet, and the trailer of its datagram: the address of the next hop, that of the hop that sent it, and the sum
pub record DeliveryView : Type 0 where
  pub packet : PacketView
  pub to : ℕ
  pub from : ℕ
  pub sum : ℕ

-- the fault of the words between head and trailer, else of what stands behind the packet
abbrev pub fault_past : List ℕ → Option PacketFault → Option ChudpFault
fault_past words (Some f) = Some (Packet f)
fault_past words None =
    if nat_lt (2 * (HEADER_WORDS + words_for (count_of (words_of words)))) (length words) then Some Trailing else None

abbrev pub fault_between : List ℕ → Option ChudpFault
fault_between words = fault_past words (words_fault (words_of words))

-- the first fault of these bytes
abbrev pub chudp_fault : List ℕ → Option ChudpFault
chudp_fault bs = if nat_lt LINK_ROOM (length bs) then Some TooLong
    else (if nat_lt (length bs) HEAD_BYTES then Some Short
    else (if not (slice_index bs 0 == 1) then Some BadVersion
    else (if not (slice_index bs 1 == 1) then Some BadFunction
    else (if nat_lt (length bs) (HEAD_BYTES + 2 * HEADER_WORDS + TRAILER_BYTES) || length bs % 2 == 1 then Some Short
    else (if not (checksum (words_of (drop HEAD_BYTES bs)) == 0) then Some BadSum
    else fault_between (middle bs))))))

-- the packet of bytes without a fault, and their trailer
abbrev pub packet_in : List ℕ → DeliveryView
packet_in bs = record {
  packet = packet_at (words_of (middle bs));
  to = word_in bs (length bs - 6);
  from = word_in bs (length bs - 4);
  sum = sum_in bs;
}

abbrev pub read_with : List ℕ → Option ChudpFault → Result DeliveryView ChudpFault
read_with bs (Some f) = Err f
read_with bs None = Ok (packet_in bs)

abbrev pub chudp_read : List ℕ → Result DeliveryView ChudpFault
chudp_read bs = read_with bs (chudp_fault bs)

-- A packet and its hops are read of bytes exactly where they carry it.
abbrev pub IsDecidedByCarriesChudp : Type 0
IsDecidedByCarriesChudp = (p : PacketView) (to from : ℕ) (bs : List ℕ) → All (λ b. b < 256) bs
    → (chudp_read bs ≡ Ok (record { packet = p; to = to; from = from; sum = sum_in bs })) ↔ CarriesChudp p to from bs

-- what stands behind the head but for the sum, with the sum behind it
abbrev pub closed : List ℕ → List ℕ
closed body = 1 ∷ 1 ∷ 0 ∷ 0 ∷ body ++ wire (checksum (words_of body) ∷ [])

-- the CHUDP form of a datagram of version 1, with its words
abbrev pub chudp_form : ℕ → ℕ → List ℕ → List ℕ
chudp_form to from bs = closed (drop 4 bs ++ wire (to ∷ from ∷ []))

-- the datagram of version 1 with the same words
abbrev pub plain_of : List ℕ → List ℕ
plain_of bs = mark ++ middle bs

-- the canonical datagram that carries a packet
abbrev pub chudp_of : PacketView → ℕ → ℕ → List ℕ
chudp_of p to from = closed (wire (spelling_of p) ++ wire (to ∷ from ∷ []))

-- The CHUDP form of whatever carries a packet carries that packet.
abbrev pub IsCarriedOver : Type 0
IsCarriedOver = (p : PacketView) (to from : ℕ) (bs : List ℕ) → to < 65536 → from < 65536 → All (λ b. b < 256) bs
    → Carries p bs → CarriesChudp p to from (chudp_form to from bs)
