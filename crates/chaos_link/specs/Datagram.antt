-- Packets as bytes on a link.
use Rattle.std.specs.Prelude.{◌≡◌, ◌↔◌, ℕ, ◌+◌, ◌*◌, ◌/◌, ◌%◌, ◌<◌, List, [], ◌∷◌, ◌++◌, length, drop, All, slice_index, Option, Some, None, Result, Ok, Err, not, nat_lt, ◌==◌, ◌&&◌, if◌then◌else◌}
use Rattle.chaos_packet.specs.Packet.{PacketView}
use Rattle.chaos_packet.specs.Words.{Spells, HasZeroHalves, spelling_of, words_fault, words_for, count_of, packet_at}
use Rattle.chaos_packet.specs.declared.limits.TheConstants.{HEADER_WORDS}
use Rattle.chaos_packet.specs.declared.fault.PacketFault.{PacketFault}
use Rattle.chaos_link.specs.declared.limits.TheConstants.{MARK_BYTES}
use Rattle.chaos_link.specs.declared.fault.LinkFault.{LinkFault}
use Rattle.chaos_link.specs.declared.fault.LinkFault.TheVariants.{Short, BadMark, BadVersion, Packet, Trailing}

-- words as bytes, of each word the high byte first
abbrev pub wire : List ℕ → List ℕ
wire [] = []
wire (w ∷ ws) = w / 256 ∷ w % 256 ∷ wire ws

-- the whole words of bytes, without a last odd byte
abbrev pub words_of : List ℕ → List ℕ
words_of [] = []
words_of (a ∷ []) = []
words_of (a ∷ b ∷ bs) = (256 * a + b) ∷ words_of bs

-- the mark and the version that a datagram begins with
abbrev pub mark : List ℕ
mark = 0x43 ∷ 0x48 ∷ 0x01 ∷ 0x00 ∷ []

-- The bytes carry the packet: the mark, words that spell it, and nothing more.
abbrev pub Carries : PacketView → List ℕ → Type 0
Carries p bs = (ws : List ℕ) × Spells p ws × (bs ≡ mark ++ wire ws)

-- The free halves are zero: the low byte of word 0 and, with an odd count, the high byte of the last word.
abbrev pub Canonical : List ℕ → Type 0
Canonical bs = HasZeroHalves (words_of (drop MARK_BYTES bs))

-- ---- The same as functions of the bytes and of the packet, for crates that compute with them

-- the canonical datagram that carries a packet
abbrev pub datagram_of : PacketView → List ℕ
datagram_of p = mark ++ wire (spelling_of p)

-- how many bytes a packet of this many data bytes takes on a link
abbrev pub datagram_len : ℕ → ℕ
datagram_len count = MARK_BYTES + 2 * (HEADER_WORDS + words_for count)

-- the fault of the words after the mark, else of what stands after the packet
abbrev pub fault_after : List ℕ → Option PacketFault → Option LinkFault
fault_after bs (Some f) = Some (Packet f)
fault_after bs None =
    if nat_lt (datagram_len (count_of (words_of (drop MARK_BYTES bs)))) (length bs) then Some Trailing else None

-- the first fault of these bytes
abbrev pub fault_of : List ℕ → Option LinkFault
fault_of bs = if nat_lt (length bs) MARK_BYTES then Some Short
    else (if not (slice_index bs 0 == 0x43 && slice_index bs 1 == 0x48) then Some BadMark
    else (if not (slice_index bs 2 == 0x01 && slice_index bs 3 == 0x00) then Some BadVersion
    else fault_after bs (words_fault (words_of (drop MARK_BYTES bs)))))

-- the packet of these bytes, or their first fault
abbrev pub read_by : List ℕ → Option LinkFault → Result PacketView LinkFault
read_by bs (Some f) = Err f
read_by bs None = Ok (packet_at (words_of (drop MARK_BYTES bs)))

abbrev pub datagram_read : List ℕ → Result PacketView LinkFault
datagram_read bs = read_by bs (fault_of bs)

-- A packet is read of bytes exactly where they carry it.
abbrev pub IsDecidedByCarries : Type 0
IsDecidedByCarries = (p : PacketView) (bs : List ℕ) → All (λ b. b < 256) bs → (datagram_read bs ≡ Ok p) ↔ Carries p bs
