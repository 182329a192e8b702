-- Several packets in one datagram: the carriage's version 2.
use Rattle.std.specs.Prelude.{◌≡◌, ◌↔◌, ℕ, zero, suc, ◌+◌, ◌*◌, ◌<◌, ◌≤◌, List, [], ◌∷◌, ◌++◌, length, take, drop, All, slice_index, Bool, Option, Some, None, Result, Ok, Err, not, nat_lt, ◌==◌, ◌&&◌, ◌⊎◌, if◌then◌else◌}
use Rattle.chaos_packet.specs.Packet.{PacketView}
use Rattle.chaos_packet.specs.Words.{Spells, words_fault, words_for, count_of, packet_at}
use Rattle.chaos_packet.specs.declared.limits.TheConstants.{HEADER_WORDS}
use Rattle.chaos_packet.specs.declared.fault.PacketFault.{PacketFault}
use Rattle.chaos_link.specs.Datagram.{Carries, wire, words_of, fault_of}
use Rattle.chaos_link.specs.declared.limits.TheConstants.{MARK_BYTES, MAX_PACKETS, MAX_BUNDLE}
use Rattle.chaos_link.specs.declared.fault.LinkFault.{LinkFault}
use Rattle.chaos_link.specs.declared.fault.LinkFault.TheVariants.{Trailing, BadNumber, TooLong, PacketAt}

-- the mark, version 2, and how many packets follow
abbrev pub mark_of : ℕ → List ℕ
mark_of number = 0x43 ∷ 0x48 ∷ 0x02 ∷ number ∷ []

-- the words spell the packets, one behind the other
abbrev pub SpellsAll : List PacketView → List ℕ → Type 0
SpellsAll [] ws = ws ≡ []
SpellsAll (p ∷ ps) ws = (n : ℕ) × (n ≤ length ws) × Spells p (take n ws) × SpellsAll ps (drop n ws)

-- The bytes carry these packets, 1 to 8 of them: the mark with their number, words that spell them in turn, and nothing
-- more, 2,020 bytes at most.
pub record Carries2 (ps : List PacketView) (bs : List ℕ) : Type 0 where
  pub words : List ℕ
  pub spelled : SpellsAll ps words
  pub bytes : bs ≡ mark_of (length ps) ++ wire words
  pub some : 1 ≤ length ps
  pub few : length ps ≤ MAX_PACKETS
  pub fits : length bs ≤ MAX_BUNDLE

-- they carry these packets by either version
abbrev pub CarriesAll : List PacketView → List ℕ → Type 0
CarriesAll ps bs = ((p : PacketView) × (ps ≡ p ∷ []) × Carries p bs) ⊎ Carries2 ps bs

-- ---- The same as functions of the bytes

-- how many words the packet at the front of these has
abbrev pub front_len : List ℕ → ℕ
front_len ws = HEADER_WORDS + words_for (count_of ws)

-- so many packets at the front of words
abbrev pub packets_at : ℕ → List ℕ → List PacketView
packets_at zero ws = []
packets_at (suc n) ws = packet_at ws ∷ packets_at n (drop (front_len ws) ws)

-- how many words they have
abbrev pub packets_len : ℕ → List ℕ → ℕ
packets_len zero ws = 0
packets_len (suc n) ws = front_len ws + packets_len n (drop (front_len ws) ws)

-- a packet's fault, else that of what follows
abbrev pub first_fault : ℕ → Option PacketFault → Option LinkFault → Option LinkFault
first_fault k (Some f) after = Some (PacketAt k f)
first_fault k None after = after

-- the first fault of so many packets, of which the first is number k
abbrev pub packets_fault : ℕ → ℕ → List ℕ → Option LinkFault
packets_fault zero k ws = None
packets_fault (suc n) k ws = first_fault k (words_fault ws) (packets_fault n (k + 1) (drop (front_len ws) ws))

-- the first fault of the packets, else of what stands behind them
abbrev pub fault_behind : List ℕ → ℕ → Option LinkFault → Option LinkFault
fault_behind bs number (Some f) = Some f
fault_behind bs number None =
    if nat_lt (MARK_BYTES + 2 * packets_len number (words_of (drop MARK_BYTES bs))) (length bs) then Some Trailing
    else None

-- the first fault of a datagram of version 2
abbrev pub fault_of_two : List ℕ → Option LinkFault
fault_of_two bs =
    if not (nat_lt 0 (slice_index bs 3) && nat_lt (slice_index bs 3) (MAX_PACKETS + 1)) then Some BadNumber
    else (if nat_lt MAX_BUNDLE (length bs) then Some TooLong
    else fault_behind bs (slice_index bs 3) (packets_fault (slice_index bs 3) 1 (words_of (drop MARK_BYTES bs))))

-- it is one of version 2: the mark is there, and the third byte is 2
abbrev pub is_two : List ℕ → Bool
is_two bs =
    (slice_index bs 2 == 0x02 && (slice_index bs 0 == 0x43 && slice_index bs 1 == 0x48))
    && not (nat_lt (length bs) MARK_BYTES)

-- the first fault of a datagram of either version, and how many packets it has
abbrev pub fault_of_all : List ℕ → Option LinkFault
fault_of_all bs = if is_two bs then fault_of_two bs else fault_of bs

abbrev pub number_of : List ℕ → ℕ
number_of bs = if is_two bs then slice_index bs 3 else 1

abbrev pub read_all_by : List ℕ → Option LinkFault → Result (List PacketView) LinkFault
read_all_by bs (Some f) = Err f
read_all_by bs None = Ok (packets_at (number_of bs) (words_of (drop MARK_BYTES bs)))

-- the packets of a datagram, or its first fault
abbrev pub packets_read : List ℕ → Result (List PacketView) LinkFault
packets_read bs = read_all_by bs (fault_of_all bs)

-- Packets are read of bytes exactly where they carry them.
abbrev pub IsDecidedByCarriesAll : Type 0
IsDecidedByCarriesAll =
    (ps : List PacketView) (bs : List ℕ) → All (λ b. b < 256) bs → (packets_read bs ≡ Ok ps) ↔ CarriesAll ps bs

-- at most one list of packets is carried by any bytes
abbrev pub AtMostOneList : Type 0
AtMostOneList = (ps qs : List PacketView) (bs : List ℕ) → CarriesAll ps bs → CarriesAll qs bs → ps ≡ qs
