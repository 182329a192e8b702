-- What a line is, and how it is reported.
use Rattle.std.specs.Prelude.{◌≡◌, ◌↔◌, ℕ, ◌≤◌, Bool, true, false, List, ◌∷◌, ◌++◌, length, Option, Some, None, Result, Ok, Err, codes, nat_lt, if◌then◌else◌}
use Rattle.std.specs.Fmt.{decimal}
use Rattle.std.specs.Io.BufRead.{strip_last}
use Rattle.chaos_packet.specs.declared.fault.PacketFault.{PacketFault}
use Rattle.chaos_packet.specs.declared.fault.PacketFault.TheVariants as words
use Rattle.chaos_packet.specs.Packet.{PacketView}
use Rattle.chaos_link.specs.declared.fault.LinkFault.{LinkFault}
use Rattle.chaos_link.specs.declared.fault.LinkFault.TheVariants.{Short, BadMark, BadVersion, Packet, Trailing, BadNumber, TooLong, PacketAt}
use Rattle.chaos_link.specs.Datagram.{Carries, datagram_read}
use Rattle.chaos_link.specs.Packets.{Carries2, is_two, fault_of_all, packets_read}
use Rattle.chaos_chudp.specs.declared.fault.ChudpFault.{ChudpFault}
use Rattle.chaos_chudp.specs.declared.fault.ChudpFault.TheVariants as chudp
use Rattle.chaos_chudp.specs.Chudp.{CarriesChudp, DeliveryView, chudp_fault, chudp_read, sum_in}
use Rattle.chaosd_show.specs.declared.format.Format.{Format}
use Rattle.chaosd_show.specs.declared.format.Format.TheVariants.{Own, Chudp}
use Rattle.chaosd_show.specs.declared.view.View.{View}
use Rattle.chaosd_show.specs.declared.limits.TheConstants.{SHOW_LINE_LIMIT}
use Rattle.chaosd_show.specs.Hex.{hex_bytes}
use Rattle.chaosd_io.specs.Texts.{line}
use Rattle.chaosd_show.specs.Report.{packet_text, several_text, delivery_text}

-- What a line is: none of the form that is asked, a datagram that is refused, one of version 1, which carries a packet,
-- or one of version 2, which carries several; or a CHUDP datagram that is refused, or one that carries a packet.
pub data Entry : Type 0 where
  Unreadable : Entry
  Refused : LinkFault → Entry
  Read : PacketView → Entry
  ReadSeveral : List PacketView → Entry
  RefusedChudp : ChudpFault → Entry
  Delivered : DeliveryView → Entry

-- what a datagram of version 1 is
abbrev pub entry_of_one : Result PacketView LinkFault → Entry
entry_of_one (Ok packet) = Read packet
entry_of_one (Err fault) = Refused fault

-- what one of version 2 is
abbrev pub entry_of_several : Result (List PacketView) LinkFault → Entry
entry_of_several (Ok packets) = ReadSeveral packets
entry_of_several (Err fault) = Refused fault

-- what a CHUDP datagram is
abbrev pub entry_of_chudp : Result DeliveryView ChudpFault → Entry
entry_of_chudp (Ok delivery) = Delivered delivery
entry_of_chudp (Err fault) = RefusedChudp fault

-- what a datagram is in its format: in the own format, one that isn't of version 2 is read as one of version 1
abbrev pub entry_of_datagram : Format → List ℕ → Entry
entry_of_datagram Own bytes =
    if is_two bytes then entry_of_several (packets_read bytes) else entry_of_one (datagram_read bytes)
entry_of_datagram Chudp bytes = entry_of_chudp (chudp_read bytes)

-- what the bytes are that a line stands for, if it stands for some
abbrev pub entry_of_bytes : Format → Option (List ℕ) → Entry
entry_of_bytes format None = Unreadable
entry_of_bytes format (Some bytes) = entry_of_datagram format bytes

-- what a line is that is read without the carriage return at its end: no more bytes are read than a line may have
abbrev pub entry_of_text : Format → List ℕ → Entry
entry_of_text format text =
    if nat_lt SHOW_LINE_LIMIT (length text) then Unreadable else entry_of_bytes format (hex_bytes text)

-- what a line is, as it stands in the input: a byte 13 at its end is ignored
unfoldable pub entry_of : Format → List ℕ → Entry
entry_of format raw = entry_of_text format (strip_last 13 raw)

-- how a fault of a packet is reported
abbrev pub packet_fault_text : PacketFault → List ℕ
packet_fault_text words.Short = codes "1 Short"
packet_fault_text words.BadCount = codes "2 BadCount"
packet_fault_text words.Truncated = codes "3 Truncated"

-- how a fault of a datagram is reported
abbrev pub fault_text : LinkFault → List ℕ
fault_text Short = codes "fault 1 Short"
fault_text BadMark = codes "fault 2 BadMark"
fault_text BadVersion = codes "fault 3 BadVersion"
fault_text (Packet fault) = codes "fault 4 Packet " ++ packet_fault_text fault
fault_text Trailing = codes "fault 5 Trailing"
fault_text BadNumber = codes "fault 6 BadNumber"
fault_text TooLong = codes "fault 7 TooLong"
fault_text (PacketAt place fault) = codes "fault 8 PacketAt " ++ decimal place ++ 32 ∷ packet_fault_text fault

-- how a fault of a CHUDP datagram is reported
abbrev pub chudp_fault_text : ChudpFault → List ℕ
chudp_fault_text chudp.TooLong = codes "fault 1 TooLong"
chudp_fault_text chudp.Short = codes "fault 2 Short"
chudp_fault_text chudp.BadVersion = codes "fault 3 BadVersion"
chudp_fault_text chudp.BadFunction = codes "fault 4 BadFunction"
chudp_fault_text chudp.BadSum = codes "fault 5 BadSum"
chudp_fault_text (chudp.Packet fault) = codes "fault 6 Packet " ++ packet_fault_text fault
chudp_fault_text chudp.Trailing = codes "fault 7 Trailing"

-- the report, by how much is reported of data
unfoldable pub entry_text : View → Entry → List ℕ
entry_text view Unreadable = line (codes "fault 0 Line")
entry_text view (Refused fault) = line (fault_text fault)
entry_text view (Read packet) = packet_text view packet
entry_text view (ReadSeveral packets) = several_text view packets
entry_text view (RefusedChudp fault) = line (chudp_fault_text fault)
entry_text view (Delivered delivery) = delivery_text view delivery

-- whether it is a refusal
abbrev pub is_refusal : Entry → Bool
is_refusal (Read packet) = false
is_refusal (ReadSeveral packets) = false
is_refusal (Delivered delivery) = false
is_refusal _ = true

-- ---- in the datagrams' own words

-- The line, without a byte 13 at its end, is no longer than a line may be, and writes these bytes.
abbrev pub Writes : List ℕ → List ℕ → Type 0
Writes raw bytes = (length (strip_last 13 raw) ≤ SHOW_LINE_LIMIT) × (hex_bytes (strip_last 13 raw) ≡ Some bytes)

-- In the own format, a line is reported as a packet exactly where it writes bytes that carry that packet by version 1.
abbrev pub IsReportedAsCarried : Type 0
IsReportedAsCarried =
    (p : PacketView) (raw : List ℕ) → (entry_of Own raw ≡ Read p) ↔ ((bytes : List ℕ) × Writes raw bytes × Carries p bytes)

-- It is reported as packets exactly where it writes bytes that carry these packets by version 2.
abbrev pub IsReportedAsCarried2 : Type 0
IsReportedAsCarried2 =
    (ps : List PacketView) (raw : List ℕ)
    → (entry_of Own raw ≡ ReadSeveral ps) ↔ ((bytes : List ℕ) × Writes raw bytes × Carries2 ps bytes)

-- It is reported as refused exactly where it writes bytes whose first fault this is.
abbrev pub IsRefusedByFault : Type 0
IsRefusedByFault =
    (fault : LinkFault) (raw : List ℕ)
    → (entry_of Own raw ≡ Refused fault) ↔ ((bytes : List ℕ) × Writes raw bytes × (fault_of_all bytes ≡ Some fault))

-- In CHUDP, a line is reported as a packet with this trailer exactly where it writes bytes that carry that packet to this hop
-- from that one by CHUDP, with this sum.
abbrev pub IsReportedAsDelivered : Type 0
IsReportedAsDelivered =
    (d : DeliveryView) (raw : List ℕ) → (entry_of Chudp raw ≡ Delivered d)
    ↔ ((bytes : List ℕ) × Writes raw bytes × (CarriesChudp d.packet d.to d.from bytes × (sum_in bytes ≡ d.sum)))

-- It is reported as refused exactly where it writes bytes whose first fault this is.
abbrev pub IsRefusedByChudpFault : Type 0
IsRefusedByChudpFault =
    (fault : ChudpFault) (raw : List ℕ)
    → (entry_of Chudp raw ≡ RefusedChudp fault) ↔ ((bytes : List ℕ) × Writes raw bytes × (chudp_fault bytes ≡ Some fault))
