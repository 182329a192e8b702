-- The reports of a packet, of several, and of one with its trailer, as text.
use Rattle.std.specs.Prelude.{ℕ, ◌+◌, ◌/◌, ◌%◌, List, [], ◌∷◌, ◌++◌, length, Option, Some, None, codes, nat_lt, ◌==◌, if◌then◌else◌}
use Rattle.std.specs.Fmt.{decimal}
use Rattle.std.specs.List.{flat_map}
use Rattle.chaos_packet.specs.Packet.{PacketView, status_of}
use Rattle.chaos_packet.specs.Opcode.{opcode_name, is_data}
use Rattle.chaos_chudp.specs.Chudp.{DeliveryView}
use Rattle.chaosd_io.specs.Escapes.{shown_byte}
use Rattle.chaosd_io.specs.Texts.{line, octal_three}
use Rattle.chaosd_show.specs.declared.view.View.{View}
use Rattle.chaosd_show.specs.declared.view.View.TheVariants.{Plain, File}
use Rattle.chaosd_show.specs.File.{file_text}

-- six octal digits
abbrev pub octal_six : ℕ → List ℕ
octal_six n = (48 + n / 32768) ∷ (48 + n / 4096 % 8) ∷ (48 + n / 512 % 8) ∷ octal_three (n % 512)

-- an upper-case hexadecimal digit
abbrev pub hex_digit : ℕ → ℕ
hex_digit digit = if nat_lt digit 10 then 48 + digit else 55 + digit

-- the four digits of a word
abbrev pub hex_four : ℕ → List ℕ
hex_four n = hex_digit (n / 4096) ∷ hex_digit (n / 256 % 16) ∷ hex_digit (n / 16 % 16) ∷ hex_digit (n % 16) ∷ []

-- a space and the two digits of a byte
abbrev pub hex_byte : ℕ → List ℕ
hex_byte byte = 32 ∷ hex_digit (byte / 16) ∷ hex_digit (byte % 16) ∷ []

-- a space and the name, where there is one
abbrev pub name_text : Option (List ℕ) → List ℕ
name_text None = []
name_text (Some name) = 32 ∷ name

-- the opcode, and its name
unfoldable pub op_line : ℕ → List ℕ
op_line op = line (codes "op " ++ octal_three op ++ name_text (opcode_name op))

-- the forwarding count and the number of data bytes
unfoldable pub count_line : ℕ → ℕ → List ℕ
count_line fwd count = line (codes "fwd " ++ decimal fwd ++ codes " count " ++ decimal count)

-- one end, behind "to" or "from"
unfoldable pub end_line : List ℕ → ℕ → ℕ → List ℕ
end_line word address index = line (word ++ 32 ∷ octal_six address ++ 32 ∷ octal_six index)

-- two numbers, each behind its word
unfoldable pub pair_line : List ℕ → ℕ → List ℕ → ℕ → List ℕ
pair_line first m second n = line (first ++ 32 ∷ decimal m ++ 32 ∷ second ++ 32 ∷ decimal n)

-- the data bytes
unfoldable pub data_line : List ℕ → List ℕ
data_line body = line (codes "data" ++ flat_map hex_byte body)

-- the data bytes as a text
unfoldable pub text_line : List ℕ → List ℕ
text_line body = line (codes "text " ++ flat_map shown_byte body)

-- what stands behind the data bytes: nothing in the plain view; in that of FILE their text, and of a packet of data what
-- they are in FILE
unfoldable pub view_text : View → ℕ → List ℕ → List ℕ
view_text Plain op body = []
view_text File op body = text_line body ++ (if is_data op then file_text body else [])

-- the receipt and the window where the packet tells them, else the data where there are some
unfoldable pub body_text : View → ℕ → Option (ℕ × ℕ) → List ℕ → List ℕ
body_text view op (Some status) body = pair_line (codes "receipt") status.0 (codes "window") status.1
body_text view op None body = if length body == 0 then [] else data_line body ++ view_text view op body

-- the lines of a packet
unfoldable pub packet_text : View → PacketView → List ℕ
packet_text view p = op_line p.op
    ++ (count_line p.fwd (length p.body)
    ++ (end_line (codes "to") p.dst p.dst_index
    ++ (end_line (codes "from") p.src p.src_index
    ++ (pair_line (codes "num") p.num (codes "ack") p.ack
    ++ body_text view p.op (status_of p) p.body))))

-- the carriage's version, and how many packets there are
unfoldable pub carriage_line : ℕ → List ℕ
carriage_line number = line (codes "carriage 2 packets " ++ decimal number)

-- for each packet an empty line, and then its lines
abbrev pub packets_text : View → List PacketView → List ℕ
packets_text view packets = flat_map (λ p. 10 ∷ packet_text view p) packets

-- the lines of the packets of a datagram of version 2
unfoldable pub several_text : View → List PacketView → List ℕ
several_text view packets = carriage_line (length packets) ++ packets_text view packets

-- the next hop and the hop that sent it
unfoldable pub trailer_line : ℕ → ℕ → List ℕ
trailer_line to from = line (codes "trailer to " ++ octal_six to ++ codes " from " ++ octal_six from)

-- the sum
unfoldable pub sum_line : ℕ → List ℕ
sum_line sum = line (codes "sum " ++ hex_four sum)

-- the lines of the packet of a CHUDP datagram, and of its trailer
unfoldable pub delivery_text : View → DeliveryView → List ℕ
delivery_text view d = packet_text view d.packet ++ (trailer_line d.to d.from ++ sum_line d.sum)
