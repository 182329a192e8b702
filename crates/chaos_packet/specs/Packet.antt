-- What a packet is.
use Rattle.std.specs.Prelude.{ℕ, ◌+◌, ◌*◌, List, [], ◌∷◌, Option, Some, None, ◌==◌, ◌||◌, if◌then◌else◌}
use Rattle.chaos_packet.specs.Item.{ItemView}
use Rattle.chaos_packet.specs.Opcode.{op_opn, op_sts}
use Rattle.chaos_packet.specs.Request.{contact_in, arguments_in}

-- A header's fields, and the data bytes.
pub record PacketView : Type 0 where
  pub op : ℕ
  pub fwd : ℕ
  pub dst : ℕ
  pub dst_index : ℕ
  pub src : ℕ
  pub src_index : ℕ
  pub num : ℕ
  pub ack : ℕ
  pub body : List ℕ

-- zeros, and no data
abbrev pub blank : PacketView
blank = record { op = 0; fwd = 0; dst = 0; dst_index = 0; src = 0; src_index = 0; num = 0; ack = 0; body = [] }

-- the item that a packet carries
abbrev pub item_of : PacketView → ItemView
item_of p = record { op = p.op; body = p.body }

-- the first two words of four data bytes or more, of each word the low half first
abbrev pub status_words : List ℕ → Option (ℕ × ℕ)
status_words (a ∷ b ∷ c ∷ d ∷ others) = Some (a + 256 * b, c + 256 * d)
status_words _ = None

-- the receipt and the window that an OPN or STS tells
abbrev pub status_of : PacketView → Option (ℕ × ℕ)
status_of p = if p.op == op_opn || p.op == op_sts then status_words p.body else None

-- the contact name and the arguments of an RFC
abbrev pub contact_of : PacketView → List ℕ
contact_of p = contact_in p.body

abbrev pub arguments_of : PacketView → List ℕ
arguments_of p = arguments_in p.body
