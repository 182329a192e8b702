-- Which words spell a packet.
use Rattle.std.specs.Prelude.{◌≡◌, ℕ, ◌+◌, ◌-◌, ◌*◌, ◌/◌, ◌%◌, ◌≤◌, List, [], ◌∷◌, length, take, drop, slice_index, Option, Some, None, nat_lt, if◌then◌else◌}
use Rattle.chaos_packet.specs.declared.limits.TheConstants.{HEADER_WORDS, MAX_DATA}
use Rattle.chaos_packet.specs.declared.fault.PacketFault.{PacketFault}
use Rattle.chaos_packet.specs.declared.fault.PacketFault.TheVariants.{Short, BadCount, Truncated}
use Rattle.chaos_packet.specs.Packet.{PacketView}

-- the bytes of words, of each word the low half first
abbrev pub halves : List ℕ → List ℕ
halves [] = []
halves (w ∷ ws) = w % 256 ∷ w / 256 ∷ halves ws

-- how many words this many bytes fill
abbrev pub words_for : ℕ → ℕ
words_for count = (count + 1) / 2

-- The words hold the bytes, two to a word, the first in the low half. With an odd count the last high half is free.
pub record Holds (ws bs : List ℕ) : Type 0 where
  pub size : length ws ≡ words_for (length bs)
  pub bytes : bs ≡ take (length bs) (halves ws)

-- The words are the packet's header and then its data, no more than a packet has. The low half of word 0 is free.
pub record Spells (p : PacketView) (ws : List ℕ) : Type 0 where
  pub header : HEADER_WORDS ≤ length ws
  pub op : slice_index ws 0 / 256 ≡ p.op
  pub count : slice_index ws 1 ≡ 4096 * p.fwd + length p.body
  pub dst : slice_index ws 2 ≡ p.dst
  pub dst_index : slice_index ws 3 ≡ p.dst_index
  pub src : slice_index ws 4 ≡ p.src
  pub src_index : slice_index ws 5 ≡ p.src_index
  pub num : slice_index ws 6 ≡ p.num
  pub ack : slice_index ws 7 ≡ p.ack
  pub small : length p.body ≤ MAX_DATA
  pub body : Holds (drop HEADER_WORDS ws) p.body

-- the number of data bytes that a header counts
abbrev pub count_of : List ℕ → ℕ
count_of ws = slice_index ws 1 % 4096

-- The free halves are zero: the low half of word 0 and, with an odd count, the high half of the last word.
pub record HasZeroHalves (ws : List ℕ) : Type 0 where
  pub first : slice_index ws 0 % 256 ≡ 0
  pub last : count_of ws % 2 ≡ 1 → slice_index ws (length ws - 1) / 256 ≡ 0

-- At most one packet is spelled by any words.
abbrev pub AtMostOnePacket : Type 0
AtMostOnePacket = (p q : PacketView) (ws : List ℕ) → Spells p ws → Spells q ws → p ≡ q

-- ---- The same as functions of the words and of the packet, for crates that compute with them

-- the first fault of these words: too few for a header, too great a count, too few for the count
abbrev pub words_fault : List ℕ → Option PacketFault
words_fault ws = if nat_lt (length ws) HEADER_WORDS then Some Short
    else (if nat_lt MAX_DATA (count_of ws) then Some BadCount
    else (if nat_lt (length ws) (HEADER_WORDS + words_for (count_of ws)) then Some Truncated else None))

-- the header of the words, with these data bytes
abbrev pub packet_with : List ℕ → List ℕ → PacketView
packet_with ws bs = record {
  op = slice_index ws 0 / 256;
  fwd = slice_index ws 1 / 4096;
  dst = slice_index ws 2;
  dst_index = slice_index ws 3;
  src = slice_index ws 4;
  src_index = slice_index ws 5;
  num = slice_index ws 6;
  ack = slice_index ws 7;
  body = bs;
}

-- the packet at the front of words without a fault
abbrev pub packet_at : List ℕ → PacketView
packet_at ws = packet_with ws (take (count_of ws) (halves (take (words_for (count_of ws)) (drop HEADER_WORDS ws))))

-- the words that hold these bytes, with a free last half of zero
abbrev pub packed : List ℕ → List ℕ
packed [] = []
packed (a ∷ []) = a ∷ []
packed (a ∷ b ∷ bs) = (a + 256 * b) ∷ packed bs

-- the header of a packet, with a zero free half
abbrev pub header_of : PacketView → List ℕ
header_of p =
    256 * p.op ∷ (4096 * p.fwd + length p.body) ∷ p.dst ∷ p.dst_index ∷ p.src ∷ p.src_index ∷ p.num ∷ p.ack ∷ []

-- the words that spell a packet, with zero free halves
abbrev pub spelling_of : PacketView → List ℕ
spelling_of p =
    256 * p.op ∷ (4096 * p.fwd + length p.body) ∷ p.dst ∷ p.dst_index ∷ p.src ∷ p.src_index ∷ p.num ∷ p.ack
    ∷ packed p.body
