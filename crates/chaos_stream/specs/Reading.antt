-- Reading bytes from a stream.
use Rattle.std.specs.Prelude.{◌≡◌, ℕ, ◌+◌, ◌<◌, ◌≤◌, Bool, true, false, nat_le, if◌then◌else◌, List, [], ◌∷◌, ◌++◌, length, take, drop}
use Rattle.chaos_packet.specs.Item.{ItemView}
use Rattle.chaos_packet.specs.Opcode.{kind_of}
use Rattle.chaos_packet.specs.Packet.{PacketView}
use Rattle.chaos_packet.specs.Outbox.{OutboxView, with_put}
use Rattle.chaos_packet.specs.declared.opcode.Kind.{Kind}
use Rattle.chaos_packet.specs.declared.opcode.Kind.TheVariants as kind
use Rattle.chaos_conn.specs.View.{ConnView}
use Rattle.chaos_conn.specs.Calls.{act_read}
use Rattle.chaos_conn.specs.Act.{act, Read}
use Rattle.chaos_conn.specs.declared.answers.ReadEnd.{ReadEnd}
use Rattle.chaos_conn.specs.declared.answers.ReadEnd.TheVariants as end
use Rattle.chaos_stream.specs.Text.{Symbol, Mark, bytes_text, text_of}

-- what a look shows: the bytes that come next, an EOF, nothing yet, or nothing any more
pub data Sight : Type 0 where
  Bytes : (bytes : List ℕ) → Sight
  Eof Nothing Ended : Sight

-- what an item of a kind shows, with the bytes that are left of it. One that is neither data nor an EOF says nothing to
-- a stream's user, so it shows no bytes; no such item is ever there to be read.
abbrev pub item_sight : Kind → List ℕ → Sight
item_sight kind.Data rest = Bytes rest
item_sight kind.Eof rest = Eof
item_sight _ rest = Bytes []

-- what a look shows where a read would give this, from a place in its item on
abbrev pub read_sight : ReadEnd → ℕ → Sight
read_sight (end.Item item) place = item_sight (kind_of item.op) (drop place item.body)
read_sight end.Nothing place = Nothing
read_sight (end.Ended state) place = Ended

-- what a look at an end shows from a place in the item in front on
abbrev pub peek_of : ConnView → ℕ → Sight
peek_of v place = read_sight (act_read v).answer place

-- how many bytes a look lends
abbrev pub lent_by : Sight → ℕ
lent_by (Bytes bytes) = length bytes
lent_by _ = 0

-- this many bytes leave none of the item in front; an EOF has none
abbrev pub uses_up : Sight → ℕ → Bool
uses_up (Bytes bytes) count = nat_le (length bytes) count
uses_up Eof count = true
uses_up _ count = false

-- what a call leaves that consumes bytes: the place, the end, and the packets that it put out
pub record Consumed : Type 0 where
  pub place : ℕ
  pub view : ConnView
  pub packets : List PacketView

-- the item in front is read, and the place is at the next one's start
abbrev pub after_item : ConnView → Consumed
after_item v = record { place = 0; view = (act v Read).view; packets = (act v Read).packets }

-- the place alone moves
abbrev pub at_place : ConnView → ℕ → Consumed
at_place v place = record { place = place; view = v; packets = [] }

-- bytes consumed from a place on: where they use the item in front up, it is read
abbrev pub consume_of : ConnView → ℕ → ℕ → Consumed
consume_of v place count = if uses_up (peek_of v place) count then after_item v else at_place v (place + count)

-- A call consumed this many bytes: the place after it, the end, and the outbox.
pub record Consumes (old : ConnView) (old_place count : ℕ) (new_place : ℕ) (new : ConnView)
    (before after : OutboxView) : Type 0 where
  pub place : new_place ≡ (consume_of old old_place count).place
  pub view : new ≡ (consume_of old old_place count).view
  pub packets : after ≡ with_put before (consume_of old old_place count).packets
  pub few : length (consume_of old old_place count).packets ≤ 1
  pub config : new.config ≡ old.config

-- ---- what is read, as text

-- what a look shows, as text
abbrev pub sight_text : Sight → List Symbol
sight_text (Bytes bytes) = bytes_text bytes
sight_text Eof = Mark ∷ []
sight_text _ = []

-- the text of bytes that were passed over in an item of a kind
abbrev pub passed_text : Kind → List ℕ → List Symbol
passed_text kind.Data bytes = bytes_text bytes
passed_text _ bytes = []

-- The text of some items that were read, at least one, and then of the bytes that were passed over in the item in
-- front, and then what a look shows from there on, are the text of those items and the one in front.
abbrev pub LooksFollowText : Type 0
LooksFollowText =
    (read : List ItemView) (front : ItemView) (place : ℕ) → 0 < length read
    → text_of (read ++ front ∷ [])
    ≡ text_of read ++ passed_text (kind_of front.op) (take place front.body)
    ++ sight_text (item_sight (kind_of front.op) (drop place front.body))
