-- Writing bytes to a stream.
use Rattle.std.specs.Prelude.{◌≡◌, ℕ, zero, suc, ◌+◌, Bool, ◌&&◌, nat_lt, if◌then◌else◌, List, [], ◌∷◌, ◌++◌, length, take, drop, map}
use Rattle.chaos_packet.specs.Item.{ItemView}
use Rattle.chaos_packet.specs.Opcode.{op_data}
use Rattle.chaos_packet.specs.Packet.{PacketView, item_of}
use Rattle.chaos_packet.specs.Outbox.{OutboxView, room_of, with_put}
use Rattle.chaos_packet.specs.declared.limits.TheConstants.{MAX_DATA}
use Rattle.chaos_conn.specs.View.{ConnView}
use Rattle.chaos_conn.specs.Calls.{can_write}
use Rattle.chaos_conn.specs.Act.{act, Write}
use Rattle.chaos_stream.specs.Text.{bytes_text, items_text}

-- ---- cuts

-- at most so many cuts of bytes: each takes as many as a packet can have, the last what is left, and none is empty
abbrev pub first_cuts : ℕ → List ℕ → List (List ℕ)
first_cuts zero bytes = []
first_cuts (suc count) [] = []
first_cuts (suc count) (b ∷ bs) = take MAX_DATA (b ∷ bs) ∷ first_cuts count (drop MAX_DATA (b ∷ bs))

-- all cuts of bytes, of which there are no more than bytes
abbrev pub cuts_of : List ℕ → List (List ℕ)
cuts_of bytes = first_cuts (length bytes) bytes

-- bytes as data
abbrev pub data_item : List ℕ → ItemView
data_item bytes = record { op = op_data; body = bytes }

-- bytes as items of data, a cut each
abbrev pub data_items : List ℕ → List ItemView
data_items bytes = map data_item (cuts_of bytes)

-- ---- the calls

-- one more packet of data can be written: the end takes it, and the outbox has room
abbrev pub can_put : ConnView → OutboxView → Bool
can_put v out = can_write v && nat_lt 0 (room_of out)

-- what a call leaves that puts bytes: the end, the outbox, and how many bytes it took
pub record Put : Type 0 where
  pub view : ConnView
  pub out : OutboxView
  pub taken : ℕ

-- with this many bytes taken before
abbrev pub after_taking : ℕ → Put → Put
after_taking count put = record put { taken = count + put.taken }

-- cuts written as data one after the other, while one more packet can be
abbrev pub put_cuts : ConnView → OutboxView → ℕ → List (List ℕ) → Put
put_cuts v out now [] = record { view = v; out = out; taken = 0 }
put_cuts v out now (cut ∷ cuts) =
    if can_put v out then
    after_taking (length cut)
    (put_cuts (act v (Write op_data cut now)).view (with_put out (act v (Write op_data cut now)).packets) now cuts)
    else record { view = v; out = out; taken = 0 }

-- bytes written as data, a cut a packet
abbrev pub put_of : ConnView → OutboxView → List ℕ → ℕ → Put
put_of v out bytes now = put_cuts v out now (cuts_of bytes)

-- A call put these bytes: the end after it, the outbox, and its answer.
pub record Puts (old : ConnView) (before : OutboxView) (bytes : List ℕ) (now : ℕ) (new : ConnView) (after : OutboxView)
    (taken : ℕ) : Type 0 where
  pub view : new ≡ (put_of old before bytes now).view
  pub out : after ≡ (put_of old before bytes now).out
  pub taken_is : taken ≡ (put_of old before bytes now).taken
  pub config : new.config ≡ old.config

-- Just these bytes went out as items of data, a cut a packet, and these are kept behind the items that were.
pub record SendsBytes (old new : ConnView) (before after : OutboxView) (bytes : List ℕ) : Type 0 where
  pub packets : List PacketView
  pub put_out : after ≡ with_put before packets
  pub sent : map item_of packets ≡ data_items bytes
  pub kept : new.send.kept ≡ old.send.kept ++ data_items bytes
  pub text : items_text (data_items bytes) ≡ bytes_text bytes
