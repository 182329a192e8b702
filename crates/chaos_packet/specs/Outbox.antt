-- What contracts see of an outbox.
use Rattle.std.specs.Prelude.{ℕ, ◌-◌, List, ◌++◌, length, drop}
use Rattle.chaos_packet.specs.Packet.{PacketView}

-- the packets that wait to be sent, the oldest first, and how many there may be
pub record OutboxView : Type 0 where
  pub packets : List PacketView
  pub cap : ℕ

-- how many more packets fit
abbrev pub room_of : OutboxView → ℕ
room_of out = out.cap - length out.packets

-- after these packets were put in, the oldest of them first
abbrev pub with_put : OutboxView → List PacketView → OutboxView
with_put out packets = record out { packets = out.packets ++ packets }

-- after the oldest packet was taken out, where there was one
abbrev pub without_oldest : OutboxView → OutboxView
without_oldest out = record out { packets = drop 1 out.packets }
