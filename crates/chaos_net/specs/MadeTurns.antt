-- What a run of events at one side does to a net.
--
--                  host at this side     packets that this side sent     the other station
--    before:       h                     p0 p1 .. pk                     s
--    after:        the effect's host     p0 p1 .. pk, then the lots      s
use Rattle.std.specs.Prelude.{◌≡◌, List, ◌++◌, map}
use Rattle.chaos_packet.specs.Packet.{PacketView}
use Rattle.chaos_link.specs.Loads.{packets_of}
use Rattle.chaos_lab.specs.declared.side.Side.{Side}
use Rattle.chaos_lab.specs.Machine.{other}
use Rattle.chaos_net.specs.Net.{Station, Net, NetEvent, Run}
use Rattle.chaos_node.specs.Phase.{Effect}

-- the packets that a station sent, the oldest packet first
abbrev pub packets_sent : Station → List PacketView
packets_sent st = map (λ q. q.packet) st.sent

-- A run of events leads from one net to another. At this side the host is the effect's host, and the host has sent the
-- packets of the effect's lots in addition, in order, and no other packet. The other station is unchanged.
pub record IsMade (n m : Net) (x : Side) (effect : Effect) : Type 0 where
  pub events : List NetEvent
  pub run : Run n events m
  pub host : (m x).host ≡ effect.host
  pub sent : packets_sent (m x) ≡ packets_sent (n x) ++ packets_of effect.lots
  pub far : m (other x) ≡ n (other x)

-- there is such a run
abbrev pub Makes : Net → Side → Effect → Type 0
Makes n x effect = (m : Net) × IsMade n m x effect
