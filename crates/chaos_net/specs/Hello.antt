-- A run of eight events, by which something is read: the law isn't empty.
--
--      A, host 401 octal                B, host 402
--                                       listens to HELLO
--      connects           -- RFC -->
--                                       accepts
--                        <-- OPN --
--      writes `Hello`     -- data -->
--                                       reads it
use Rattle.std.specs.Prelude.{◌≡◌, List, [], ◌∷◌, codes}
use Rattle.chaos_packet.specs.Opcode.{op_data}
use Rattle.chaos_conn.specs.Config.{usual_config}
use Rattle.chaos_conn.specs.Opening.{rfc_item}
use Rattle.chaos_conn.specs.Act.Call.{Accept, Write, Read}
use Rattle.chaos_host.specs.Deeds.HostEvent.{Calls, Connects, Listens}
use Rattle.chaos_lab.specs.declared.side.Side.TheVariants.{A, B}
use Rattle.chaos_net.specs.Present.{read_of}
use Rattle.chaos_net.specs.Net.{Name, Net, NetEvent, Reached, new_station, after_events}
use Rattle.chaos_net.specs.Net.NetEvent.{At, Arrives}

-- two new hosts of one slot each
abbrev pub two_hosts : Net
two_hosts A = new_station 257 1 usual_config
two_hosts B = new_station 258 1 usual_config

-- The index of each host's first connection is 1. A sends its RFC, an STS as it opens, and the data: packets 0, 1 and
-- 2. B sends its OPN, packet 0.
abbrev pub hello : List NetEvent
hello =
    At B (Listens (codes "HELLO"))
    ∷ At A (Connects 258 (codes "HELLO") 100 1)
    ∷ Arrives B 0 2
    ∷ At B (Calls 1 (Accept 200 3))
    ∷ Arrives A 0 4
    ∷ At A (Calls 1 (Write op_data (codes "Hello") 5))
    ∷ Arrives B 2 6
    ∷ At B (Calls 1 Read)
    ∷ []

-- the first connection of a host
abbrev pub first_name : Name
first_name = record { place = 0; turn = 0 }

-- The net after it is reached, and there B's connection has read the request and the data.
pub record SomethingIsRead : Type 0 where
  pub reached : Reached (after_events two_hosts hello)
  pub read : read_of (((after_events two_hosts hello) B).story first_name)
      ≡ rfc_item (codes "HELLO") ∷ record { op = op_data; body = codes "Hello" } ∷ []
