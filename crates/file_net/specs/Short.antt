-- Short runs, and one short run in which the server serves two clients. So the laws aren't empty.
--
--      A, host 401 octal                         B, host 402
--                                                listens to FILE
--      connects, and connects again  -- RFC, RFC -->
--                                                accepts both
--                                    <-- OPN, OPN --
--      each writes a LOGIN           -- data, data -->
--                                                has both LOGINs, the first client's LOGIN first
--                                                serves the second client, and then the first client
--                                    <-- data, data --
--      the second client reads its reply
use Rattle.std.specs.Prelude.{◌≡◌, ◌≤◌, ℕ, false, List, [], ◌∷◌, length, codes}
use Rattle.std.specs.FinMap as map
use Rattle.std.specs.List.{AllByRecursion}
use Rattle.chaos_packet.specs.Opcode.{op_data}
use Rattle.chaos_conn.specs.Config.{usual_config}
use Rattle.chaos_conn.specs.Act.Call.{Accept, Write, Read}
use Rattle.chaos_host.specs.Deeds.HostEvent.{Calls, Connects, Listens}
use Rattle.chaos_file.specs.Store.{Files}
use Rattle.chaos_lab.specs.declared.side.Side.TheVariants.{A, B}
use Rattle.chaos_net.specs.Net.{Name, Net, IsNew, new_station}
use Rattle.chaos_net.specs.Net.NetEvent.{At, Arrives}
use Rattle.chaos_net.specs.Present.{read_of}
use Rattle.chaos_net.specs.Short.{IsAnyAge}
use Rattle.file_lab.specs.Bodies.{data_bodies}
use Rattle.file_net.specs.History.{AsDefined}
use Rattle.file_net.specs.FileNet.{FileNet, FileEvent, Nets, Serves, FileReached, file_happens, new_file_net, is_by_server}

-- the file net after some events, one after the other
abbrev pub after_file_events : FileNet → List FileEvent → FileNet
after_file_events f [] = f
after_file_events f (event ∷ events) = after_file_events (file_happens f event) events

-- any event of users, clocks and the network, of any age; if the server serves a connection, then neither memory nor the
-- store fails
abbrev pub IsPlain : FileEvent → Type 0
IsPlain (Nets event) = IsAnyAge event × (is_by_server event ≡ false)
IsPlain (Serves id now way) = way ≡ AsDefined

-- Whatever at most 128 such events lead to from two new hosts is reached, since each packet that comes is fresh. So the
-- laws hold after such a run with no premise on the age of packets.
abbrev pub ShortFileLaw : Type 0
ShortFileLaw =
    (m : Files) (start : Net) (events : List FileEvent) → IsNew (start A) → IsNew (start B) → length events ≤ 128
    → AllByRecursion IsPlain events → FileReached m (after_file_events (new_file_net start m) events)

-- ---- two clients

-- two new hosts of two slots each
abbrev pub two_hosts : Net
two_hosts A = new_station 257 2 usual_config
two_hosts B = new_station 258 2 usual_config

-- The indices of the connections are 1 and 2 at either host. A's packets 0 and 1 are RFCs, packets 2 and 3 are STSs that A
-- sends as the connections open, and packets 4 and 5 are data. B's packets 0 and 1 are OPNs, and packets 2 and 3 are the
-- replies.
abbrev pub logins : List FileEvent
logins =
    Nets (At B (Listens (codes "FILE")))
    ∷ Nets (At A (Connects 258 (codes "FILE") 100 1))
    ∷ Nets (At A (Connects 258 (codes "FILE") 200 1))
    ∷ Nets (Arrives B 0 2)
    ∷ Nets (Arrives B 1 2)
    ∷ Nets (At B (Calls 1 (Accept 300 3)))
    ∷ Nets (At B (Calls 2 (Accept 400 3)))
    ∷ Nets (Arrives A 0 4)
    ∷ Nets (Arrives A 1 4)
    ∷ Nets (At A (Calls 1 (Write op_data (codes "1  LOGIN ANN") 5)))
    ∷ Nets (At A (Calls 2 (Write op_data (codes "1  LOGIN BOB") 5)))
    ∷ Nets (Arrives B 4 6)
    ∷ Nets (Arrives B 5 6)
    ∷ Serves 2 7 AsDefined
    ∷ Serves 1 7 AsDefined
    ∷ Nets (Arrives A 2 8)
    ∷ Nets (At A (Calls 2 Read))
    ∷ []

-- the first connections of a host's slots
abbrev pub first_of : ℕ → Name
first_of place = record { place = place; turn = 0 }

-- The file net after these events is reached. The history has both commands, and the second client has read its reply.
pub record TwoAreServed : Type 0 where
  pub reached : FileReached map.empty (after_file_events (new_file_net two_hosts map.empty) logins)
  pub history : (after_file_events (new_file_net two_hosts map.empty) logins).history
      ≡ record { by = first_of 1; command = codes "1  LOGIN BOB"; way = AsDefined; reply = codes "1  LOGIN BOB" }
      ∷ record { by = first_of 0; command = codes "1  LOGIN ANN"; way = AsDefined; reply = codes "1  LOGIN ANN" } ∷ []
  pub read : data_bodies (read_of (((after_file_events (new_file_net two_hosts map.empty) logins).net A).story (first_of 1)))
      ≡ codes "1  LOGIN BOB" ∷ []
