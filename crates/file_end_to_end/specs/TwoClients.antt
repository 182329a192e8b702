-- Two clients of a FILE server, interleaved over real datagrams: the laws of systems aren't empty.
--
--      A, host 401 octal                                  B, host 402 octal, serves FILE
--   a1 connects, a2 connects                              listens to FILE
--   a turn                   -- 0, RFC of a1 -->
--                            -- 1, RFC of a2 -->
--                                           1 comes       a turn: c1 is a2's
--                                           0 comes       a turn: c2 is a1's
--                            <-- 0, OPN to a2 --
--                            <-- 1, OPN to a1 --
--   a turn, a turn           1 comes, and then 0
--                            -- 2, STS of a1 -->          never comes
--                            -- 3, STS of a2 -->          never comes
--   a1 says LOGIN ANN, a2 says LOGIN BOB
--   a turn                   -- 4, LOGIN ANN -->
--                            -- 5, LOGIN BOB -->
--                                           5 comes       a turn: BOB is served
--                                           5 comes again a turn
--                                           4 comes       a turn: ANN is served
--                            <-- 2, reply to a2 --
--                            <-- the reply to a1 --       never comes
--   a turn, a2 reads         2 comes
use Rattle.std.specs.Prelude.{◌≡◌, ℕ, List, [], ◌∷◌, ◌++◌, Option, Some, None, codes}
use Rattle.chaos_packet.specs.Opcode.{op_data}
use Rattle.chaos_conn.specs.Config.{usual_config}
use Rattle.chaos_conn.specs.Act.Call.{Write, Read}
use Rattle.chaos_file.specs.Store.{Files, Found, change, look_for}
use Rattle.chaos_host.specs.Deeds.HostEvent.{Listens, Connects, Calls as Asks}
use Rattle.chaos_host.specs.View.{new_host}
use Rattle.chaos_lab.specs.declared.side.Side.{Side}
use Rattle.chaos_lab.specs.declared.side.Side.TheVariants.{A, B}
use Rattle.chaos_net.specs.Present.{read_of}
use Rattle.chaos_net.specs.MadeTurns.{packets_sent}
use Rattle.chaos_node.specs.Link.{read_all}
use Rattle.chaos_net.specs.System.{System, Step, Turn, Calls, Steps, IsFreshStep, IsNewSeat}
use Rattle.file_server.specs.Server.{server}
use Rattle.file_server.specs.Sessions.{new_serving}
use Rattle.file_lab.specs.Bodies.{data_bodies}
use Rattle.file_net.specs.FileNet.{FileNet, FileEvent, FileRun, FileReached, new_file_net}
use Rattle.file_net.specs.History.{AsDefined}
use Rattle.file_net.specs.Short.{first_of, two_hosts}
use Rattle.file_end_to_end.specs.Program.{Program, Client, Serves, program_host, program_turns, program_upon}
use Rattle.file_end_to_end.specs.System.{FileStandsFor, IsNewServer, MayStep}

-- ---- a store that is its files

abbrev pub contents : Files → Option Files
contents m = Some m

abbrev pub may_give : Files → List ℕ → ℕ → List ℕ → Type 0
may_give m path limit bytes = look_for m path limit ≡ Found bytes

-- it never fails
abbrev pub count : Files → ℕ
count m = 0

-- ---- the system, and its steps

-- a new client of two slots, and a new server of two slots over these files
abbrev pub two_programs : Files → System (Program Files)
two_programs m A = record { program = Client (new_host 257 2 usual_config); waiting = []; posts = [] }
two_programs m B = record {
  program = Serves (server (new_host 258 2 usual_config) (new_serving ∷ new_serving ∷ []) m);
  waiting = [];
  posts = [];
}

-- The indices of the connections are 1 and 2 at either host.
abbrev pub two_logins : List Step
two_logins =
    Calls B (Listens (codes "FILE"))
    ∷ Calls A (Connects 258 (codes "FILE") 100 1)
    ∷ Calls A (Connects 258 (codes "FILE") 200 1)
    ∷ Turn A None 0 2
    ∷ Turn B (Some 1) 300 3
    ∷ Turn B (Some 0) 400 4
    ∷ Turn A (Some 1) 0 5
    ∷ Turn A (Some 0) 0 6
    ∷ Calls A (Asks 1 (Write op_data (codes "1  LOGIN ANN") 7))
    ∷ Calls A (Asks 2 (Write op_data (codes "1  LOGIN BOB") 7))
    ∷ Turn A None 0 8
    ∷ Turn B (Some 5) 0 9
    ∷ Turn B (Some 5) 0 10
    ∷ Turn B (Some 4) 0 11
    ∷ Turn A (Some 2) 0 12
    ∷ Calls A (Asks 2 Read)
    ∷ []

-- The step leads from one system to another, and its events are a run from one file net to another. What comes in the
-- step is fresh.
pub record Leads (s : System (Program Files)) (f : FileNet) (step : Step) (t : System (Program Files))
    (g : FileNet) : Type 0 where
  pub is_step : Steps program_host (program_turns (change contents may_give count)) s step t
  pub may : MayStep s t step
  pub fresh : IsFreshStep program_upon f.net s step
  pub events : List FileEvent
  pub run : FileRun f events g

-- Each of some steps leads on.
abbrev pub AllLead : System (Program Files) → FileNet → List Step → System (Program Files) → FileNet → Type 0
AllLead s f [] t g = (t ≡ s) × (g ≡ f)
AllLead s f (step ∷ steps) t g =
    (u : System (Program Files)) × (h : FileNet) × Leads s f step u h × AllLead u h steps t g

-- ---- what they lead to

-- Over any files: from two new programs the steps lead to a system, and to a file net behind it. Its history has both
-- commands, in the order in which they were served. The second client has read its own reply, and the first has read
-- none.
pub record TwoAreServed (m : Files) : Type 0 where
  pub seats : (x : Side) → IsNewSeat program_host (two_programs m x)
  pub new : IsNewServer contents may_give count m (server (new_host 258 2 usual_config) (new_serving ∷ new_serving ∷ []) m)
  pub begins : FileStandsFor contents m (two_programs m) (new_file_net two_hosts m)
  pub system : System (Program Files)
  pub file_net : FileNet
  pub steps : AllLead (two_programs m) (new_file_net two_hosts m) two_logins system file_net
  -- the file net is reached; A's host is the client's; and what each host sent is what is read of the datagrams that its program
  -- posted, and what waits
  pub reached : FileReached m file_net
  pub client : (file_net.net A).host ≡ program_host (system A).program
  pub sent : (x : Side) → packets_sent (file_net.net x) ≡ read_all (system x).posts ++ (system x).waiting
  pub history : file_net.history
      ≡ record { by = first_of 0; command = codes "1  LOGIN BOB"; way = AsDefined; reply = codes "1  LOGIN BOB" }
      ∷ record { by = first_of 1; command = codes "1  LOGIN ANN"; way = AsDefined; reply = codes "1  LOGIN ANN" } ∷ []
  pub second : data_bodies (read_of ((file_net.net A).story (first_of 1))) ≡ codes "1  LOGIN BOB" ∷ []
  pub first : data_bodies (read_of ((file_net.net A).story (first_of 0))) ≡ []
