-- The chain from a client's engine to the files: an engine and a server of FILE, each at its link, and the datagrams between them.
--
--   user: get, put, delete, rename                                         the files
--       | commands, replies, turns                                             |
--   +-------------------+   every datagram that the client posted -->   +-------------+
--   | client's engine,  |                                               | server,     |
--   | its connection a  |   <--  every datagram that the server posted  | its session |
--   +-------------------+    late, twice, out of order or never         +-------------+
--
-- A move is a step of the engine or a turn of the server. In a step the engine writes a command, reads a reply or takes a turn.
-- In a turn of either end the network hands over any datagram that the other end ever posted, or none. The law says what an
-- operation is worth, whatever the moves are, while each packet that comes is fresh.
use Rattle.std.specs.Prelude.{◌≡◌, ◌<◌, ◌⊎◌, ℕ, zero, suc, true, List, [], ◌∷◌, ◌++◌, length, map, replicate, Option, Some, None, ⊤}
use Rattle.chaos_conn.specs.Config.{ConfigView, IsConfig}
use Rattle.chaos_conn.specs.declared.state.State.TheVariants.{Open}
use Rattle.chaos_file.specs.declared.limits.TheConstants.{MAX_NAME}
use Rattle.chaos_file.specs.Names.{is_name}
use Rattle.chaos_file.specs.Store.{Files, change}
use Rattle.chaos_host.specs.Slot.{named_slot}
use Rattle.chaos_host.specs.View.{make_fault}
use Rattle.chaos_host.specs.declared.slot.Slot.{Slot}
use Rattle.chaos_lab.specs.declared.side.Side.TheVariants.{A, B}
use Rattle.chaos_link.specs.declared.carriage.Carriage.{Carriage}
use Rattle.chaos_link.specs.Link.{Addressed, Ask, Send, Receive}
use Rattle.chaos_net.specs.Net.{Name, Story}
use Rattle.chaos_net.specs.Present.{named, read_of, written_of}
use Rattle.chaos_node.specs.Arrive.{Arrival}
use Rattle.chaos_net.specs.Come.{ComeFresh, nothing_upon}
use Rattle.chaos_net.specs.System.{Hands, Seat, System, TakesTurn, handed, numbers_of}
use Rattle.file_copy.specs.Copy.{logged_in}
use Rattle.file_copy.specs.Ends.{login_command, login_reply}
use Rattle.file_client.specs.Caller.{CallerView, asked, closed, new_caller}
use Rattle.file_client.specs.Pace.{Pace}
use Rattle.file_client.specs.Talk.{Talker, Step, Calls as Asks, Turns, Does, command_item, talk_of}
use Rattle.file_server.specs.Server.{Server, server}
use Rattle.file_server.specs.Service.{host_after}
use Rattle.file_server.specs.Sessions.{new_serving}
use Rattle.file_server.specs.declared.limits.TheConstants.{SERVER_CONNS}
use Rattle.file_lab.specs.Bodies.{data_bodies}
use Rattle.file_net.specs.FileNet.{FileNet, FileEvent, FileRun}
use Rattle.file_copy.specs.Operation.{Operation, CanDo, CanDoAll, all_commands, all_replies, commands_of, replies_of}
use Rattle.file_net.specs.Operations.{AreDone, IsClient, IsDone}
use Rattle.file_end_to_end.specs.Program.{Program, Client, Serves}
use Rattle.file_end_to_end.specs.System.{FileStandsFor}
use Rattle.file_end_to_end.specs.Turns.{accepts_upon, server_host, server_turns}

-- ---- a client and a server

-- The client's engine, and each datagram that the engine ever posted; the server at its link; and the steps that the engine took
-- since a moment, the last step first.
pub record World (S : Type 0) : Type 0 where
  pub client : Talker
  pub posts : List Addressed
  pub server : Seat (Server S)
  pub steps : List Step

-- the engine and the server as two programs at their links
module _ {S : Type 0} where
  abbrev pub system_by : CallerView → List Addressed → Seat (Server S) → System (Program S)
  system_by caller posts server A = record { program = Client caller.host; waiting = caller.out.packets; posts = posts }
  system_by caller posts server B = record { program = Serves server.program; waiting = server.waiting; posts = server.posts }

  abbrev pub system_of : World S → System (Program S)
  system_of w = system_by w.client.caller w.posts w.server

-- ---- a turn of the engine

-- what came in a turn, as the engine's contract says
abbrev pub came_in : (p : Pace) (now : ℕ) (asks : List Ask) (c d : Talker) → Does p c (Turns now asks) d → Arrival
came_in p now asks c d does = does.1.1.1.4.came

-- the datagrams that a link was asked to send
abbrev pub sends_in : List Ask → List Addressed
sends_in [] = []
sends_in (Send datagram ∷ asks) = datagram ∷ sends_in asks
sends_in (Receive may_wait ∷ asks) = sends_in asks

-- ---- moves

-- a step of the engine, to which a datagram of the server with this number comes, if the step is a turn; or a turn of the server
pub data Move : Type 0 where
  EngineSteps : (step : Step) → (number : Option ℕ) → Move
  ServerTurns : (number : Option ℕ) → (start now : ℕ) → Move

-- The engine took a step. In a turn the datagram that the network handed over came, and the engine posted what it asked its link to
-- send.
abbrev pub Engages : {S : Type 0} → Pace → World S → Step → Option ℕ → World S → Type 0
Engages p w (Asks now) number t = ⊥
Engages p w (Turns now asks) number t =
    (does : Does p w.client (Turns now asks) t.client)
    × Hands w.server.posts number (came_in p now asks w.client t.client does) × (t.posts ≡ w.posts ++ sends_in asks)
Engages p w step number t = Does p w.client step t.client × (t.posts ≡ w.posts)

module _ {S : Type 0} (contents : S → Option Files) (may_give : S → List ℕ → ℕ → List ℕ → Type 0) (count : S → ℕ) where
  -- One end moved, and the other did nothing.
  abbrev pub Moves : Pace → World S → Move → World S → Type 0
  Moves p w (EngineSteps step number) t =
      Engages p w step number t × (t.server ≡ w.server) × (t.steps ≡ step ∷ w.steps)
  Moves p w (ServerTurns number start now) t =
      TakesTurn server_host (server_turns (change contents may_give count)) (handed w.posts number) start now w.server t.server
      × (t.client ≡ w.client) × (t.posts ≡ w.posts) × (t.steps ≡ w.steps)

-- Each packet of the datagram is fresh when that packet comes.
abbrev pub IsFreshMove : {S : Type 0} → FileNet → World S → Move → Type 0
IsFreshMove f w (EngineSteps (Turns now asks) number) =
    ComeFresh nothing_upon f.net A now (numbers_of w.server.posts number) (handed w.server.posts number)
IsFreshMove f w (EngineSteps step number) = ⊤
IsFreshMove f w (ServerTurns number start now) =
    ComeFresh (accepts_upon start now) f.net B now (numbers_of w.posts number) (handed w.posts number)

-- ---- the client's connection

-- the commands that the user of a connection of A has written, and the replies that this user has read
abbrev pub said_by : FileNet → Name → List (List ℕ)
said_by f a = data_bodies (written_of ((f.net A).story a))

abbrev pub heard_by : FileNet → Name → List (List ℕ)
heard_by f a = data_bodies (read_of ((f.net A).story a))

-- The engine's connection has the name a. The connection was opened, and the connection c of B serves it.
pub record IsCalling {S : Type 0} (w : World S) (f : FileNet) (a c : Name) : Type 0 where
  pub id : ℕ
  pub has : w.client.caller.id ≡ Some id
  pub named_so : named (f.net A) id ≡ a
  pub story : Story
  pub client : IsClient f a story c

-- The user has read a reply to each command, is logged in under this name, and has no file open.
pub record IsIdle (f : FileNet) (a c : Name) (user : List ℕ) : Type 0 where
  pub answered : length (heard_by f a) ≡ length (said_by f a)
  pub session : f.service.session c ≡ logged_in user

-- In these steps the engine wrote exactly these commands and read exactly these replies.
pub record IsTalk (steps : List Step) (commands replies : List (List ℕ)) : Type 0 where
  pub sent : (talk_of steps).sent ≡ map command_item commands
  pub received : (talk_of steps).received ≡ replies

-- ---- the law

-- What holds for a connection since a file net f, up to which the engine had written and read nothing in its steps.
pub record IsServed {S : Type 0} (m : Files) (f : FileNet) (a c : Name) (w : World S) (g : FileNet) : Type 0 where
  -- the connection is still there
  pub calling : IsCalling w g a c
  -- If the engine wrote exactly the commands of an operation and read exactly the replies, then the operation is done: a get has
  -- the bytes that the store had at the path when the OPEN was served; a put put exactly its bytes at the path when the CLOSE was
  -- served; a DELETE took the file away, and a RENAME moved the file, when the command was served. After the operation the user is
  -- idle again.
  pub done : (operation : Operation) (user : List ℕ) → IsIdle f a c user → CanDo operation
      → IsTalk w.steps (commands_of operation) (replies_of operation)
      → IsDone m g.history c (said_by f a) operation × IsIdle g a c user
  -- If the engine wrote LOGIN, and nothing before, and read the reply, then the user is idle.
  pub logged : (user : List ℕ) → said_by f a ≡ [] → heard_by f a ≡ [] → is_name 1 MAX_NAME user ≡ true
      → IsTalk w.steps (login_command user ∷ []) (login_reply user ∷ []) → IsIdle g a c user
  -- If the engine wrote LOGIN and then the commands of operations, and nothing before, and read exactly the replies, then all
  -- these operations are done, and the user is idle.
  pub session : (user : List ℕ) (operations : List Operation) → said_by f a ≡ [] → heard_by f a ≡ [] → is_name 1 MAX_NAME user ≡ true
      → CanDoAll operations
      → IsTalk w.steps (login_command user ∷ all_commands operations) (login_reply user ∷ all_replies operations)
      → AreDone m g.history c (login_command user ∷ []) operations × IsIdle g a c user

module _ {S : Type 0} (contents : S → Option Files) (may_give : S → List ℕ → ℕ → List ℕ → Type 0) (count : S → ℕ)
    (m : Files) (p : Pace) where
  -- A file net stands for the world, and the claim holds there. The same is true after each of a number of moves, whatever the
  -- moves are, while each packet that comes is fresh.
  abbrev pub Lasts : (World S → FileNet → Type 0) → ℕ → World S → FileNet → Type 0
  Lasts Claim zero w f = FileStandsFor contents m (system_of w) f × Claim w f
  Lasts Claim (suc k) w f = FileStandsFor contents m (system_of w) f × Claim w f
      × ((move : Move) (t : World S) → Moves contents may_give count p w move t → IsFreshMove f w move
      → (g : FileNet) × (events : List FileEvent) × FileRun f events g × Lasts Claim k t g)

  -- Whatever both ends and the network do, a client that was opened is served.
  abbrev pub WorldsLast : Type 0
  WorldsLast = (k : ℕ) (w : World S) (f : FileNet) (a c : Name) → FileStandsFor contents m (system_of w) f
      → IsCalling w f a c → IsTalk w.steps [] [] → Lasts (IsServed m f a c) k w f

-- ---- the start

module _ {S : Type 0} (contents : S → Option Files) (m : Files) where
  -- A new engine, as `Call::new` makes it for the contact FILE, and a new server, as `run_serve_by` makes it, over a store that keeps
  -- these files. Each has passed over some indices. No datagram was posted.
  pub record IsNewWorld (w : World S) : Type 0 where
    pub me : ℕ
    pub to : ℕ
    pub config : ConfigView
    pub indices : ℕ
    pub carriage : Carriage
    pub address_is : make_fault me 1 ≡ None
    pub config_is : IsConfig config
    pub engine : w.client.caller ≡ new_caller me to config carriage indices
    pub posts : w.posts ≡ []
    pub server_address : ℕ
    pub server_config : ConfigView
    pub store : S
    pub served_address_is : make_fault server_address SERVER_CONNS ≡ None
    pub served_config_is : IsConfig server_config
    pub files : contents store ≡ Some m
    pub passed : ℕ
    pub server : w.server.program ≡ server (host_after passed server_config server_address) (replicate SERVER_CONNS new_serving) store
    pub waiting : w.server.waiting ≡ []
    pub server_posts : w.server.posts ≡ []

  -- There is a file net that stands for a new world. What the connections sent that the engine and the server gave up before their
  -- first turns counts as posted and lost.
  abbrev pub WorldsBegin : Type 0
  WorldsBegin = (w : World S) → IsNewWorld w
      → (lost gone : List Addressed) × (f : FileNet)
      × FileStandsFor contents m (system_of (record w { posts = lost; server = record w.server { posts = gone } })) f

  -- If the engine closes its connection, or asks for a connection, then a run leads to a file net that stands for the world after
  -- that.
  abbrev pub ConnectionsAreAsked : Type 0
  ConnectionsAreAsked = (w : World S) (f : FileNet) (caller : CallerView) → FileStandsFor contents m (system_of w) f
      → ((caller ≡ closed w.client.caller)
      ⊎ ((start now wait : ℕ) × (start < 65536) × (caller ≡ asked start now wait w.client.caller)))
      → (g : FileNet) × (events : List FileEvent) × FileRun f events g
      × FileStandsFor contents m (system_by caller w.posts w.server) g

  -- If the host shows that the engine's connection is open, and that the engine asked for the connection, then the connection has a
  -- name, and a connection of B serves it.
  abbrev pub ConnectionsOpen : Type 0
  ConnectionsOpen = (w : World S) (f : FileNet) (id : ℕ) (slot : Slot) → FileStandsFor contents m (system_of w) f
      → w.client.caller.id ≡ Some id → named_slot w.client.caller.host.slots id ≡ Some slot → slot.conn.state ≡ Open
      → slot.conn.asked ≡ true → (a : Name) × (c : Name) × IsCalling w f a c
