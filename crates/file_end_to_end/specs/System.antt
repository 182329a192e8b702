-- A client host, a server of FILE and the datagrams between the two.
--
--      client at A                                                       server of FILE at B
--    +-------------------+   every datagram that A ever posted  -->   +----------------------+
--    | host: connections |                                            | host, sessions       |
--    | a1 a2 a3 ..       |   <--  every datagram that B ever posted   | store: files         |
--    +-------------------+   late, twice, out of order or never       +----------------------+
--      ^ users: any calls                                               ^ turns alone
--
-- A step is a turn of either program, in which a datagram of the other program comes or no datagram; or a step is a call of one of
-- A's users. There is a file net behind the two programs. So the laws of FILE over a network are laws of these programs.
use Rattle.std.specs.Prelude.{◌≡◌, ℕ, zero, suc, true, List, [], ◌∷◌, length, Option, Some, None, ⊤}
use Rattle.chaos_file.specs.declared.limits.TheConstants.{MAX_NAME}
use Rattle.chaos_file.specs.Names.{is_name}
use Rattle.chaos_file.specs.Store.{Files, change}
use Rattle.chaos_host.specs.Deeds.HostEvent.{Listens}
use Rattle.chaos_lab.specs.declared.side.Side.{Side}
use Rattle.chaos_lab.specs.declared.side.Side.TheVariants.{A, B}
use Rattle.chaos_net.specs.System.{System, Step, Steps, IsFreshStep, IsNewSeat, StandsFor}
use Rattle.chaos_net.specs.System.Step.{Turn, Calls}
use Rattle.file_server.specs.Server.{Server}
use Rattle.file_server.specs.Sessions.{serving_at}
use Rattle.file_end_to_end.specs.Program.{Program, Client, Serves, program_host, program_turns, program_upon}
use Rattle.file_net.specs.FileNet.{FileNet, FileEvent, FileRun, FileReached, HasOneHistory, ClientsAreServed}
use Rattle.file_copy.specs.Ends.{login_command, login_reply}
use Rattle.chaos_net.specs.Net.{Name, Story}
use Rattle.file_net.specs.Operations as among
use Rattle.file_copy.specs.Operation.{Operation, all_commands, all_replies, CanDoAll}
use Rattle.file_net.specs.Operations.{Talks, AreDone}
use Rattle.file_end_to_end.specs.Server.{IsServer}

-- a client
abbrev pub IsClient : {S : Type 0} → Program S → Type 0
IsClient (Client host) = ⊤
IsClient (Serves server) = ⊥

-- the server at B of a file net
abbrev pub IsServerOf : {S : Type 0} → (S → Option Files) → FileNet → Program S → Type 0
IsServerOf contents f (Client host) = ⊥
IsServerOf contents f (Serves server) = IsServer contents server f

-- A file net that is reached from these files stands for a system with a client at A and a server at B.
pub record FileStandsFor {S : Type 0} (contents : S → Option Files) (m : Files) (s : System (Program S))
    (f : FileNet) : Type 0 where
  pub reached : FileReached m f
  pub net : StandsFor program_host s f.net
  pub client : IsClient (s A).program
  pub server : IsServerOf contents f (s B).program

-- The server keeps its sessions and its store. Only the server's host may change.
abbrev pub StaysSame : {S : Type 0} → Program S → Program S → Type 0
StaysSame (Serves server) (Serves left) = (left.sessions ≡ server.sessions) × (left.store ≡ server.store)
StaysSame p q = ⊥

-- A user of A makes any call, and A stays a client. The only call of B's owner is to listen. Any turn may come.
abbrev pub MayStep : {S : Type 0} → System (Program S) → System (Program S) → Step → Type 0
MayStep s t (Calls A event) = IsClient (t A).program
MayStep s t (Calls B (Listens contact)) = StaysSame (s B).program (t B).program
MayStep s t (Calls B event) = ⊥
MayStep s t (Turn side number start now) = ⊤

module _ {S : Type 0} (contents : S → Option Files) (may_give : S → List ℕ → ℕ → List ℕ → Type 0) (count : S → ℕ)
    (m : Files) where
  -- A file net stands for the system, and this stays so for a number of steps, whatever the steps are. If each packet that
  -- comes in a step is fresh, then a run leads to a file net that stands for the system after the step.
  abbrev pub FileStays : ℕ → System (Program S) → FileNet → Type 0
  FileStays zero s f = FileStandsFor contents m s f
  FileStays (suc k) s f = FileStandsFor contents m s f
      × ((step : Step) (t : System (Program S))
      → Steps program_host (program_turns (change contents may_give count)) s step t → MayStep s t step
      → IsFreshStep program_upon f.net s step
      → (g : FileNet) × (events : List FileEvent) × FileRun f events g × FileStays k t g)

  -- This stays so for any number of steps.
  abbrev pub FileSystemsStay : Type 0
  FileSystemsStay = (k : ℕ) (s : System (Program S)) (f : FileNet) → FileStandsFor contents m s f → FileStays k s f

  -- a new server keeps nothing for any slot, and the server's store keeps these files
  pub record IsNewServer (server : Server S) : Type 0 where
    pub files : contents server.store ≡ Some m
    pub count_is : length server.sessions ≡ length server.host.slots
    pub none : (place : ℕ) → (serving_at server.sessions place).id ≡ None

  abbrev pub IsNewProgram : Program S → Type 0
  IsNewProgram (Client host) = ⊥
  IsNewProgram (Serves server) = IsNewServer server

  -- There is a file net that stands for a new client and a new server.
  abbrev pub NewFileSystemsStand : Type 0
  NewFileSystemsStand = (s : System (Program S)) → ((x : Side) → IsNewSeat program_host (s x)) → IsClient (s A).program
      → IsNewProgram (s B).program → (f : FileNet) × FileStandsFor contents m s f

  -- The law of FILE over a network holds for each file net that stands for a system.
  abbrev pub FileSystemsHold : Type 0
  FileSystemsHold =
      (s : System (Program S)) (f : FileNet) → FileStandsFor contents m s f → HasOneHistory m f × ClientsAreServed f

  -- The law of operations holds too. A client of A logged in, then did operations, one after another, and has read all
  -- replies. Then each file that the client got is the file that the server had, and each file that the client put became
  -- the file at that path. Each DELETE took the file away, and each RENAME moved the file.
  abbrev pub FileSystemsServe : Type 0
  FileSystemsServe =
      (s : System (Program S)) (f : FileNet) (a c : Name) (story : Story) (name : List ℕ) (operations : List Operation)
      → FileStandsFor contents m s f → among.IsClient f a story c → is_name 1 MAX_NAME name ≡ true → CanDoAll operations
      → Talks story [] [] (login_command name ∷ all_commands operations) (login_reply name ∷ all_replies operations)
      → AreDone m f.history c (login_command name ∷ []) operations
