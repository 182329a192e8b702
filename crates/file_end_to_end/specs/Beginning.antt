-- A session from a new world on: the engine asks for a connection, asks again if no OPN comes for long, logs in and does operations.
--
--    old -- asks for a connection --> begun -- steps: turns, asks again, turns, LOGIN, operation, operation, .. --> new
--     |                                 |                                                                           |
--    a new world: what either end       a file net behind     moves of engine, server and network,                  a file net in which
--    passed over was posted and lost    this world            while each packet that comes is fresh                 all operations are done
use Rattle.std.specs.Prelude.{◌≡◌, ℕ, zero, suc, Bool, true, false, List, [], ◌∷◌, Option}
use Rattle.chaos_file.specs.declared.limits.TheConstants.{MAX_NAME}
use Rattle.chaos_file.specs.Names.{is_name}
use Rattle.chaos_file.specs.Store.{Files}
use Rattle.chaos_link.specs.Link.{Addressed, Ask, QueueView}
use Rattle.chaos_net.specs.Net.{Name}
use Rattle.file_client.specs.Caller.{CallerView, asked_again, is_late}
use Rattle.file_client.specs.Pace.{Pace}
use Rattle.file_client.specs.Talk.{Says, Step, Talker, Turns}
use Rattle.file_client.specs.declared.client.Client.{Client}
use Rattle.file_client.specs.declared.clock_driver.ClockDriver.{ClockDriver}
use Rattle.file_copy.specs.Ends.{login_command}
use Rattle.file_copy.specs.Operation.{Operation, CanDoAll, all_commands}
use Rattle.file_copy.specs.Talk.{History}
use Rattle.file_net.specs.FileNet.{FileNet, FileEvent, FileRun}
use Rattle.file_net.specs.History.{commands_by}
use Rattle.file_net.specs.Operations.{AreDone}
use Rattle.file_transfer.specs.Sessions.{HasDone}
use Rattle.file_end_to_end.specs.Over.{engine_of, pace_of, session_talk}
use Rattle.file_end_to_end.specs.System.{FileStandsFor}
use Rattle.file_end_to_end.specs.World.{World, system_by, system_of, EngineSteps, IsCalling, IsFreshMove, IsNewWorld, Move, Moves}

-- ---- an engine that may ask again

-- whether the engine asks for another connection in the move
abbrev pub asks_in : CallerView → Move → Bool
asks_in caller (EngineSteps (Turns now asks) number) = is_late now caller
asks_in caller move = false

-- The engine as it is when the packets of the move come. An engine that asks for another connection asks before they come.
abbrev pub found_in : Pace → CallerView → Move → CallerView
found_in p caller (EngineSteps (Turns now asks) number) = asked_again p now caller
found_in p caller move = caller

module _ {S : Type 0} (contents : S → Option Files) (may_give : S → List ℕ → ℕ → List ℕ → Type 0) (count : S → ℕ)
    (m : Files) (p : Pace) where
  -- A run leads to a file net that stands for engine and server as they are when the packets of the move come. If the engine asks
  -- for no other connection, then the file net is the same as before.
  pub record Meets (w : World S) (f : FileNet) (move : Move) (met : FileNet) : Type 0 where
    pub events : List FileEvent
    pub run : FileRun f events met
    pub stands : FileStandsFor contents m (system_by (found_in p w.client.caller move) w.posts w.server) met
    pub same : asks_in w.client.caller move ≡ false → met ≡ f

  -- A file net stands for the world, and the claim holds there. The same is true after each of a number of moves, whatever the
  -- moves are, while each packet that comes is fresh in the file net in which the packet comes.
  abbrev pub LastsAsking : (World S → FileNet → Type 0) → ℕ → World S → FileNet → Type 0
  LastsAsking Claim zero w f = FileStandsFor contents m (system_of w) f × Claim w f
  LastsAsking Claim (suc k) w f = FileStandsFor contents m (system_of w) f × Claim w f
      × ((move : Move) (t : World S) → Moves contents may_give count p w move t
      → (met : FileNet) × Meets w f move met
      × (IsFreshMove met w move
      → (g : FileNet) × (events : List FileEvent) × FileRun met events g × LastsAsking Claim k t g))

-- ---- a session

-- The engine has a connection a, which a connection c of B serves. All operations of the session are done, and of c the server
-- served exactly the commands of the session, each once and in order.
pub record IsFinished {S : Type 0} (m : Files) (user : List ℕ) (operations : List Operation) (w : World S) (g : FileNet)
    : Type 0 where
  pub a : Name
  pub c : Name
  pub calling : IsCalling w g a c
  pub done : AreDone m g.history c (login_command user ∷ []) operations
  pub once : commands_by c g.history ≡ login_command user ∷ all_commands operations

-- If the engine took exactly these steps, then the session is finished.
abbrev pub FinishesBy : {S : Type 0} → Files → List Step → List ℕ → List Operation → World S → FileNet → Type 0
FinishesBy m steps user operations w g =
    w.steps ≡ steps → is_name 1 MAX_NAME user ≡ true → CanDoAll operations → IsFinished m user operations w g

-- The world after the engine asked. These datagrams were posted for indices that engine and server passed over, and are lost.
abbrev pub asking_world : {S : Type 0} → World S → Talker → List Addressed → List Addressed → World S
asking_world w engine lost gone =
    record w { client = engine; posts = lost; server = record w.server { posts = gone }; steps = [] }

module _ {C L S : Type 0} (shows : C → ℕ → Type 0) (queue : L → Option QueueView) (asked : L → L → List Ask → Type 0)
    (contents : S → Option Files) (may_give : S → List ℕ → ℕ → List ℕ → Type 0) (count : S → ℕ) where
  -- From the state of a client that has just asked for a connection to a later state, the engine took steps, and asked its link
  -- exactly what these steps ask. Take any new world of the engine as it was before it asked, and any moves after it asked. Once the
  -- engine took these steps, the session is finished.
  abbrev pub FinishesInWorlds : Client (ClockDriver C L) → Client (ClockDriver C L) → Client (ClockDriver C L) → List ℕ
      → List Operation → Type 0
  FinishesInWorlds old begun new user operations =
      (says : Says (pace_of shows begun) (asked new.driver.link.now begun.driver.link.now) (engine_of queue begun) (session_talk user operations) (engine_of queue new))
      × ((m : Files) (w : World S) → IsNewWorld contents m w → w.client ≡ engine_of queue old
      → (lost gone : List Addressed) × (f : FileNet)
      × ((k : ℕ) → LastsAsking contents may_give count m (pace_of shows begun)
      (FinishesBy m says.talks.steps user operations) k (asking_world w (engine_of queue begun) lost gone) f))

  -- A session of a client whose engine is new leads from a new world to a world in which all operations are done.
  abbrev pub SessionsBegin : (Client (ClockDriver C L) → History (Client (ClockDriver C L)))
      → (Client (ClockDriver C L) → Client (ClockDriver C L) → Type 0) → Type 0
  SessionsBegin talked connects = (user : List ℕ) (old new : Client (ClockDriver C L)) (operations : List Operation)
      → HasDone talked connects user old operations new
      → (begun : Client (ClockDriver C L)) × connects old begun × FinishesInWorlds old begun new user operations
