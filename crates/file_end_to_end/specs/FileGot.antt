-- One whole run of a client's engine and a server of FILE, over real datagrams: the laws of worlds aren't empty.
--
--      the engine, host 401 octal                        the server, host 402 octal, listens to FILE
--   1  asks for FILE
--   2  a turn                      -- 0, RFC -->
--   3                                                    0 comes, a turn: the request is accepted
--                                  <-- 0, OPN --
--   4  0 comes, a turn             -- 1, STS -->         never comes
--   5  writes LOGIN, OPEN WRITE and WRITE
--   6  a turn                      -- 2, LOGIN -->
--                                  -- 3, OPEN -->        never comes
--                                  -- 4, WRITE -->
--   7                                                    2 comes, a turn: LOGIN is served
--                                  <-- 1, the reply --
--   8                                                    2 comes again, a turn
--      never comes                 <-- 2, STS --
--   9  1 comes, a turn; reads the reply to LOGIN
--  10                                                    4 comes, a turn
--  11  a turn
-- 511  a turn                      -- 5, OPEN again -->
--                                  -- 6, WRITE again --> never comes
-- 512                                                    5 comes, a turn: OPEN is served
--                                  <-- 3, the reply --
-- 513                                                    a turn: WRITE is served
--                                  <-- 4, the reply --
-- 514  4 comes, a turn
-- 515  3 comes late, a turn; reads the replies to OPEN and to WRITE
-- 516  writes CLOSE
-- 517  a turn                      -- 7, CLOSE -->
-- 518                                                    7 comes, a turn: CLOSE is served, and the file is there
--                                  <-- 5, the reply --
-- 519  5 comes, a turn; reads the reply to CLOSE
-- 520  writes OPEN READ
-- 521  a turn                      -- 8, OPEN -->
-- 522                                                    8 comes, a turn: OPEN is served
--                                  <-- 6, the reply --
-- 523  6 comes, a turn; reads the reply to OPEN
-- 524  writes READ, READ and CLOSE
-- 525  a turn                      -- 9, READ -->
--                                  -- 10, READ -->
--                                  -- 11, CLOSE -->
-- 526                                                    10 comes, a turn
-- 527                                                    9 comes late, a turn: the first READ is served
--                                  <-- 7, the bytes --
-- 528                                                    a turn: the second READ is served
--                                  <-- 8, EOF --
-- 529                                                    11 comes, a turn: CLOSE is served
--                                  <-- 9, the reply --
-- 530  8 comes, a turn
-- 531  7 comes late, a turn; reads the bytes, and EOF
-- 532  9 comes, a turn; reads the reply to CLOSE
use Rattle.std.specs.Prelude.{◌≡◌, ℕ, true, false, List, [], ◌∷◌, ◌++◌, Option, Some, None, codes, ⊤}
use Rattle.chaos_file.specs.declared.limits.TheConstants.{MAX_NAME}
use Rattle.chaos_file.specs.Names.{is_name}
use Rattle.chaos_file.specs.Command.{Close, OpenRead, OpenWrite, Read, Write}
use Rattle.chaos_file.specs.Spelling.{spelling_of}
use Rattle.chaos_file.specs.Store.{Files}
use Rattle.chaos_file.specs.Answer.{AtEnd, Closed, Given, Opened, Wrote}
use Rattle.chaos_link.specs.Link.{Ask}
use Rattle.chaos_net.specs.Net.{Name}
use Rattle.file_copy.specs.Copy.{reply_of}
use Rattle.file_copy.specs.Ends.{login_command, login_reply, tids_from}
use Rattle.file_copy.specs.Row.{file_handle}
use Rattle.file_client.specs.Caller.{asked}
use Rattle.file_client.specs.Pace.{Pace, clock_pace, usual_timing}
use Rattle.file_copy.specs.Talk.{Talked}
use Rattle.file_client.specs.Talk.{Anything, Says, command_item, talker, Writes as EngineWrites, Reads as EngineReads, Turns as EngineTurns}
use Rattle.file_copy.specs.Operation.{Operation, Get, Put, CanDo, CanDoAll, all_commands, all_replies, commands_of, replies_of}
use Rattle.file_net.specs.Operations.{AreDone, IsDone}
use Rattle.file_net.specs.FileNet.{FileNet, FileEvent, FileRun}
use Rattle.file_end_to_end.specs.Beginning.{IsFinished, asking_world, asks_in}
use Rattle.file_end_to_end.specs.Over.{session_talk}
use Rattle.file_end_to_end.specs.System.{FileStandsFor}
use Rattle.file_end_to_end.specs.TwoClients.{contents, count, may_give}
use Rattle.file_end_to_end.specs.World.{World, system_of, Move, EngineSteps, ServerTurns, Moves, IsFreshMove, IsCalling, IsIdle, IsNewWorld, IsTalk, said_by}

-- a clock that may show anything; the connection that is asked for at moment 1 begins with number 100
abbrev pub pace : Pace
pace = clock_pace (λ time. ⊤)
    (usual_timing (record { first = 99; passed = 0; start = record { secs = 0; nanos = 0 } }))

-- ---- the lines of a run

-- the engine writes a command, which is taken; the engine reads a reply; the engine takes a turn, in which the server's datagram
-- with this number comes, or none; the server takes a turn, in which the engine's datagram with this number comes, or none
pub data Line : Type 0 where
  Writes : (command : List ℕ) → (now : ℕ) → Line
  Reads : (reply : List ℕ) → Line
  Turns : (now : ℕ) → (number : Option ℕ) → Line
  Serves : (number : Option ℕ) → (start now : ℕ) → Line

-- the move that a line is
abbrev pub IsLine : Line → Move → Type 0
IsLine (Writes command now) move = move ≡ EngineSteps (EngineWrites (command_item command) now true) None
IsLine (Reads reply) move = move ≡ EngineSteps (EngineReads (Some reply)) None
IsLine (Turns now number) move = (asks : List Ask) × (move ≡ EngineSteps (EngineTurns now asks) number)
IsLine (Serves number start now) move = move ≡ ServerTurns number start now

-- The line is a move from one world to another, in which the engine asks for no other connection. What comes in the move is fresh.
-- The move's events are a run from one file net to another, which stands for the world after the move.
pub record Leads (m : Files) (w : World Files) (f : FileNet) (line : Line) (t : World Files) (g : FileNet) : Type 0 where
  pub move : Move
  pub is_line : IsLine line move
  pub moves : Moves contents may_give count pace w move t
  pub timely : asks_in w.client.caller move ≡ false
  pub fresh : IsFreshMove f w move
  pub events : List FileEvent
  pub run : FileRun f events g
  pub stands : FileStandsFor contents m (system_of t) g

-- Each of some lines leads on.
abbrev pub AllLead : Files → World Files → FileNet → List Line → World Files → FileNet → Type 0
AllLead m w f [] t g = (t ≡ w) × (g ≡ f)
AllLead m w f (line ∷ lines) t g =
    (u : World Files) × (h : FileNet) × Leads m w f line u h × AllLead m u h lines t g

-- ---- the run

abbrev pub user : List ℕ
user = codes "ANN"

abbrev pub path : List ℕ
path = codes "A"

abbrev pub bytes : List ℕ
bytes = codes "HI"

-- the file is put, and then got
abbrev pub put_copy : Operation
put_copy = Put (tids_from 1) file_handle path bytes

abbrev pub get_copy : Operation
get_copy = Get (tids_from 4) file_handle path bytes

abbrev pub opening : List Line
opening = Turns 2 None ∷ Serves (Some 0) 300 3 ∷ Turns 4 (Some 0) ∷ []

abbrev pub putting : List Line
putting =
    Writes (login_command user) 5
    ∷ Writes (spelling_of (tids_from 1 0) file_handle (OpenWrite path)) 5
    ∷ Writes (spelling_of (tids_from 1 1) file_handle (Write bytes)) 5
    ∷ Turns 6 None
    ∷ Serves (Some 2) 0 7
    ∷ Serves (Some 2) 0 8
    ∷ Turns 9 (Some 1)
    ∷ Reads (login_reply user)
    ∷ Serves (Some 4) 0 10
    ∷ Turns 11 None
    ∷ Turns 511 None
    ∷ Serves (Some 5) 0 512
    ∷ Serves None 0 513
    ∷ Turns 514 (Some 4)
    ∷ Turns 515 (Some 3)
    ∷ Reads (reply_of (tids_from 1 0) file_handle (Opened 0))
    ∷ Reads (reply_of (tids_from 1 1) file_handle (Wrote 2))
    ∷ Writes (spelling_of (tids_from 1 2) file_handle Close) 516
    ∷ Turns 517 None
    ∷ Serves (Some 7) 0 518
    ∷ Turns 519 (Some 5)
    ∷ Reads (reply_of (tids_from 1 2) file_handle (Closed 2))
    ∷ []

abbrev pub getting : List Line
getting =
    Writes (spelling_of (tids_from 4 0) file_handle (OpenRead path)) 520
    ∷ Turns 521 None
    ∷ Serves (Some 8) 0 522
    ∷ Turns 523 (Some 6)
    ∷ Reads (reply_of (tids_from 4 0) file_handle (Opened 2))
    ∷ Writes (spelling_of (tids_from 4 1) file_handle Read) 524
    ∷ Writes (spelling_of (tids_from 4 2) file_handle Read) 524
    ∷ Writes (spelling_of (tids_from 4 3) file_handle Close) 524
    ∷ Turns 525 None
    ∷ Serves (Some 10) 0 526
    ∷ Serves (Some 9) 0 527
    ∷ Serves None 0 528
    ∷ Serves (Some 11) 0 529
    ∷ Turns 530 (Some 8)
    ∷ Turns 531 (Some 7)
    ∷ Reads (reply_of (tids_from 4 1) file_handle (Given bytes))
    ∷ Reads (reply_of (tids_from 4 2) file_handle AtEnd)
    ∷ Turns 532 (Some 9)
    ∷ Reads (reply_of (tids_from 4 3) file_handle (Closed 2))
    ∷ []

-- all of it in one session
abbrev pub operations : List Operation
operations = put_copy ∷ get_copy ∷ []

abbrev pub lines : List Line
lines = opening ++ (putting ++ getting)

-- the same world, whose steps are counted from now on
abbrev pub from_now : World Files → World Files
from_now w = record w { steps = [] }

-- what the contract of an operation that is Done says of the engine's talk
abbrev pub talk_for : Operation → Talked
talk_for operation = record { sent = commands_of operation; received = replies_of operation }

-- ---- what it comes to

-- From a new world over any files on, the engine asks for FILE, and the lines lead to worlds in which the premises of law_world
-- hold, and in which a file was put and then got.
pub record FileIsGot (m : Files) : Type 0 where
  -- a new engine, and a new server over these files
  pub new : World Files
  pub is_new : IsNewWorld contents m new
  pub new_net : FileNet
  pub begins : FileStandsFor contents m (system_of new) new_net
  -- the engine asks for a connection
  pub asking : World Files
  pub asks : asking
      ≡ asking_world new (talker (asked (pace.starts 1) 1 pace.wait new.client.caller) new.client.queue) [] []
  pub asking_net : FileNet
  pub asking_events : List FileEvent
  pub asking_run : FileRun new_net asking_events asking_net
  pub asking_stands : FileStandsFor contents m (system_of asking) asking_net
  -- the connection opens
  pub ready : World Files
  pub open_net : FileNet
  pub opens : AllLead m asking asking_net opening ready open_net
  pub a : Name
  pub c : Name
  pub calling : IsCalling ready open_net a c
  -- the user logs in, and the file is put
  pub put : World Files
  pub put_net : FileNet
  pub puts : AllLead m (from_now ready) open_net putting put put_net
  pub put_talk : IsTalk put.steps (login_command user ∷ all_commands (put_copy ∷ [])) (login_reply user ∷ all_replies (put_copy ∷ []))
  pub put_says : Says pace Anything ready.client (session_talk user (put_copy ∷ [])) put.client
  pub put_steps : put_says.talks.steps ≡ put.steps
  pub can_put : CanDo put_copy
  pub is_put : AreDone m put_net.history c (login_command user ∷ []) (put_copy ∷ [])
  pub idle_then : IsIdle put_net a c user
  -- the file is got
  pub got : World Files
  pub got_net : FileNet
  pub gets : AllLead m (from_now put) put_net getting got got_net
  pub get_talk : IsTalk got.steps (commands_of get_copy) (replies_of get_copy)
  pub get_says : Says pace Anything put.client (talk_for get_copy) got.client
  pub get_steps : get_says.talks.steps ≡ got.steps
  pub can_get : CanDo get_copy
  pub is_got : IsDone m got_net.history c (said_by put_net a) get_copy
  pub calling_still : IsCalling got got_net a c
  pub idle_still : IsIdle got_net a c user
  -- The lines are also one session, from the engine on that has just asked. All premises of `begins` of law_done hold, and so the
  -- session is finished.
  pub last : World Files
  pub last_net : FileNet
  pub leads : AllLead m asking asking_net lines last last_net
  pub same : last ≡ record got { steps = last.steps }
  pub says : Says pace Anything asking.client (session_talk user operations) last.client
  pub steps : says.talks.steps ≡ last.steps
  pub named : is_name 1 MAX_NAME user ≡ true
  pub can_all : CanDoAll operations
  pub finished : IsFinished m user operations last last_net
