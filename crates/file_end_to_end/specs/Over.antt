-- What an operation by a client is worth.
--
--    the client before  -- the engine's steps: Writes, Turns, Reads, .. -->    the client after: `Done`
--         |                                                                         |
--      a world          -- these steps, and moves of the server -------------->  a file net behind the world, in which the
--                                                                                operation is done
use Rattle.std.specs.Prelude.{◌≡◌, ℕ, true, List, [], ◌∷◌, Option}
use Rattle.chaos_link.specs.Link.{Ask, QueueView}
use Rattle.chaos_file.specs.declared.limits.TheConstants.{MAX_NAME}
use Rattle.chaos_file.specs.Names.{is_name}
use Rattle.chaos_file.specs.Store.{Files}
use Rattle.chaos_net.specs.Net.{Name}
use Rattle.file_copy.specs.Ends.{login_command, login_reply}
use Rattle.file_copy.specs.Talk.{History, Talked}
use Rattle.file_client.specs.Pace.{Pace, clock_pace}
use Rattle.file_client.specs.Talk.{Talker, Step, Says, talker}
use Rattle.file_client.specs.declared.client.Client.{Client}
use Rattle.file_client.specs.declared.clock_driver.ClockDriver.{ClockDriver}
use Rattle.file_net.specs.FileNet.{FileNet}
use Rattle.file_copy.specs.Operation.{Operation, CanDo, CanDoAll, all_commands, all_replies, commands_of, replies_of}
use Rattle.file_net.specs.Operations.{AreDone, IsDone}
use Rattle.file_transfer.specs.Sessions.{Does, HasDone}
use Rattle.file_end_to_end.specs.System.{FileStandsFor}
use Rattle.file_end_to_end.specs.World.{World, system_of, IsCalling, IsIdle, IsTalk, Lasts, heard_by, said_by}

module _ {C L : Type 0} where
  -- the engine of a client, and what its clock shows
  abbrev pub engine_of : (L → Option QueueView) → Client (ClockDriver C L) → Talker
  engine_of queue client = talker client.host.now.caller (queue client.driver.link.now)

  abbrev pub pace_of : (C → ℕ → Type 0) → Client (ClockDriver C L) → Pace
  pace_of shows client = clock_pace (shows client.driver.clock.now) client.driver.timing

-- ---- one operation, by a user who is idle

-- If the engine took exactly these steps since a file net f, in which the engine's user was idle, then the operation is done, and
-- the user is idle again.
abbrev pub IsDoneBy : {S : Type 0} → Files → List Step → Operation → FileNet → Name → Name → World S → FileNet → Type 0
IsDoneBy m steps operation f a c w g = w.steps ≡ steps → (user : List ℕ) → IsIdle f a c user → CanDo operation
    → IsDone m g.history c (said_by f a) operation × IsIdle g a c user

-- The first of these states of a client stands at a moment that the client's clock showed. From the first state to the second, the
-- engine took steps, and asked its link exactly what these steps ask. In each world in which the engine takes these steps, the
-- operation is done, whatever the server and the network do meanwhile.
abbrev pub DoneInWorlds : {C L S : Type 0} → (C → ℕ → Type 0) → (L → Option QueueView) → (L → L → List Ask → Type 0)
    → (S → Option Files) → (S → List ℕ → ℕ → List ℕ → Type 0) → (S → ℕ) → Client (ClockDriver C L)
    → Client (ClockDriver C L) → Operation → Type 0
DoneInWorlds {C} {L} {S} shows queue asked contents may_give count old new operation =
    (pace_of shows old).Shows old.host.now.now
    → (says : Says (pace_of shows old) (asked new.driver.link.now old.driver.link.now) (engine_of queue old) (record { sent = commands_of operation; received = replies_of operation }) (engine_of queue new))
    × ((m : Files) (k : ℕ) (w : World S) (f : FileNet) (a c : Name) → FileStandsFor contents m (system_of w) f
    → IsCalling w f a c → w.client ≡ engine_of queue old → w.steps ≡ []
    → Lasts contents may_give count m (pace_of shows old) (IsDoneBy m says.talks.steps operation f a c) k w f)

-- ---- all operations over one connection

-- what is sent and received in a session
abbrev pub session_talk : List ℕ → List Operation → Talked
session_talk user operations = record {
  sent = login_command user ∷ all_commands operations;
  received = login_reply user ∷ all_replies operations;
}

-- The engine's connection is open, and the connection c of B serves it. Over it, and in all steps that the engine took so far,
-- nothing was written and nothing was read.
pub record IsUnused {S : Type 0} (w : World S) (f : FileNet) (a c : Name) : Type 0 where
  pub calling : IsCalling w f a c
  pub unsaid : said_by f a ≡ []
  pub unheard : heard_by f a ≡ []
  pub silent : IsTalk w.steps [] []

-- If the engine took exactly these steps, then all these operations are done.
abbrev pub AreDoneBy : {S : Type 0} → Files → List Step → List ℕ → List Operation → Name → World S → FileNet → Type 0
AreDoneBy m steps user operations c w g = w.steps ≡ steps → is_name 1 MAX_NAME user ≡ true → CanDoAll operations
    → AreDone m g.history c (login_command user ∷ []) operations

-- From the first state of a client, which has just asked for a connection, to the second, the engine took steps: the user logged
-- in and did operations. Take each world in which the connection was opened after some of these steps, and in which the engine
-- takes the others. There all operations are done, whatever the server and the network do meanwhile.
abbrev pub SessionsInWorlds : {C L S : Type 0} → (C → ℕ → Type 0) → (L → Option QueueView) → (L → L → List Ask → Type 0)
    → (S → Option Files) → (S → List ℕ → ℕ → List ℕ → Type 0) → (S → ℕ) → Client (ClockDriver C L)
    → Client (ClockDriver C L) → List ℕ → List Operation → Type 0
SessionsInWorlds {C} {L} {S} shows queue asked contents may_give count old new user operations =
    (says : Says (pace_of shows old) (asked new.driver.link.now old.driver.link.now) (engine_of queue old) (session_talk user operations) (engine_of queue new))
    × ((m : Files) (k : ℕ) (w : World S) (f : FileNet) (a c : Name) → FileStandsFor contents m (system_of w) f
    → IsUnused w f a c
    → Lasts contents may_give count m (pace_of shows old) (AreDoneBy m says.talks.steps user operations c) k w f)

-- ---- what the contracts of file_transfer lead to

module _ {C L S : Type 0} (talked : Client (ClockDriver C L) → History (Client (ClockDriver C L)))
    (connects : Client (ClockDriver C L) → Client (ClockDriver C L) → Type 0) (shows : C → ℕ → Type 0)
    (queue : L → Option QueueView) (asked : L → L → List Ask → Type 0) (contents : S → Option Files)
    (may_give : S → List ℕ → ℕ → List ℕ → Type 0) (count : S → ℕ) where
  -- What a client sent and received of an operation since a state does the operation, if the user was idle in that state.
  abbrev pub OperationsAreDone : Type 0
  OperationsAreDone = (old new : Client (ClockDriver C L)) (operation : Operation)
      → Does talked operation old new → DoneInWorlds shows queue asked contents may_give count old new operation

  -- A session of operations, from its connection on, does all operations.
  abbrev pub SessionsAreDone : Type 0
  SessionsAreDone = (user : List ℕ) (old new : Client (ClockDriver C L)) (operations : List Operation)
      → HasDone talked connects user old operations new
      → (begun : Client (ClockDriver C L)) × connects old begun
      × SessionsInWorlds shows queue asked contents may_give count begun new user operations
