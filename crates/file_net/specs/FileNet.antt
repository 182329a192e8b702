-- FILE over a network. Host B serves FILE to all its connections from one store.
--
--        host A                  the network                  host B
--    user --- connection a1  ...............  connection c1 --- session \
--    user --- connection a2  ...............  connection c2 --- session  >-- files
--    user --- connection a3  ...............  connection c3 --- session /
--
--    the history     c2: LOGIN    c1: OPEN     c2: OPEN     c1: READ     c3: DELETE
--                        LOGIN        OPEN 3       ERROR        READ         DELETE
--
-- An event is any event of the network, except that B's users neither read nor write. Or an event is that B's server serves one of
-- B's connections: the server reads the command in front, carries the command out, and writes the reply. The history has each
-- command that the server served, in the order in which the server served the commands.
--
-- The law: the files are what FILE's definition computes from the history, in which each connection has a session of its own.
-- What a connection of B has read and written are that connection's commands and replies in the history. So the replies that the
-- user of a client has read are a prefix of the replies in the history, and the commands in the history are a prefix of the
-- commands that this user has written. However much the network loses, repeats, reorders and delays, each command acts once, in
-- one order that all clients share.
use Rattle.std.specs.Prelude.{◌≡◌, ℕ, Bool, true, false, List, [], ◌∷◌, ◌++◌, Option, Some, ⊤}
use Rattle.chaos_packet.specs.Begins.{Begins}
use Rattle.chaos_packet.specs.Opcode.{op_data}
use Rattle.chaos_conn.specs.Act.{Call}
use Rattle.chaos_conn.specs.Act.Call.{Write, Read, FinishRead}
use Rattle.chaos_host.specs.Deeds.HostEvent.{Calls}
use Rattle.chaos_file.specs.Store.{Files}
use Rattle.chaos_file.specs.ServeWork.{Work}
use Rattle.chaos_file.specs.ServeWork.Work.{LastItem, Command}
use Rattle.chaos_file.specs.ServeCalls.{work_at}
use Rattle.chaos_lab.specs.declared.side.Side.TheVariants.{A, B}
use Rattle.chaos_net.specs.Net.{Name, Story, Net, NetEvent, IsNew, happens}
use Rattle.chaos_net.specs.Net as net
use Rattle.chaos_net.specs.Net.NetEvent.{At, Arrives}
use Rattle.chaos_net.specs.Present.{named, read_of, written_of}
use Rattle.file_lab.specs.Bodies.{data_bodies}
use Rattle.file_net.specs.History.{Way, Transaction, Service, MayGo, reply_by, new_service, after_one, after_all, AreRight, commands_by, replies_to}

-- both hosts and the network; the files and B's sessions; and all commands that the server served, the oldest command first
pub record FileNet : Type 0 where
  pub net : Net
  pub service : Service
  pub history : List Transaction

-- ---- events

-- an event of the network; or the server serves the connection of B that has this own index, once, at a moment, in this way
pub data FileEvent : Type 0 where
  Nets : (event : NetEvent) → FileEvent
  Serves : (id now : ℕ) → (way : Way) → FileEvent

abbrev pub transaction_of : Service → Name → List ℕ → Way → Transaction
transaction_of v c command way = record {
  by = c;
  command = command;
  way = way;
  reply = reply_by v.files (v.session c) command way;
}

-- the server reads the item in front of a connection of B
abbrev pub after_reading : Net → ℕ → Net
after_reading n id = happens n (At B (Calls id FinishRead))

-- the server reads a command, carries the command out, and writes the reply
abbrev pub after_transaction : FileNet → ℕ → ℕ → Transaction → FileNet
after_transaction f id now t = record {
  net = happens (after_reading f.net id) (At B (Calls id (Write op_data t.reply now)));
  service = after_one f.service t;
  history = f.history ++ t ∷ [];
}

-- by the work at the connection; the server reads an EOF and does not answer
abbrev pub served_by : FileNet → ℕ → ℕ → Way → Option Work → FileNet
served_by f id now way (Some LastItem) = record f { net = after_reading f.net id }
served_by f id now way (Some (Command body)) =
    after_transaction f id now (transaction_of f.service (named (f.net B) id) body way)
served_by f id now way _ = f

abbrev pub file_happens : FileNet → FileEvent → FileNet
file_happens f (Nets event) = record f { net = happens f.net event }
file_happens f (Serves id now way) = served_by f id now way (work_at (f.net B).host id)

-- ---- runs

-- the calls that read and write items
abbrev pub is_item_call : Call → Bool
is_item_call (Write op bytes now) = true
is_item_call Read = true
is_item_call FinishRead = true
is_item_call _ = false

-- only B's server reads and writes at B
abbrev pub is_by_server : NetEvent → Bool
is_by_server (At B (Calls id call)) = is_item_call call
is_by_server _ = false

-- a command may go in this way
abbrev pub CanServe : FileNet → ℕ → Way → Option Work → Type 0
CanServe f id way (Some (Command body)) = MayGo (f.service.session (named (f.net B) id)) body way
CanServe f id way _ = ⊤

abbrev pub CanHappen : FileNet → FileEvent → Type 0
CanHappen f (Nets event) = net.CanHappen f.net event × (is_by_server event ≡ false)
CanHappen f (Serves id now way) = CanServe f id way (work_at (f.net B).host id)

abbrev pub FileRun : FileNet → List FileEvent → FileNet → Type 0
FileRun f [] g = g ≡ f
FileRun f (event ∷ events) g = CanHappen f event × FileRun (file_happens f event) events g

-- two hosts and these files, before the server served anything
abbrev pub new_file_net : Net → Files → FileNet
new_file_net n m = record { net = n; service = new_service m; history = [] }

-- a run of events leads here from two new hosts and these files
pub record FileReached (m : Files) (f : FileNet) : Type 0 where
  pub start : Net
  pub a : IsNew (start A)
  pub b : IsNew (start B)
  pub events : List FileEvent
  pub run : FileRun (new_file_net start m) events f

-- ---- the law

-- The files and the sessions are what the history leads to from the files at the start, and each reply in the history is the
-- right reply at that point. What a connection of B, past or present, has read and written are the connection's commands
-- and replies in the history.
pub record HasOneHistory (m : Files) (f : FileNet) : Type 0 where
  pub service : f.service ≡ after_all (new_service m) f.history
  pub right : AreRight (new_service m) f.history
  pub commands : (c : Name) → data_bodies (read_of ((f.net B).story c)) ≡ commands_by c f.history
  pub replies : (c : Name) → data_bodies (written_of ((f.net B).story c)) ≡ replies_to c f.history

-- For a client and the connection of B that serves it: what the client's user has read is a prefix of the replies in the
-- history, and the commands in the history are a prefix of what the client's user has written.
pub record IsServedBy (f : FileNet) (s : Story) (c : Name) : Type 0 where
  pub replies : Begins (data_bodies s.end.read) (replies_to c f.history)
  pub commands : Begins (commands_by c f.history) (data_bodies s.end.written)

-- This holds for every client that was opened, past or present, after every run.
abbrev pub ClientsAreServed : FileNet → Type 0
ClientsAreServed f = (a : Name) (s : Story) (c : Name) → (f.net A).story a ≡ Some s → s.asked ≡ true → s.peer ≡ Some c
    → IsServedBy f s c

abbrev pub FileNetLaw : Type 0
FileNetLaw = (m : Files) (f : FileNet) → FileReached m f → HasOneHistory m f × ClientsAreServed f

-- The history grows only at its end, whatever happens. So a command that was served before an event stands before each
-- command that was served after the event. Once any client has read a reply, all clients see the effect of that command.
abbrev pub HistoriesGrow : Type 0
HistoriesGrow = (f g : FileNet) (events : List FileEvent) → FileRun f events g → Begins f.history g.history
