-- A server of FILE in a file net, and the server's turns.
--
--      a turn:   what came     each slot is served     what has ended is closed and released     ticks that no timer holds back
--      events:   Arrives,      Serves, one for         Ends, Releases,                           Ticks, one for each
--                Accept        each command            one for each slot                         slot that is ticked
use Rattle.std.specs.Prelude.{◌≡◌, ℕ, suc, ◌<◌, List, ◌++◌, length, Option, Some, None, ⊤}
use Rattle.chaos_packet.specs.Packet.{PacketView}
use Rattle.chaos_file.specs.Session.{SessionView}
use Rattle.chaos_file.specs.Store.{Files, change}
use Rattle.chaos_lab.specs.declared.side.Side.TheVariants.{A, B}
use Rattle.chaos_link.specs.Loads.{packets_of}
use Rattle.chaos_net.specs.Net.{Name, Story, index_of}
use Rattle.chaos_node.specs.Arrive.{Arrival}
use Rattle.chaos_net.specs.Come.{ComeFrom, ComeFresh}
use Rattle.chaos_net.specs.MadeTurns.{packets_sent}
use Rattle.file_server.specs.Server.{Server}
use Rattle.file_server.specs.Sessions.{Serving, serving_at}
use Rattle.file_end_to_end.specs.Turns.{accepts_upon, server_turns}
use Rattle.file_net.specs.FileNet.{FileNet, FileEvent, FileRun, FileReached}

-- the present connection of the slot at a place, or the next connection if the slot is free, by the turns of the slots
abbrev pub name_at : (ℕ → ℕ) → ℕ → Name
name_at turns place = record { place = place; turn = turns place }

-- the index of the connection before this connection, or no index
abbrev pub IsOld : (ℕ → ℕ) → ℕ → Option ℕ → Type 0
IsOld turns place None = ⊤
IsOld turns place (Some id) =
    (last : ℕ) × (turns place ≡ suc last) × (id ≡ index_of (record { place = place; turn = last }))

-- What a server keeps for a slot between the server's turns. For a slot in use: the index and the session of the slot's
-- connection. For a free slot: what the server kept for the connection before.
pub record IsKept (turns : ℕ → ℕ) (stories : Name → Option Story) (sessions : Name → SessionView) (place : ℕ)
    (serving : Serving) : Type 0 where
  pub used : (s : Story) → stories (name_at turns place) ≡ Some s
      → (serving.id ≡ Some (index_of (name_at turns place))) × (serving.session ≡ sessions (name_at turns place))
  pub free : stories (name_at turns place) ≡ None → IsOld turns place serving.id

-- The server is the server at B: the server has B's host, the server's store keeps the files, and what the server keeps for
-- each slot is right.
pub record IsServer {S : Type 0} (contents : S → Option Files) (s : Server S) (f : FileNet) : Type 0 where
  pub host : (f.net B).host ≡ s.host
  pub files : contents s.store ≡ Some f.service.files
  pub count : length s.sessions ≡ length s.host.slots
  pub slots : (place : ℕ) → place < length s.host.slots
      → IsKept (f.net B).turn (f.net B).story f.service.session place (serving_at s.sessions place)

-- A run of events leads to a file net whose server is the server after the turn, and B has sent what went out, in order. A
-- does nothing.
pub record TurnIsRun {S : Type 0} (contents : S → Option Files) (f g : FileNet) (t : Server S)
    (lots : List (List PacketView)) : Type 0 where
  pub events : List FileEvent
  pub run : FileRun f events g
  pub server : IsServer contents t g
  pub sent : packets_sent (g.net B) ≡ packets_sent (f.net B) ++ packets_of lots
  pub far : g.net A ≡ f.net A

-- This holds for each turn of a server over a store that keeps its files honestly, if A sent the packets that came, and
-- each packet was fresh when that packet came.
abbrev pub ServerTurnsAreFileRuns : {S : Type 0} → (S → Option Files) → (S → List ℕ → ℕ → List ℕ → Type 0) → (S → ℕ)
    → Type 0
ServerTurnsAreFileRuns {S} contents may_give count =
    (m : Files) (f : FileNet) (numbers : List ℕ) (came : Arrival) (start now : ℕ) (s t : Server S)
    (lots : List (List PacketView))
    → FileReached m f → IsServer contents s f → ComeFrom f.net B numbers came
    → ComeFresh (accepts_upon start now) f.net B now numbers came
    → server_turns (change contents may_give count) came start now s t lots
    → (g : FileNet) × TurnIsRun contents f g t lots
