-- A server's turn that has begun, and what its phases do.
use Rattle.std.specs.Prelude.{◌≡◌, ◌<◌, ℕ, Bool, List, Some, length, slice_set}
use Rattle.chaos_packet.specs.Packet.{PacketView}
use Rattle.chaos_host.specs.View.{id_at}
use Rattle.chaos_link.specs.Link.{Asks}
use Rattle.chaos_link.specs.declared.link.Link.{Ghosts}
use Rattle.chaos_node.specs.InTurn.{IsSameTurn}
use Rattle.chaos_node.specs.Station.{Station, station}
use Rattle.chaos_node.specs.declared.turn.Turn.{Turn}
use Rattle.file_server.specs.Serve.{ServerDoes}
use Rattle.file_server.specs.Server.{Server, server}
use Rattle.file_server.specs.Sessions.{Serving, serving_at}
use Rattle.file_server.specs.Slots.{Options}
use Rattle.file_server.specs.declared.turn_input.TurnInput.{TurnInput}

-- what a turn with this input has
abbrev pub options_of : TurnInput → Options
options_of input = record { silence = input.silence; timers = input.timers.now }

module _ {L S : Type 0} {G : Ghosts L} where
  -- the server of a turn at its link: the turn's host, and the server's sessions and store
  abbrev pub server_in : Turn L G → List Serving → S → Station (Server S)
  server_in turn sessions store = station (server turn.host.now sessions store) (G.queue turn.link.now) turn.out.now

  -- A phase of the turn did this to the server, and packets went out or didn't.
  abbrev pub ServerTurnDoes : Turn L G → Turn L G → (Server S → Server S → List (List PacketView) → Type 0)
      → List Serving → List Serving → S → S → Bool → Type 0
  ServerTurnDoes before after does sessions sessions' store store' sent =
      ServerDoes (Asks (G.asked before.link.now) (G.asked after.link.now)) before.carriage does
      (server_in before sessions store) (server_in after sessions' store') sent
      × IsSameTurn before after

  -- A slot's session was this and is left as that. Whichever slot it is that has this connection and this session, the
  -- turn did this of the slot.
  abbrev pub SlotTurnDoes : Turn L G → Turn L G → (ℕ → Server S → Server S → List (List PacketView) → Type 0)
      → ℕ → Serving → Serving → S → S → Bool → Type 0
  SlotTurnDoes before after does id serving left store store' sent = (place : ℕ) → (sessions : List Serving)
      → id_at before.host.now place ≡ Some id → place < length sessions → serving ≡ serving_at sessions place
      → ServerTurnDoes before after (does place) sessions (slice_set sessions place left) store store' sent
